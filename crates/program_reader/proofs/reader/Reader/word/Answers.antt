use Rattle.std.proofs.Common.{◌≡◌, ◌∙◌, ap, rules}
use Rattle.program_reader.specs.Values.{value_keyword, alone_keyword}
use Rattle.program_reader.specs.Steps.{read_scope, context_of}
use Rattle.program_reader.proofs.ValueLaws.{alone_read}
use Rattle.program_reader.proofs.reader.Reader.word.Goals as goal

pub returns-in-Some-Alone : goal.returns-in-Some-Alone
returns-in-Some-Alone c = record {
  answers_expression =
      let same : c.args.keyword ≡ alone_keyword c.in-Some-Alone.alone =
      c.in-Some-Alone.ensures.same_keyword ∙ ap value_keyword c.in-Some-Alone.field-0-is in
      let r = alone_read {own = (context_of c.args.place.now).thread} (read_scope c.args.self.now.scope)
      (context_of c.args.place.now) c.in-Some-Alone.alone _ _ _ _ same c.value.ensures.expression c.requires.at_keyword
      c.advance.ensures.after in
      record {
        no_longer = search rules;
        same = search rules;
        ok = r.ok;
        numbered = r.numbered;
        fits = r.fits;
        err = search rules;
      };
}

use Rattle.std.proofs.Common.{◌∙◌, ap, sym, rules}
use Rattle.program_tree.specs.Forms as form
use Rattle.program_tree.specs.Forms.{action, takes, ends}
use Rattle.program_reader.proofs.PlainLaws.{about_made}
use Rattle.program_reader.proofs.Runs.{begun, with_part, with_sign, action_read}
use Rattle.program_reader.proofs.reader.Reader.about.Goals as goal

pub returns : goal.returns
returns c = record {
  answers_action =
      let r = action_read
      (with_sign (with_part c.in_ok-number.ensures.same (begun c.args.self.now.scope c.begin.new.self.scope
      c.in_ok-begin.ensures.names c.in_ok-begin.ensures.ok
      (c.keyword.ensures.form ∙ ap (λ d. action (takes (form.name d) ends)) (sym c.class.ensures.class)))
      c.in_ok-number.ensures.ok c.in_ok-number.ensures.numbered c.in_ok-number.ensures.fits) c.in_ok-sign.ensures.ok)
      (about_made _ c.args.about _ c.keyword.ensures.keyword c.class.ensures.class c.action.ensures.action) in
      record {
        names = search rules;
        shorter = search rules;
        counts = search rules;
        ok = r.ok;
        numbered = r.numbered;
        fits = r.fits;
        err = search rules;
      };
}

use Rattle.std.proofs.Common.{ap, refl, rules}
use Rattle.program_tree.specs.Meaning.{any_of}
use Rattle.program_tree.specs.EventNames.{any_map}
use Rattle.program_tree.specs.Forms.{any}
use Rattle.program_tree.specs.InScope.{name_in}
use Rattle.program_tree.specs.Tree.{an_event, is}
use Rattle.program_tree.specs.declared.keyword.Keyword.TheVariants as word
use Rattle.program_reader.proofs.ExpressionSteps.{answer_reads}
use Rattle.program_reader.proofs.reader.Reader.is.Goals as goal

pub returns : goal.returns
returns c = record {
  answers_expression = record {
    no_longer = search rules;
    same = search rules;
    ok =
        answer_reads _ _ word.Is any (λ n. any_map (name_in n an_event) (any_of c.in_ok-event.event)) _ _ _ _ _
        c.requires.at_keyword refl c.advance.ensures.after c.in_ok-sign.ensures.ok c.in_ok-event.ensures.ok
        c.in_ok-sign-2.ensures.ok;
    numbered = λ n h. ap is (c.in_ok-event.ensures.numbered n h);
    fits = c.in_ok-event.ensures.fits;
    err = search rules;
  };
}

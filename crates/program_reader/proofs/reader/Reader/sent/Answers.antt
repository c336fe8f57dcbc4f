use Rattle.std.proofs.Common.{◌∙◌, ap, rules}
use Rattle.program_tree.specs.EventNames.{cast}
use Rattle.program_reader.specs.Machine.{first}
use Rattle.program_tree.specs.Forms as form
use Rattle.program_reader.proofs.EventSteps.{IsOther, sent_passes}
use Rattle.program_reader.proofs.ListLaws.{handed_on}
use Rattle.program_reader.proofs.reader.Reader.sent.Goals as goal

pub returns-in_ok-cast-in_default-clause-numbered : goal.returns-in_ok-cast-in_default-clause-numbered
returns-in_ok-cast-in_default-clause-numbered c = λ n h. ap cast (c.in_ok-cast-in_default.ensures.numbered n h)

pub returns-in_err-cast-in_default-clause-err : goal.returns-in_err-cast-in_default-clause-err
returns-in_err-cast-in_default-clause-err c = λ f e.
    let other : IsOther form.sent (first c.args.self.now.cursor) = search rules in
    λ more. sent_passes _ _ more _ other ∙ c.in_err-cast-in_default.ensures.err f
    (handed_on c.from_residual.ensures.1 e) more

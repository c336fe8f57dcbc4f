use Rattle.std.proofs.Common.{subst}
use Rattle.std.proofs.lemmas.Result.{on_ok_weaker}
use Rattle.program_reader.specs.CodeParts.{ReadsOpening}
use Rattle.program_reader.proofs.cursor.Cursor.opening_of.Goals as goal

pub returns-clause-ok : goal.returns-clause-ok
returns-clause-ok c = on_ok_weaker c.opening.result
    (λ h s. subst (λ x. ReadsOpening x s c.args.self.now c.opening.new.self) c.get.ensures.name (h s)) c.opening.ensures.ok

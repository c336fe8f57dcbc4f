use Rattle.claim_check.proofs.AskedAnswers.{first_of_two, other_of_two}
use Rattle.claim_check.proofs.conflicts.conflict_of.Goals as goal

pub returns-in-Some : goal.returns-in-Some
returns-in-Some c = record { value = first_of_two _ _ c.in-Some.ensures.value }

pub returns-in-None : goal.returns-in-None
returns-in-None c = record { value = other_of_two _ _ _ c.in-None.ensures.value c.conflict_of_files.ensures.value }

use Rattle.survey.specs.Joins.{Joins}
use Rattle.survey.proofs.workers.joined.Given as goal

abbrev pub invariant-loop-part : goal.invariant-loop-part
invariant-loop-part l = Joins l.yielded l.outcomes.items

use Rattle.std.proofs.Common.{◌≡◌, take}
use Rattle.net_survey.specs.Chosen.{faults_at}
use Rattle.net_survey.proofs.net_trial.chosen.Given as goal

abbrev pub invariant-loop-key : goal.invariant-loop-key
invariant-loop-key l = l.faults.items ≡ faults_at l.candidates (take l.key-index l.set)

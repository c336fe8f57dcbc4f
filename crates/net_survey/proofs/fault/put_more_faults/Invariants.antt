use Rattle.std.proofs.Common.{◌≡◌, ◌++◌, drop, string_bytes}
use Rattle.std.specs.List.{flat_map}
use Rattle.net_survey.specs.Chosen.{faults_at}
use Rattle.net_survey.specs.SurveyText.{next_fault}
use Rattle.net_survey.proofs.fault.put_more_faults.Given as goal

-- the text, followed by the text of what is left, is the final text
abbrev pub invariant-loop-key : goal.invariant-loop-key
invariant-loop-key l =
    string_bytes l.text ++ flat_map next_fault (faults_at l.candidates (drop l.key-index l.set))
    ≡ string_bytes l.initial.text ++ flat_map next_fault (faults_at l.candidates l.set)

use Rattle.std.proofs.Common.{◌≡◌, ◌++◌, drop, string_bytes}
use Rattle.std.specs.List.{flat_map}
use Rattle.net_survey.specs.SurveyText.{break_line}
use Rattle.net_survey.proofs.claim.put_breaks.Given as goal

-- the text, followed by the text of what is left, is the final text
abbrev pub invariant-loop-one : goal.invariant-loop-one
invariant-loop-one l =
    string_bytes l.text ++ flat_map (break_line l.candidates l.number) (drop l.one-index l.broken)
    ≡ string_bytes l.initial.text ++ flat_map (break_line l.candidates l.number) l.broken

use Rattle.std.proofs.Common.{◌≡◌, ◌++◌, drop, string_bytes}
use Rattle.net_survey.specs.SurveyText.{claims_text}
use Rattle.net_survey.proofs.report.put_claims.Given as goal

-- the text, followed by the text of what is left, is the final text
abbrev pub invariant-loop-place : goal.invariant-loop-place
invariant-loop-place l =
    string_bytes l.text ++ claims_text l.names l.candidates l.is_complete l.broken l.place (drop l.place l.claims)
    ≡ string_bytes l.initial.text ++ claims_text l.names l.candidates l.is_complete l.broken 0 l.claims

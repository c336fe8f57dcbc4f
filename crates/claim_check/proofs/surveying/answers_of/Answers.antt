use Rattle.claim_check.proofs.surveying.answers_of.Goals as goal

pub returns : goal.returns
returns c = record { tells_survey = (c.in_ok-text.ensures.text, c.is_settled-all_hold.ensures.value) }

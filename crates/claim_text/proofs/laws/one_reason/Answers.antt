use Rattle.claim_text.proofs.Reasons.{same_reason}
use Rattle.claim_text.proofs.laws.one_reason.Goals as goal

pub returns : goal.returns
returns c = record { same_text = same_reason }

use Rattle.fault_keys.proofs.OfferLaws.{nets_offer_all}
use Rattle.fault_keys.proofs.laws.nets_offer_all.Goals as goal

pub returns : goal.returns
returns c = record { nets_offer_all = nets_offer_all }

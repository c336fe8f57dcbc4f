use Rattle.fault_keys.proofs.Members.{keys_offer_all}
use Rattle.fault_keys.proofs.laws.keys_offer_all.Goals as goal

pub returns : goal.returns
returns c = record { keys_offer_all = keys_offer_all }

use Rattle.radio_faults.proofs.Copies.{fates_tell_copies}
use Rattle.radio_faults.proofs.laws.fates_tell_copies.Goals as goal

pub returns : goal.returns
returns c = record { fates_tell_copies = fates_tell_copies }

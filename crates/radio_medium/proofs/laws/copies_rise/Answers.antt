use Rattle.radio_medium.proofs.Copies.{copies_rising}
use Rattle.radio_medium.proofs.laws.copies_rise.Goals as goal

pub returns : goal.returns
returns c = record { copies_rise = copies_rising }

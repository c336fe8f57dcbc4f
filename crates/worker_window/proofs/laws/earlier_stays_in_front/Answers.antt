use Rattle.worker_window.proofs.AfterEarlier.{earlier_stays_in_front}
use Rattle.worker_window.proofs.laws.earlier_stays_in_front.Goals as goal

pub returns : goal.returns
returns c = record { earlier_stays_in_front = earlier_stays_in_front }

use Rattle.worker_window.proofs.AfterEarlier.{ends_with_its_wake}
use Rattle.worker_window.proofs.laws.ends_with_its_wake.Goals as goal

pub returns : goal.returns
returns c = record { ends_with_its_wake = ends_with_its_wake }

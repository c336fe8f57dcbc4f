-- Threads may share the window and the rest of the data of each worker's thread.
use Rattle.mote_net.proofs.NetCrossing.{net_sync}
use denote.Param.Send.{IsSync, sendable}
use denote.Param.SendFields.{declared_sync}
use denote.RattleType.{RattleType}
use denote.Ref.{NamedLft}
use Rattle.copy_inbox.proofs.inbox.Inbox.TheSendSync as inbox
use Rattle.window_workers.specs.contracts.joins.worker.Runner as Runner
use Rattle.window_workers.specs.contracts.joins.worker.WorkersWindow as WorkersWindow

window_sync : (κ : NamedLft) → IsSync (WorkersWindow.the_row κ)
window_sync κ = declared_sync (WorkersWindow.the_type κ) (search (net_sync, sendable), (search sendable, (search (inbox.the_sync, sendable), (search sendable, tt))))

pub runner_sync : (κ : NamedLft) (R G : RattleType) → IsSync R → IsSync G → IsSync (Runner.the_row κ R G)
runner_sync κ R G r g = let w = window_sync κ in declared_sync (Runner.the_type κ R G) (search sendable, (search sendable, (w, tt)))

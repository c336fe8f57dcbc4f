-- The first pending event.
use Rattle.std.specs.Prelude.{ℕ, List, Option}
use Rattle.std.specs.List.{AllByRecursion as Each}
use Rattle.radio_packet.specs.declared.copy.RadioCopy.{RadioCopy}
use Rattle.window_laws.specs.Windows.{NoneBefore}
use Rattle.worker_window.specs.declared.share.Share.{Share}
use Rattle.worker_window.specs.Next.{TellsNext}
use Rattle.window_workers.specs.WorkerGroup.{IsNotBefore}
use Rattle.window_workers.specs.declared.worker.Worker.{Worker}

-- the earliest moment of arrival among the copies that these workers delivered; each worker has the earliest moment
-- among its own copies
pub record FirstOfAll (workers : List Worker) (first : Option ℕ) : Type 0 where
  pub none_before : Each (λ (worker : Worker). (copy : RadioCopy)
      → IsNotBefore worker.first_out copy → IsNotBefore first copy) workers
  pub greatest : (moment : ℕ) → Each (λ (worker : Worker). NoneBefore moment worker.first_out) workers
      → NoneBefore moment first

-- the moment of the first pending event, in an inbox or a share; none if nothing is pending
pub record IsNextOfAll (first_out : Option ℕ) (shares : List Share) (next : Option ℕ) : Type 0 where
  pub out : (moment : ℕ) → NoneBefore moment next → NoneBefore moment first_out
  pub each : Each (λ share. (first : Option ℕ) × TellsNext share first
      × ((moment : ℕ) → NoneBefore moment next → NoneBefore moment first)) shares
  pub greatest : (moment : ℕ) → NoneBefore moment first_out
      → Each (λ share. (first : Option ℕ) → TellsNext share first → NoneBefore moment first) shares
      → NoneBefore moment next

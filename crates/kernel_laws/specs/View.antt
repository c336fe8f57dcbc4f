-- The part of a kernel's state that matters for the delivery of events, as a state of the delivery machine.
use Rattle.std.specs.Prelude.{ℕ, List, []}
use Rattle.kernel_laws.specs.HandedOn.{Line, Incarnation}
use Rattle.kernel_laws.specs.Delivery.{Waiting, DeliveryMachine, initial, DeliveryRuns, Halts}

-- the process list of a kernel, and a number above those of all incarnations on the list; the kernel's queue; and the
-- number of events that the kernel has accepted
pub record View : Type 0 where
  pub list : List Incarnation
  pub numbered : ℕ
  pub queue : List Waiting
  pub accepted : ℕ

-- the machine of a view, with the serial of the walk that began last, and the incarnations that are still to come in
-- this walk
abbrev pub machine_at : View → ℕ → List Incarnation → DeliveryMachine
machine_at v walked coming = record
    { list = v.list; numbered = v.numbered; queue = v.queue; accepted = v.accepted; walked = walked; coming = coming }

-- The lines so far are a run of the machine from its beginning. The last state of the machine is the kernel's state,
-- and no walk is in progress.
pub record GoesWithView (lines : List Line) (v : View) : Type 0 where
  pub walked : ℕ
  pub runs : DeliveryRuns initial lines (machine_at v walked [])

-- The lines so far are a run of the machine from its beginning to its halt.
abbrev pub HasHalted : List Line → Type 0
HasHalted lines = Halts initial lines

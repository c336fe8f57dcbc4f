-- The possible results of a worker's window: those of the windows of its motes.
use Rattle.std.specs.Prelude.{◌≡◌, ℕ, ◌<◌, true, false, List, length, Option, Some, None, Result, Ok, Err, IfSome, Vec}
use Rattle.std.specs.List.{AllByRecursion}
use Rattle.std.specs.declared.alloc.Global.{Global}
use Rattle.program_tree.specs.Code.{Tree}
use Rattle.mote_node.specs.declared.mote.MoteError.{MoteError}
use Rattle.mote_node.specs.declared.mote.MoteError.TheVariants.{Memory}
use Rattle.mote_net.specs.Net.{NetModel}
use Rattle.net_agenda.specs.NetSystem.{tree_at}
use Rattle.worker_window.specs.declared.own.OwnWindow.{OwnWindow}
use Rattle.worker_window.specs.Events.{is_one_of}
use Rattle.worker_window.specs.Out.{out_of}
use Rattle.worker_window.specs.Own.{window_in}
use Rattle.worker_window.specs.Share.{mote_here}
use Rattle.worker_window.specs.Turns.{CanGoOn, MayGive}

-- a mote's window may end as this
abbrev pub MayEnd : Tree → (until : ℕ) → (old new : Option OwnWindow) → Type 0
MayEnd program until None None = Unit {0}
MayEnd program until (Some old) (Some new) = (new.pending ≡ old.pending) × MayGive program until (Some old) (out_of new)
MayEnd program until _ _ = ⊥

-- the windows of a worker's called motes may end as these; its other motes are unchanged
pub record MayEndAs (model : NetModel) (until : ℕ) (called : List ℕ) (motes ended : List (Option OwnWindow)) : Type 0 where
  pub places : length ended ≡ length motes
  pub each : (k : ℕ) → is_one_of k called ≡ true → MayEnd (tree_at model k) until (mote_here motes k) (mote_here ended k)
  pub others : (k : ℕ) → is_one_of k called ≡ false → mote_here ended k ≡ mote_here motes k

-- the list has a place for each mote of the net, and each called mote is one of them
pub record AreCalled (model : NetModel) (called : List ℕ) (motes : List (Option OwnWindow)) : Type 0 where
  pub places : length motes ≡ length model.motes
  pub there : AllByRecursion (λ k. k < length model.motes) called

-- the mote has not failed, and its next event is after its last turn
abbrev pub CanMoteGoOn : Tree → (until : ℕ) → Option OwnWindow → Type 0
CanMoteGoOn program until mote = IfSome mote (λ own. CanGoOn (window_in program until own))

abbrev pub CanAllGoOn : NetModel → (until : ℕ) → (motes : List (Option OwnWindow)) → Type 0
CanAllGoOn model until motes = (k : ℕ) → CanMoteGoOn (tree_at model k) until (mote_here motes k)

-- the possible results of the worker: its motes at the end of their windows, or an error; if all motes can continue,
-- the error is out of memory
abbrev pub WorkerMayAnswer : NetModel → (until : ℕ) → (called : List ℕ) → (motes : List (Option OwnWindow))
    → Result (Vec (Option OwnWindow) Global) MoteError → Type 0
WorkerMayAnswer model until called motes (Ok ended) = MayEndAs model until called motes ended.items
WorkerMayAnswer model until called motes (Err e) = CanAllGoOn model until motes → e ≡ Memory

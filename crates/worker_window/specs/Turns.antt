-- A mote's window after one poll of the Rust future that runs this window. The mote may have failed before.
use Rattle.std.specs.Prelude.{◌≡◌, ◌⊎◌, ℕ, true, Option, Some, None, Result, Ok, Err, IfSome, IsSomeAnd, MatchOption}
use Rattle.program_tree.specs.Code.{Tree}
use Rattle.mote_node.specs.declared.mote.MoteError.{MoteError}
use Rattle.mote_node.specs.declared.mote.MoteError.TheVariants.{Failed, Memory, Past}
use Rattle.mote_node.specs.Turn.{is_past}
use Rattle.worker_window.specs.declared.out.WindowOut.{WindowOut}
use Rattle.worker_window.specs.declared.own.OwnWindow.{OwnWindow}
use Rattle.worker_window.specs.Laws.{IsAhead}
use Rattle.worker_window.specs.Own.{window_in, WindowCourse, course_in, ComesNext, GivesNoMore}
use Rattle.worker_window.specs.MoteWindow.{Window, HasTurn, IsOver, window_after_turn}
use Rattle.worker_window.specs.Out.{shown, Gives}

-- the possible results of a window that hasn't been dropped
abbrev pub MayGive : Tree → (until : ℕ) → Option OwnWindow → WindowOut → Type 0
MayGive program until None out = ⊥
MayGive program until (Some own) out = MatchOption (window_in program until own)
    (GivesNoMore (course_in program until own) out) (λ w. Gives w out)

-- the mote has not failed, and its next event is after its last turn
abbrev pub CanGoOn : Option Window → Type 0
CanGoOn window = IsSomeAnd window IsAhead

-- a window that hasn't been dropped, of a mote that can continue
abbrev pub HasTurns : Tree → (until : ℕ) → Option OwnWindow → Type 0
HasTurns program until None = ⊥
HasTurns program until (Some own) = CanGoOn (window_in program until own)

-- the possible results of a poll: a result of the window, or an error; if the mote can continue, the error is out of
-- memory
abbrev pub MayAnswer : Tree → (until : ℕ) → Option OwnWindow → Result WindowOut MoteError → Type 0
MayAnswer program until own (Ok out) = MayGive program until own out
MayAnswer program until own (Err e) = HasTurns program until own → e ≡ Memory

-- the window after the turn at this moment; a mote that had failed takes no turn
abbrev pub TurnsTo : (moment : ℕ) → (old new : Option Window) → Type 0
TurnsTo moment (Some old) (Some new) = new ≡ window_after_turn moment old
TurnsTo moment _ _ = ⊥

-- the first turn of the window's run, and no more
pub record IsFirstTurn (old new : Option Window) : Type 0 where
  pub moment : ℕ
  pub left : IfSome old (HasTurn moment)
  pub turned : TurnsTo moment old new

-- a poll ran exactly the first turn of the window's run; the window wasn't dropped before or in the poll
abbrev pub TakesTurn : Tree → (until : ℕ) → (old new : Option OwnWindow) → Type 0
TakesTurn program until (Some old) (Some new) = IsFirstTurn (window_in program until old) (window_in program until new)
TakesTurn program until _ _ = ⊥

-- an allocation for the turn failed, or the turn's moment isn't after the mote's last turn
abbrev pub IsErrorAt : (moment : ℕ) → MoteError → Window → Type 0
IsErrorAt moment e window = (e ≡ Memory) ⊎ ((e ≡ Past) × (is_past moment window.mote.state.last ≡ true))

-- the mote had failed before, or an allocation for its arrivals failed
abbrev pub IsRefusal : MoteError → Type 0
IsRefusal e = (e ≡ Failed) ⊎ (e ≡ Memory)

-- the error of the window's first turn; if the mote had failed, the error of the first turn that it would have taken
pub record IsFirstError (course : WindowCourse) (window : Option Window) (e : MoteError) : Type 0 where
  pub moment : ℕ
  pub awaited : ComesNext moment course
  pub left : IfSome window (HasTurn moment)
  pub error : IfSome window (IsErrorAt moment e)
  pub refusal : window ≡ None → IsRefusal e

-- the error is that of the first turn, or says that the window was dropped before
abbrev pub ErrsAs : Tree → (until : ℕ) → Option OwnWindow → MoteError → Type 0
ErrsAs program until None e = e ≡ Failed
ErrsAs program until (Some own) e = IsFirstError (course_in program until own) (window_in program until own) e

-- no turn is left, and this is the result
pub record IsFinishedWith (window : Option Window) (out : WindowOut) : Type 0 where
  pub over : IfSome window IsOver
  pub made : IfSome window (λ w. shown w.program out ≡ Some w.mote)

-- no turn was left before the poll, and this is the window's result; the window wasn't dropped before the poll
abbrev pub RestsAs : Tree → (until : ℕ) → Option OwnWindow → WindowOut → Type 0
RestsAs program until None out = ⊥
RestsAs program until (Some own) out = IsFinishedWith (window_in program until own) out

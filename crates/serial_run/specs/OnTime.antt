-- No turn is too late: the pending events of a mote are later than its last turn.
use Rattle.std.specs.Prelude.{ℕ, ◌≡◌, ◌≤◌, false, Option, Some, None, IsSomeAnd}
use Rattle.std.specs.List.{AllByRecursion}
use Rattle.trace_lines.specs.declared.line.Line.{Line}
use Rattle.mote_node.specs.Turn.{Node, is_past}
use Rattle.window_laws.specs.Agenda.{moment_of, mote_of}
use Rattle.window_laws.specs.NetStep.{NetState}

-- the mote has not failed, and its last turn, if there was one, was before this moment
abbrev pub CanTurn : (moment : ℕ) → Option Node → Type 0
CanTurn moment mote = IsSomeAnd mote (λ n. is_past moment n.last ≡ false)

-- the last turn, if there was one, wasn't later than this moment
abbrev pub IsNotAfter : (moment : ℕ) → (last : Option ℕ) → Type 0
IsNotAfter moment None = Unit {0}
IsNotAfter moment (Some last) = last ≤ moment

-- The net has reached a moment: no event is pending before it, and no turn was after it. The pending events of a mote
-- are later than the last turn of that mote.
pub record IsOnTime (at : ℕ) (net : NetState Node Line) : Type 0 where
  pub coming : AllByRecursion (λ item. at ≤ moment_of item) net.agenda
  pub turned : (k : ℕ) → IsNotAfter at (net.states k).last
  pub ahead : AllByRecursion (λ item. is_past (moment_of item) (net.states (mote_of item)).last ≡ false) net.agenda

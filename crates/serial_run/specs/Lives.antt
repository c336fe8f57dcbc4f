-- The lives of a mote, one after another.
use Rattle.std.specs.Prelude.{◌≡◌, ◌<◌, ℕ, true, List, ◌∷◌, ◌++◌, length, Vec, slice_index_or}
use Rattle.std.specs.declared.alloc.Global.{Global}
use Rattle.trace_lines.specs.declared.line.Line.{Line}
use Rattle.kernel_laws.specs.Going.{IsInOrder}
use Rattle.radio_faults.specs.declared.fault.Fault.{Fault}
use Rattle.radio_faults.specs.Off.{boots}
use Rattle.serial_run.specs.FaultRun.{boots_line}

-- The trace of the mote with this number, with these faults: the lines of one life, in order; or such a trace, the line of a
-- moment at which one of the faults lets the mote boot again, and the lines of one more life, in order.
pub data AreLives (faults : List Fault) (mote : ℕ) : List Line → Type 0 where
  OneLife : {life : List Line} → IsInOrder life → AreLives faults mote life
  OneMore : {before life : List Line} (moment : ℕ) → AreLives faults mote before → boots faults mote moment ≡ true
      → IsInOrder life → AreLives faults mote (before ++ boots_line moment ∷ life)

-- each trace, by the number of its mote, has the lines of such lives
abbrev pub HaveLives : List Fault → List (Vec Line Global) → Type 0
HaveLives faults traces = (k : ℕ) (d : Vec Line Global) → k < length traces
    → AreLives faults k (slice_index_or traces k d).items

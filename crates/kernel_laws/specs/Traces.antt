-- The trace of a kernel: the lines of its boot and of the calls that follow, joined.
use Rattle.std.specs.Prelude.{ℕ, List, [], ◌∷◌, ◌++◌, if◌then◌else◌}
use Rattle.program_tree.specs.declared.event.Proc.{Proc}
use Rattle.program_tree.specs.Code.{Tree}
use Rattle.radio_packet.specs.declared.arrival.Arrival.{Arrival}
use Rattle.trace_lines.specs.declared.line.Line.{Line}
use Rattle.process_kernel.specs.KernelModel.{KernelModel, unbooted, with_packet, with_poll, Given, boot_given}
use Rattle.process_kernel.specs.KernelModel.{run_given}
use Rattle.kernel_laws.specs.Going.{IsNote}

-- A call of a kernel after its boot: a kernel run at a moment, the request of a poll of a process, or a packet for the
-- ring. Between the calls, lines about arriving packets may be written.
pub data KernelCall : Type 0 where
  RunAt : (moment : ℕ) → KernelCall
  PollOf : Proc → KernelCall
  Accepts : Arrival → KernelCall
  Notes : (l : Line) → IsNote l.what → KernelCall

-- a mote, and its lines so far
pub record Traced : Type 0 where
  pub mote : KernelModel
  pub lines : List Line

-- the mote after a boot or a run, whose lines are appended
abbrev pub with_given : Traced → Given → Traced
with_given t g = record { mote = g.mote; lines = t.lines ++ g.lines }

-- the mote and its lines after a call, and after several; a halted mote gets no line about an arriving packet
abbrev pub traced_after_call : Traced → KernelCall → Traced
traced_after_call t (RunAt moment) = with_given t (run_given moment t.mote [] [])
traced_after_call t (PollOf p) = record t { mote = with_poll t.mote p }
traced_after_call t (Accepts a) = record t { mote = with_packet t.mote a }
traced_after_call t (Notes l n) = if t.mote.halted then t else record t { lines = t.lines ++ l ∷ [] }

abbrev pub traced_after_calls : Traced → List KernelCall → Traced
traced_after_calls t [] = t
traced_after_calls t (c ∷ cs) = traced_after_calls (traced_after_call t c) cs

-- a mote with this program after its boot at a moment
abbrev pub booted_at : Tree → (mote queue moment : ℕ) → Traced
booted_at program mote queue moment =
    let m = unbooted program mote queue in with_given (record { mote = m; lines = [] }) (boot_given moment m [] [])

-- the lines of the boot and of these calls
abbrev pub trace_of : Tree → (mote queue moment : ℕ) → List KernelCall → List Line
trace_of program mote queue moment calls = (traced_after_calls (booted_at program mote queue moment) calls).lines

-- Laws of kernels.
use Rattle.std.specs.Prelude.{ℕ, ◌≡◌, nat_lt, true, List}
use Rattle.trace_lines.specs.declared.line.Line.{Line}
use Rattle.radio_packet.specs.declared.sent.Sent.{Sent}
use Rattle.process_kernel.specs.declared.kernel.Ran.TheVariants.{Left, Halted}
use Rattle.process_kernel.specs.KernelModel.{KernelModel, is_pending, Given}
use Rattle.process_kernel.specs.Process.{process_nevents}

-- a boot or a run returns how much work the mote has left
abbrev pub TellsLeft : (ℕ → KernelModel → List Line → List Sent → Given) → Type 0
TellsLeft gives =
    (moment : ℕ) (m : KernelModel) (lines : List Line) (sends : List Sent) (n : ℕ)
    → (gives moment m lines sends).ran ≡ Left n
    → n ≡ process_nevents (gives moment m lines sends).mote.state

-- a mote is pending if and only if it has work left
abbrev pub PendingIsLeft : Type 0
PendingIsLeft = (m : KernelModel) → is_pending m ≡ nat_lt 0 (process_nevents m.state)

-- a mote that has halted never changes, and writes nothing
abbrev pub StaysHalted : (ℕ → KernelModel → List Line → List Sent → Given) → Type 0
StaysHalted gives =
    (moment : ℕ) (m : KernelModel) (lines : List Line) (sends : List Sent)
    → m.halted ≡ true
    → gives moment m lines sends ≡ record { ran = Halted; mote = m; lines = lines; sends = sends }

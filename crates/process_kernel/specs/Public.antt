-- The promises of a `Kernel`'s calls.
use Rattle.std.specs.Prelude.{ℕ, ◌≡◌, true, List, Option, Some, None, Result, Ok, Err, if◌then◌else◌, option_map}
use Rattle.program_tree.specs.Code.{Tree}
use Rattle.trace_lines.specs.declared.line.Line.{Line}
use Rattle.radio_packet.specs.declared.sent.Sent.{Sent}
use Rattle.trace_lines.specs.declared.out.Out.{Out}
pub use Rattle.trace_lines.specs.Out.{BeginsWith}
use Rattle.process_kernel.specs.declared.kernel.Kernel.{Kernel}
use Rattle.process_kernel.specs.declared.kernel.Ran.{Ran}
use Rattle.process_kernel.specs.declared.kernel.KernelError.{KernelError}
use Rattle.process_kernel.specs.declared.machine.Stop.{Stop}
use Rattle.process_kernel.specs.KernelModel.{KernelModel, Given, Underway}
use Rattle.process_kernel.specs.Views.{kernel_model_of}
use Rattle.process_kernel.specs.declared.kernel.Ran.TheVariants as ran
use Rattle.process_kernel.specs.declared.kernel.KernelError.TheVariants as error
use Rattle.process_kernel.specs.declared.machine.Stop.TheVariants as stop

-- The mote that a kernel with this program represents. A kernel that ran out of memory represents none. The remainders
-- of the kernel's threads depend on the program.
unfoldable pub kernel_in : Tree → Kernel → Option KernelModel
kernel_in program k = if k.failed then None else Some (kernel_model_of program k.machine k.booted k.halted)

-- A boot or a run has the outcome of the definition, or runs out of memory; in that case there is no mote from then
-- on, and everything that was written before is still there. If the kernel had failed before, it fails again, and
-- nothing changes.
abbrev pub MatchesOutcome : (KernelModel → List Line → List Sent → Given) → Option KernelModel → Out
    → Result Ran KernelError
    → Option KernelModel → Out → Type 0
MatchesOutcome gives None out result new out' = (result ≡ Err error.Failed) × (new ≡ None) × (out' ≡ out)
MatchesOutcome gives (Some m) out (Ok r) new out' =
    (m' : KernelModel) × (new ≡ Some m') × (gives m out.lines.items out.sends.items
    ≡ record { ran = r; mote = m'; lines = out'.lines.items; sends = out'.sends.items })
MatchesOutcome gives (Some m) out (Err e) new out' = (e ≡ error.Memory) × (new ≡ None) × BeginsWith out out'

-- After an error: if the kernel had failed before, the error is `Failed`, and nothing changes. Otherwise the kernel
-- ran out of memory: there is no mote from then on, and everything that was written before is still there.
abbrev pub FailsAs : Option KernelModel → Out → KernelError → Option KernelModel → Out → Type 0
FailsAs None out e new out' = (e ≡ error.Failed) × (new ≡ None) × (out' ≡ out)
FailsAs (Some m) out e new out' = (e ≡ error.Memory) × (new ≡ None) × BeginsWith out out'

-- the result of a kernel, and its change, when a run of its machine ends
abbrev pub Closes : Kernel → Result ℕ Stop → Result Ran KernelError → Kernel → Type 0
Closes old (Ok left) result new = (result ≡ Ok (ran.Left left)) × (new ≡ record old { booted = true })
Closes old (Err stop.Halted) result new = (result ≡ Ok ran.Halted)
    × (new ≡ record old { booted = true; halted = true })
Closes old (Err stop.Memory) result new =
    (result ≡ Err error.Memory) × (new ≡ record old { booted = true; failed = true })

-- the turn in progress of a mote, unless its kernel has failed
abbrev pub underway_in : Option KernelModel → Out → Option Underway
underway_in m out = option_map (λ x. record { mote = x; lines = out.lines.items; sends = out.sends.items }) m

-- a mote whose kernel has not failed continues with this step
pub record GoesOn (step : Underway → Underway) (old : Option KernelModel) (out : Out) (new : Option KernelModel)
    (out' : Out)
    : Type 0 where
  pub leads : (u : Underway) → underway_in old out ≡ Some u → underway_in new out' ≡ Some (step u)

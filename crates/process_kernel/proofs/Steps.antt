-- A turn in progress continues with each step as the step's definition states.
use Rattle.std.proofs.Common.{◌≡◌, List, Option, Some, None, Ok, refl, subst}
use Rattle.process_kernel.specs.declared.kernel.Ran.{Ran}
use Rattle.trace_lines.specs.declared.line.Line.{Line}
use Rattle.trace_lines.specs.declared.out.Out.{Out}
use Rattle.radio_packet.specs.declared.sent.Sent.{Sent}
use Rattle.process_kernel.specs.KernelModel.{KernelModel, Given, Underway, underway_after}
use Rattle.process_kernel.specs.Public.{MatchesOutcome, underway_in, GoesOn}

abbrev pub underway : KernelModel → Out → Underway
underway m out = record { mote = m; lines = out.lines.items; sends = out.sends.items }

-- any step, if the kernel has failed before it
pub from_none : (step : Underway → Underway) (out : Out) (new : Option KernelModel) (out' : Out)
    → GoesOn step None out new out'
from_none step out new out' = record { leads = λ u is. cc }

pub from_some : (step : Underway → Underway) (m : KernelModel) (out : Out) (new : Option KernelModel) (out' : Out)
    → underway_in new out' ≡ Some (step (underway m out)) → GoesOn step (Some m) out new out'
from_some step m out new out' h = record {
  leads = λ u is.
      let same : underway m out ≡ u = cc in
      let P : Underway → Type 0 = λ v. underway_in new out' ≡ Some (step v) in subst P same h;
}

-- a boot or a run of the kernel is a step
pub kernel_step : (gives : KernelModel → List Line → List Sent → Given) (old new : Option KernelModel) (out out' : Out) (r : Ran)
    → MatchesOutcome gives old out (Ok r) new out' → GoesOn (λ u. underway_after (gives u.mote u.lines u.sends)) old out new out'
kernel_step gives None new out out' r h = from_none _ out new out'
kernel_step gives (Some m) new out out' r (m', is, given) =
    from_some (λ u. underway_after (gives u.mote u.lines u.sends)) m out new out' (rw (is, given) refl)

-- the result that the kernel returns
pub kernel_ran : (gives : KernelModel → List Line → List Sent → Given) (old new : Option KernelModel) (out out' : Out) (r : Ran)
    (u : Underway)
    → MatchesOutcome gives old out (Ok r) new out' → underway_in old out ≡ Some u → (gives u.mote u.lines u.sends).ran ≡ r
kernel_ran gives None new out out' r u h is = cc
kernel_ran gives (Some m) new out out' r u (m', same, given) is =
    let eq : underway m out ≡ u = cc in
    let P : Underway → Type 0 = λ v. (gives v.mote v.lines v.sends).ran ≡ r in subst P eq (rw given refl)

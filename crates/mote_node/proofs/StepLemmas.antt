-- A turn continues with each step as the step's definition states.
use Rattle.std.proofs.Common.{◌≡◌, Bool, true, false, option_map, Option, Some, None, refl, if◌then◌else◌}
use Rattle.trace_lines.specs.declared.out.Out.{Out}
use Rattle.process_kernel.specs.KernelModel.{KernelModel}
use Rattle.mote_node.specs.Turn.{with_mote}
use Rattle.process_kernel.specs.Public.{GoesOn}
pub use Rattle.process_kernel.proofs.Steps.{underway, from_none, from_some, kernel_step}

-- a condition whose value is known
pub if_true : {A : Type 0} (b : Bool) (x y : A) → true ≡ b → (if b then x else y) ≡ x
if_true true x y h = refl
if_true false x y h = cc

pub if_false : {A : Type 0} (b : Bool) (x y : A) → false ≡ b → (if b then x else y) ≡ y
if_false true x y h = cc
if_false false x y h = refl

-- a step that changes only the mote
pub mote_step : (f : KernelModel → KernelModel) (old new : Option KernelModel) (out : Out) → new ≡ option_map f old → GoesOn (λ u. with_mote u (f u.mote)) old out new out
mote_step f None new out h = from_none _ out new out
mote_step f (Some m) new out h = from_some (λ u. with_mote u (f u.mote)) m out new out (rw h refl)

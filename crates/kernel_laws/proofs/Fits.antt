-- Each operation of a thread that exits a process exits a process of the program.
use Rattle.std.proofs.Common.{ℕ, List}
use Rattle.program_tree.specs.declared.event.Proc.{Proc}
use Rattle.program_tree.specs.declared.event.Proc.TheVariants.{Own}
use Rattle.program_tree.specs.declared.event.Target.{Target}
use Rattle.program_tree.specs.declared.event.Target.TheVariants.{One, All}
use Rattle.program_tree.specs.declared.event.Event.{Event}
use Rattle.program_tree.specs.Code.{Code}
use Rattle.protothread.specs.declared.step.Op.{Op}
use Rattle.protothread.specs.declared.step.Op.TheVariants as op
use Rattle.protothread.specs.declared.step.Step.{Step}
use Rattle.protothread.specs.declared.step.Step.TheVariants as step
use Rattle.protothread.specs.Looks.{Looks}
use Rattle.protothread.specs.Remainder.{Remainder}
use Rattle.protothread.specs.Step.{advanced_of}
use Rattle.protothread.proofs.Own as thread
use Rattle.protothread.proofs.Own.{NamesOwn, StepNamesOwn, step_names_own}
use Rattle.kernel_laws.specs.Own.{IsOwnProcess, FitsTarget}

-- if the operation posts or sends an exit event, or kills, its target is a process of the program
abbrev pub FitsOp : Op → Type 0
FitsOp (op.Post t e w) = FitsTarget t e
FitsOp (op.Synch p e w) = FitsTarget (One p) e
FitsOp (op.Kill p) = IsOwnProcess p
FitsOp o = Unit {0}

abbrev pub FitsStep : Step → Type 0
FitsStep (step.Op o) = FitsOp o
FitsStep (step.Done a) = Unit {0}
FitsStep step.Runaway = Unit {0}

own_is : (p : Proc) → thread.IsOwn p → IsOwnProcess p
own_is (Own p) h = tt
own_is x h = absurd h

post_fits : (t : Target) (e w : ℕ) → NamesOwn (op.Post t e w) → FitsTarget t e
post_fits (One p) e w h = λ q. own_is p h
post_fits All e w h = h

op_fits : (o : Op) → NamesOwn o → FitsOp o
op_fits (op.Post t e w) h = post_fits t e w h
op_fits (op.Synch p e w) h = λ q. own_is p h
op_fits (op.Kill p) h = own_is p h
op_fits x h = tt

step_fits : (s : Step) → StepNamesOwn s → FitsStep s
step_fits (step.Op o) h = op_fits o h
step_fits (step.Done a) h = tt
step_fits step.Runaway h = tt

pub fits_advanced : (code : Code) (e : Event) (looks : Looks) (r : Remainder) (variables : List ℕ) (units : ℕ) → FitsStep (advanced_of code e looks r variables units).step
fits_advanced code e looks r variables units = step_fits _ (step_names_own code e looks r variables units)

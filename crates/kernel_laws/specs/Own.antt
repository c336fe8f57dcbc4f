-- The processes that may leave the process list: only the processes of the program.
use Rattle.std.specs.Prelude.{ℕ, ◌≡◌}
use Rattle.program_tree.specs.declared.event.Proc.{Proc}
use Rattle.program_tree.specs.declared.event.Proc.TheVariants.{Own, Etimer, Ctimer, Radio}
use Rattle.program_tree.specs.declared.event.Target.{Target}
use Rattle.program_tree.specs.declared.event.Target.TheVariants.{One, All}
use Rattle.program_tree.specs.declared.event.SystemEvent.TheVariants.{Exit}
use Rattle.program_tree.specs.Events.{system_number}

-- a process of the program
abbrev pub IsOwnProcess : Proc → Type 0
IsOwnProcess (Own p) = Unit {0}
IsOwnProcess Etimer = ⊥
IsOwnProcess Ctimer = ⊥
IsOwnProcess Radio = ⊥

-- an event EXIT has only a process of the program as its target
abbrev pub FitsTarget : Target → (number : ℕ) → Type 0
FitsTarget (One p) number = number ≡ system_number Exit → IsOwnProcess p
FitsTarget All number = number ≡ system_number Exit → ⊥

-- Processes in lines and patterns.
use Rattle.std.specs.Prelude.{Bool, true, false, ◌==◌, Option, Some, None}
use Rattle.program_tree.specs.declared.event.Proc.{Proc}
use Rattle.program_tree.specs.declared.event.Proc.TheVariants.{Own, Etimer, Ctimer, Radio}
use Rattle.program_tree.specs.declared.event.Target.{Target}
use Rattle.program_tree.specs.declared.event.Target.TheVariants.{One, All}

abbrev pub is_same_process : Proc → Proc → Bool
is_same_process (Own a) (Own b) = a == b
is_same_process Etimer Etimer = true
is_same_process Ctimer Ctimer = true
is_same_process Radio Radio = true
is_same_process a b = false

-- the same process, or both all processes
abbrev pub is_same_target : Target → Target → Bool
is_same_target (One a) (One b) = is_same_process a b
is_same_target All All = true
is_same_target a b = false

-- no target wants any line, even one without a target; a target wants lines with this target
abbrev pub wants_target : Option Target → Option Target → Bool
wants_target None said = true
wants_target (Some wanted) None = false
wants_target (Some wanted) (Some said) = is_same_target wanted said

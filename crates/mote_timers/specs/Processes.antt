-- The place of each process in the tables of a mote: first the system's processes, then the program's own.
use Rattle.std.specs.Prelude.{ℕ, ◌+◌, ◌==◌, Bool}
use Rattle.program_tree.specs.declared.event.Proc.{Proc}
use Rattle.program_tree.specs.declared.event.Proc.TheVariants.{Own, Etimer, Ctimer, Radio}

-- the places of the system processes are first, then those of the program's own processes in their order
abbrev pub place_of : Proc → ℕ
place_of Etimer = 0
place_of Ctimer = 1
place_of Radio = 2
place_of (Own p) = p + 3

-- whether both are the same process
abbrev pub is_same : Proc → Proc → Bool
is_same p q = place_of p == place_of q

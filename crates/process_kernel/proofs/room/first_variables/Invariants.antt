use Rattle.std.proofs.Common.{◌≡◌, ◌++◌, drop, map}
use Rattle.program_tree.specs.Program.{tree_of}
use Rattle.process_kernel.proofs.room.first_variables.Given as goal

abbrev pub invariant-loop-process : goal.invariant-loop-process
invariant-loop-process l =
    l.variables.items ++ map (λ c. c.starts) (drop l.process (tree_of l.program).codes)
    ≡ map (λ c. c.starts) (tree_of l.program).codes

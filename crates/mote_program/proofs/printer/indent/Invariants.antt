use Rattle.std.proofs.Common.{◌≡◌, ◌++◌, string_bytes}
use Rattle.program_tree.specs.Canonical.{indentation}
use Rattle.mote_program.proofs.printer.indent.Given as goal

abbrev pub invariant-loop-depth : goal.invariant-loop-depth
invariant-loop-depth l = string_bytes l.text ++ indentation l.depth ≡ string_bytes l.fn.text
    ++ indentation l.initial.depth

abbrev pub decreases-loop-depth : goal.decreases-loop-depth
decreases-loop-depth l = l.depth

-- The errors of printing, by their numbers.
use Rattle.std.specs.Prelude.{ℕ}
use Rattle.trace_printer.specs.declared.error.PrintError.{PrintError}
use Rattle.trace_printer.specs.declared.error.PrintError.TheVariants.{Write, Memory}

abbrev pub print_fault_number : PrintError → ℕ
print_fault_number Write = 1
print_fault_number Memory = 2

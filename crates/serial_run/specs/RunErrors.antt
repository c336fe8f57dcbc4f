-- The texts of the errors of a run.
use Rattle.std.specs.Prelude.{ℕ, List, codes}
use Rattle.serial_run.specs.declared.error.RunError.{RunError}
use Rattle.serial_run.specs.declared.error.RunError.TheVariants.{Workers, CutLength, CutWorker, Memory, Thread}
use Rattle.serial_run.specs.declared.error.RunError.TheVariants.{Stopped}

abbrev pub text_of_run_error : RunError → List ℕ
text_of_run_error Workers = codes "run fault 1"
text_of_run_error CutLength = codes "run fault 2"
text_of_run_error CutWorker = codes "run fault 3"
text_of_run_error Memory = codes "out of memory"
text_of_run_error Thread = codes "run fault 5"
text_of_run_error Stopped = codes "run fault 6"

-- The partitions that fit a net, and the error that is reported for one that doesn't.
use Rattle.std.specs.Prelude.{ℕ, ◌≡◌, ◌==◌, ◌||◌, nat_lt, not, if◌then◌else◌, List, length, Option, Some, None}
use Rattle.std.specs.List.{list_all}
use Rattle.serial_run.specs.declared.error.RunError.{RunError}
use Rattle.serial_run.specs.declared.error.RunError.TheVariants.{Workers, CutLength, CutWorker, Memory, Thread, Stopped}
use Rattle.fork_join.specs.declared.work.WorkerError.{WorkerError}
use Rattle.fork_join.specs.declared.work.WorkerError.TheVariants as worker_error

abbrev pub most_workers : ℕ
most_workers = 16

-- the first error of a partition: there are no workers, or too many; the partition has too few or too many motes; or
-- it names a worker that doesn't exist
abbrev pub cut_fault : (motes workers : ℕ) → (owners : List ℕ) → Option RunError
cut_fault motes workers owners =
    if (workers == 0) || nat_lt most_workers workers then Some Workers
    else (if not (length owners == motes) then Some CutLength
    else (if list_all (λ worker. nat_lt worker workers) owners then None else Some CutWorker))

-- The errors that a call may return: the error of the partition, if it has one; otherwise, out of memory, or an error
-- of a thread. It is never `Stopped`.
abbrev pub IsAnswerTo : Option RunError → RunError → Type 0
IsAnswerTo (Some fault) error = error ≡ fault
IsAnswerTo None Workers = ⊥
IsAnswerTo None CutLength = ⊥
IsAnswerTo None CutWorker = ⊥
IsAnswerTo None Memory = Unit {0}
IsAnswerTo None Thread = Unit {0}
IsAnswerTo None Stopped = ⊥

-- the error of the run for the reason why a worker failed
abbrev pub of_refused : WorkerError → RunError
of_refused worker_error.Memory = Memory
of_refused worker_error.Thread = Thread
of_refused worker_error.Stopped = Stopped

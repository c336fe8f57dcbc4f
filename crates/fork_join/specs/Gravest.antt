-- The reason that is reported if several workers gave up.
use Rattle.std.specs.Prelude.{Bool, true, false, Option, Some, None}
use Rattle.fork_join.specs.declared.work.WorkerError.{WorkerError}
use Rattle.fork_join.specs.declared.work.WorkerError.TheVariants.{Memory, Thread, Stopped}

-- a worker returns `Stopped` because another one failed, and the other's reason takes precedence; otherwise, the first
-- reason is reported
abbrev pub graver : (first other : WorkerError) → WorkerError
graver Memory other = Memory
graver Thread other = Thread
graver Stopped other = other

-- the reported reason after one more worker gave up
abbrev pub gravest : (so_far : Option WorkerError) → (other : WorkerError) → WorkerError
gravest None other = other
gravest (Some first) other = graver first other

-- the worker itself failed
abbrev pub is_own_failure : WorkerError → Bool
is_own_failure Memory = true
is_own_failure Thread = true
is_own_failure Stopped = false

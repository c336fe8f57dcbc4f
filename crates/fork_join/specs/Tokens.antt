-- The ghost tokens of a worker that stopped: they show that the worker had seen the stop flag.
use Rattle.std.specs.Prelude.{◌≡◌, ◌<◌, ◌%◌, ℕ, Bool, true, false, Result, Ok, Err}
use Rattle.fork_join.specs.declared.work.WorkerError.{WorkerError}
use Rattle.fork_join.specs.declared.work.WorkerError.TheVariants.{Memory, Thread, Stopped}

-- the number of a worker's tokens: two, if it saw that the flag was set
abbrev pub stop_tokens : Bool → ℕ
stop_tokens false = 0
stop_tokens true = 2

-- The number of tokens of workers with this result, if none of them failed: it is even, and it isn't 0 if a worker
-- stopped.
abbrev pub HasTokens : {T : Type 0} → Result T WorkerError → ℕ → Type 0
HasTokens (Ok done) amount = amount % 2 ≡ 0
HasTokens (Err Stopped) amount = (amount % 2 ≡ 0) × (0 < amount)
HasTokens (Err Memory) amount = Unit {0}
HasTokens (Err Thread) amount = Unit {0}

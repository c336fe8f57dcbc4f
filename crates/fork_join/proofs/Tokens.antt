-- The sum of the tokens of several workers.
use Rattle.std.proofs.Common.{◌≡◌, ◌+◌, ◌%◌, ◌<◌, ℕ, Option, Some, None, Result, Ok, Err, subst, arith}
use Rattle.fork_join.specs.declared.work.WorkerError.{WorkerError}
use Rattle.fork_join.specs.declared.work.WorkerError.TheVariants.{Memory, Thread, Stopped}
use Rattle.fork_join.specs.Gravest.{gravest}
use Rattle.fork_join.specs.Tokens.{HasTokens}

-- the same as `HasTokens`, for an error, if there is one
abbrev pub HaveTokens : Option WorkerError → ℕ → Type 0
HaveTokens None amount = amount % 2 ≡ 0
HaveTokens (Some Stopped) amount = (amount % 2 ≡ 0) × (0 < amount)
HaveTokens (Some Memory) amount = Unit {0}
HaveTokens (Some Thread) amount = Unit {0}

-- the sum with the tokens of one more worker, which has no error
pub one_without : (failed : Option WorkerError) (a b : ℕ) → HaveTokens failed a → b % 2 ≡ 0 → HaveTokens failed (a + b)
one_without None a b h k = grind arith
one_without (Some Stopped) a b h k = (grind arith, omega (arith, h.1))
one_without (Some Memory) a b h k = tt
one_without (Some Thread) a b h k = tt

-- the sum with the tokens of one more worker, which has this error
pub one_with : (failed : Option WorkerError) (r : WorkerError) (a b : ℕ) → HaveTokens failed a → HaveTokens (Some r) b → HaveTokens (Some (gravest failed r)) (a + b)
one_with None Stopped a b h k = (grind arith, omega (arith, k.1))
one_with None Memory a b h k = tt
one_with None Thread a b h k = tt
one_with (Some Stopped) Stopped a b h k = (grind arith, omega (arith, k.1))
one_with (Some Stopped) Memory a b h k = tt
one_with (Some Stopped) Thread a b h k = tt
one_with (Some Memory) r a b h k = tt
one_with (Some Thread) r a b h k = tt

as_some : (T : Type 0) (x : WorkerError) (n : ℕ) → HasTokens {T = T} (Err x) n → HaveTokens (Some x) n
as_some T Stopped n h = h
as_some T Memory n h = tt
as_some T Thread n h = tt

-- the tokens by the result of a worker
pub tokens_of_ok : {T : Type 0} (r : Result T WorkerError) (x : T) (n : ℕ) → r ≡ Ok x → HasTokens r n → n % 2 ≡ 0
tokens_of_ok r x n e h = subst (λ s. HasTokens s n) e h

pub tokens_of_err : {T : Type 0} (r : Result T WorkerError) (x : WorkerError) (n : ℕ) → r ≡ Err x → HasTokens r n → HaveTokens (Some x) n
tokens_of_err {T} r x n e h = as_some T x n (subst (λ s. HasTokens s n) e h)

pub none_of_err : (T : Type 0) (x : WorkerError) (n : ℕ) → HaveTokens (Some x) n → HasTokens {T = T} (Err x) n
none_of_err T Stopped n h = h
none_of_err T Memory n h = tt
none_of_err T Thread n h = tt

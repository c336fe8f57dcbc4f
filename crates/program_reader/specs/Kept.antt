-- Scopes without the names of a code block, and pairs of scopes that have the same timers.
use Rattle.std.specs.Prelude.{◌≡◌, []}
use Rattle.program_reader.specs.declared.scope.Scope.{Scope}

-- no names of a code are in scope
pub record HasNoOwnNames (s : Scope) : Type 0 where
  pub variables : s.variables ≡ []
  pub etimers : s.etimers ≡ []
  pub ctimers : s.ctimers ≡ []
  pub threads : s.threads ≡ []

-- both scopes have the same timers of a code
pub record KeepsTimers (old new : Scope) : Type 0 where
  pub etimers : new.etimers ≡ old.etimers
  pub ctimers : new.ctimers ≡ old.ctimers

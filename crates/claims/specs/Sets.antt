-- Sets of numbers.
use Rattle.std.specs.Prelude.{ℕ, Bool, true, false, ◌&&◌, ◌==◌, nat_le, Option, Some, None}
use Rattle.std.specs.List.{list_any}
use Rattle.claims.specs.declared.set.Span.{Span}
use Rattle.claims.specs.declared.set.Set.{Set}

-- the number is in the span
abbrev pub is_in : Span → ℕ → Bool
is_in s n = nat_le s.from n && nat_le n s.to

-- the number is in one of the spans
abbrev pub has : Set → ℕ → Bool
has s n = list_any (λ p. is_in p n) s.spans.items

-- no set wants any number, and even none; a set wants the numbers in it
abbrev pub wants : Option Set → Option ℕ → Bool
wants None n = true
wants (Some s) None = false
wants (Some s) (Some n) = has s n

-- there is a number, and it is this one
abbrev pub is_this : ℕ → Option ℕ → Bool
is_this v None = false
is_this v (Some n) = n == v

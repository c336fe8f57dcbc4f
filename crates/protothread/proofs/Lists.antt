-- Membership in a list as a test.
use Rattle.std.proofs.Common.{◌≡◌, ℕ, Bool, true, false, List, refl}
use Rattle.std.proofs.lemmas.Bool.{eqb-true}
use Rattle.std.specs.Prelude.{IsTrue, nat_eq, ◌↔◌}
use Rattle.std.specs.List.{Contains, list_any}
use Rattle.std.proofs.lemmas.Cmp.{nat_eq_equiv}
use Rattle.std.proofs.lemmas.Map.Views.{list_any-from_Contains, Contains-from_any}

from_test : (xs : List ℕ) (x : ℕ) (b : Bool) → list_any (nat_eq x) xs ≡ b → (a : Bool) → (IsTrue a ↔ Contains xs x) → a ≡ b
from_test xs x true e true h = refl
from_test xs x true e false h = let k : IsTrue false = h.1 (Contains-from_any eqb-true x xs e) in absurd (cc)
from_test xs x false e true h = let k : list_any (nat_eq x) xs ≡ true = list_any-from_Contains nat_eq_equiv x xs (h.0 refl) in absurd (cc)
from_test xs x false e false h = refl

pub contains_test : (xs : List ℕ) (x : ℕ) (b : Bool) → (IsTrue b ↔ Contains xs x) → b ≡ list_any (nat_eq x) xs
contains_test xs x b h = from_test xs x (list_any (nat_eq x) xs) refl b h

-- A list in which one element was replaced.
use Rattle.std.proofs.Common.{◌≡◌, ℕ, zero, suc, ◌<◌, List, [], ◌∷◌, length, get_or, set, refl, subst, sym, arith, Option, Some, None, IsSome, get_or-set_same, get_or-set_other}
use Rattle.std.proofs.lemmas.Bool.{false≢true}
use Rattle.std.specs.Prelude.{IfSome, IsSomeAnd}

-- an element that was read is there, whatever stands for a missing one
pub at_place : {X : Type 0} (xs : List X) (k : ℕ) (x d : X) → x ≡ get_or xs k x → k < length xs → get_or xs k d ≡ x
at_place [] k x d is low = absurd (omega arith)
at_place (y ∷ xs) zero x d is low = sym is
at_place (y ∷ xs) (suc k) x d is low = at_place xs k x d is (omega arith)

-- a place with an element is in the list
pub some_within : {X : Type 0} (xs : List (Option X)) (k : ℕ) → IsSome (get_or xs k None) → k < length xs
some_within [] k h = absurd (false≢true h)
some_within (y ∷ xs) zero h = omega arith
some_within (y ∷ xs) (suc k) h = let i = some_within xs k h in omega arith

-- no element is behind the end
pub none_behind : {X : Type 0} (xs : List (Option X)) (k : ℕ) → (k < length xs → ⊥) → get_or xs k None ≡ None
none_behind [] k h = refl
none_behind (y ∷ xs) zero h = absurd (h (omega arith))
none_behind (y ∷ xs) (suc k) h = none_behind xs k (λ l. h (omega arith))

pub put_here : {X : Type 0} (xs : List X) (k : ℕ) (x d : X) → k < length xs → get_or (set xs k x) k d ≡ x
put_here xs k x d low = get_or-set_same xs k x d low

pub put_else : {X : Type 0} (xs : List X) (k j : ℕ) (x d : X) → (j ≡ k → ⊥) → get_or (set xs k x) j d ≡ get_or xs j d
put_else xs k j x d ne = get_or-set_other xs k j x d ne

pub some_then : {X : Type 0} (P : X → Type 0) (o : Option X) (x : X) → o ≡ Some x → P x → IfSome o P
some_then P o x e h = subst (λ o. IfSome o P) (sym e) h

pub with_some : {X : Type 0} (P : X → Type 0) (o : Option X) (x : X) → o ≡ Some x → IsSomeAnd o P → P x
with_some P o x e h = subst (λ o. IsSomeAnd o P) e h

pub some_with : {X : Type 0} (P : X → Type 0) (o : Option X) → IsSomeAnd o P → IsSome o
some_with P None h = absurd h
some_with P (Some x) h = refl

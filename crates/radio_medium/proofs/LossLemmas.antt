-- Losses that are added one by one to a table whose keys are pairs of sender and receiver.
use Rattle.std.proofs.Common.{◌≡◌, ℕ, suc, ◌+◌, ◌<◌, ◌==◌, nat_lt, Bool, true, false, not, cond, ◌&&◌, ◌||◌, ⊎_elim, inl, inr, List, [], ◌∷◌, ◌++◌, length, get_or, take, drop, Option, Some, None, option_map, Ok, Err, refl, ap, sym, ◌∙◌, subst, arith, append_assoc, drop-cons}
use Rattle.std.specs.List.{find, list_any}
use Rattle.std.specs.Option.{ForSome, IsSome, option_or}
use Rattle.std.proofs.lemmas.Bool.{cond_both, and_parts, or_parts, or_left, or_right, not-true, not-false, eqb-true, eqb-false, eq-eqb, ne_eqb, cases_eq}
use Rattle.std.proofs.lemmas.List.{append-nil, take_more, take-append-drop}
use Rattle.std.proofs.lemmas.List.Folds.{list_any-append}
use Rattle.radio_medium.specs.declared.error.MediumError.{MediumError}
use Rattle.radio_medium.specs.declared.error.MediumError.TheVariants.{Memory, ZeroBase, ZeroPer, BadLoss}
use Rattle.radio_medium.specs.declared.losses.Loss.{Loss}
use Rattle.radio_medium.specs.Medium.{every_of, is_for_pair, is_good, has_pair_twice, has_bad_loss}
use Rattle.radio_medium.specs.Links.{EveryByPair, every_at, GathersLosses, AddsLoss}

some_packets : (motes : ℕ) (loss : Loss) → is_good motes loss ≡ true → 0 < loss.every
some_packets motes loss good =
    let last : Bool = not (loss.every == 0) in
    let further : Bool = not (loss.sender == loss.to) && last in
    let h : (nat_lt loss.to motes && further) ≡ true = (and_parts (nat_lt loss.sender motes) (nat_lt loss.to motes && further) good).1 in
    let k : further ≡ true = (and_parts (nat_lt loss.to motes) further h).1 in
    let some : loss.every ≡ 0 → ⊥ = eqb-false loss.every 0 (not-true (loss.every == 0) (and_parts (not (loss.sender == loss.to)) last k).1) in
    omega arith

-- if all losses are good, the number `every` of a pair is above 0
pub every_above : (motes : ℕ) (losses : List Loss) (s r : ℕ) → list_any (λ loss. not (is_good motes loss)) losses ≡ false → ForSome (every_of losses s r) (λ k. 0 < k)
every_above motes [] s r good = λ k is. absurd (cc)
every_above motes (loss ∷ losses) s r good =
    let parts : (not (is_good motes loss) ≡ false) × (list_any (λ l. not (is_good motes l)) losses ≡ false) = or_parts _ _ good in
    cond_both (is_for_pair s r loss) (Some loss) (find (is_for_pair s r) losses) (λ (found : Option Loss). ForSome (option_map (λ (l : Loss). l.every) found) (λ k. 0 < k))
    (λ _ k is. let some : 0 < loss.every = some_packets motes loss (not-false (is_good motes loss) parts.0) in let same : loss.every ≡ k = cc in omega arith)
    (λ _. every_above motes losses s r parts.1)

pub every_above_good : (motes : ℕ) (losses : List Loss) (s r : ℕ) → has_bad_loss motes losses ≡ false → ForSome (every_of losses s r) (λ k. 0 < k)
unfolding has_bad_loss
every_above_good motes losses s r good = every_above motes losses s r (or_parts _ _ good).0

eqb_turned : (a b : ℕ) → (a == b) ≡ (b == a)
eqb_turned a b = ⊎_elim (λ same. eq-eqb a b same ∙ sym (eq-eqb b a (sym same))) (λ other. ne_eqb a b other ∙ sym (ne_eqb b a (λ e. other (sym e)))) (cases_eq a b)

pair_turned : (x y : Loss) → is_for_pair y.sender y.to x ≡ is_for_pair x.sender x.to y
pair_turned x y = rw (eqb_turned x.sender y.sender, eqb_turned x.to y.to) refl

sorted_parts : (a b t d : Bool) → ((a || (b || false)) || (t || d)) ≡ ((a || t) || (b || d))
sorted_parts true b t d = refl
sorted_parts false true true d = refl
sorted_parts false true false d = refl
sorted_parts false false t d = refl

twice-push : (xs : List Loss) (x : Loss) → has_pair_twice (xs ++ x ∷ []) ≡ (has_pair_twice xs || list_any (is_for_pair x.sender x.to) xs)
twice-push [] x = refl
twice-push (y ∷ ys) x =
    rw (list_any-append (is_for_pair y.sender y.to) ys (x ∷ []), twice-push ys x, pair_turned x y)
    (sorted_parts (list_any (is_for_pair y.sender y.to) ys) (is_for_pair x.sender x.to y) (has_pair_twice ys) (list_any (is_for_pair x.sender x.to) ys))

-- a list with one more loss is bad if this loss is bad by itself, or if its pair already has a loss
bad-push : (motes : ℕ) (xs : List Loss) (x : Loss)
    → has_bad_loss motes (xs ++ x ∷ []) ≡ (has_bad_loss motes xs || (not (is_good motes x) || list_any (is_for_pair x.sender x.to) xs))
unfolding has_bad_loss
bad-push motes xs x =
    rw (list_any-append (λ loss. not (is_good motes loss)) xs (x ∷ []), twice-push xs x)
    (sorted_parts (list_any (λ loss. not (is_good motes loss)) xs) (not (is_good motes x)) (has_pair_twice xs) (list_any (is_for_pair x.sender x.to) xs))

bad-append : (motes : ℕ) (xs ys : List Loss) → has_bad_loss motes xs ≡ true → has_bad_loss motes (xs ++ ys) ≡ true
bad-append motes xs [] bad = rw append-nil bad
bad-append motes xs (y ∷ ys) bad =
    let further : has_bad_loss motes ((xs ++ y ∷ []) ++ ys) ≡ true = bad-append motes (xs ++ y ∷ []) ys (bad-push motes xs y ∙ or_left _ _ bad) in
    rw append_assoc at further

-- a pair has a loss if and only if the search finds one
found : (xs : List Loss) (s r : ℕ) → IsSome (every_of xs s r) → list_any (is_for_pair s r) xs ≡ true
found [] s r some = some
found (x ∷ xs) s r some =
    cond_both (is_for_pair s r x) (Some x) (find (is_for_pair s r) xs)
    (λ (o : Option Loss). IsSome (option_map (λ (l : Loss). l.every) o) → (is_for_pair s r x || list_any (is_for_pair s r) xs) ≡ true)
    (λ here _. or_left _ _ here)
    (λ _ there. or_right _ _ (found xs s r there))
    some

unfound : (xs : List Loss) (s r : ℕ) → every_of xs s r ≡ None → list_any (is_for_pair s r) xs ≡ false
unfound [] s r none = refl
unfound (x ∷ xs) s r none =
    cond_both (is_for_pair s r x) (Some x) (find (is_for_pair s r) xs)
    (λ (o : Option Loss). option_map (λ (l : Loss). l.every) o ≡ None → (is_for_pair s r x || list_any (is_for_pair s r) xs) ≡ false)
    (λ _ e. absurd (cc))
    (λ other e. rw other (unfound xs s r e))
    none

every-push : (xs : List Loss) (x : Loss) (s r : ℕ) → every_of (xs ++ x ∷ []) s r ≡ option_or (every_of xs s r) (cond (is_for_pair s r x) (Some x.every) None)
every-push [] x s r = elim (is_for_pair s r x) as (λ b. option_map (λ (l : Loss). l.every) (cond b (Some x) None) ≡ cond b (Some x.every) None) [ true ↦ refl | false ↦ refl ]
every-push (y ∷ ys) x s r =
    elim (is_for_pair s r y)
    as (λ b. option_map (λ (l : Loss). l.every) (cond b (Some y) (find (is_for_pair s r) (ys ++ x ∷ []))) ≡ option_or (option_map (λ (l : Loss). l.every) (cond b (Some y) (find (is_for_pair s r) ys))) (cond (is_for_pair s r x) (Some x.every) None)) [
      | true ↦ refl
      | false ↦ every-push ys x s r
    ]

pair_is : (s r : ℕ) (x : Loss) → is_for_pair s r x ≡ true → (x.sender ≡ s) × (x.to ≡ r)
pair_is s r x same = (eqb-true x.sender s (and_parts _ _ same).0, eqb-true x.to r (and_parts _ _ same).1)

-- a table with the losses so far, none of which is bad
pub record HasLosses (motes : ℕ) (every : EveryByPair) (losses : List Loss) : Type 0 where
  pub good : has_bad_loss motes losses ≡ false
  pub table : (s r : ℕ) → every_at every s r ≡ every_of losses s r

pub HasLosses-push : (motes : ℕ) (old new : EveryByPair) (xs : List Loss) (x : Loss) (u : Unit {0}) → HasLosses motes old xs → AddsLoss motes x old new (Ok u) → HasLosses motes new (xs ++ x ∷ [])
HasLosses-push motes old new xs x u has adds = record {
  good =
      let none : every_of xs x.sender x.to ≡ None = sym (has.table x.sender x.to) ∙ adds.1 in
      bad-push motes xs x ∙ rw (has.good, adds.0, unfound xs x.sender x.to none) refl;
  table = λ s r.
      adds.2 s r ∙ rw (every-push xs x s r, has.table s r)
      (elim (is_for_pair s r x)
      as (λ b. is_for_pair s r x ≡ b → cond b (Some x.every) (every_of xs s r) ≡ option_or (every_of xs s r) (cond b (Some x.every) None)) [
        | true ↦ λ same.
            let pair : (x.sender ≡ s) × (x.to ≡ r) = pair_is s r x same in
            let none : every_of xs s r ≡ None =
            subst (λ k. every_of xs k r ≡ None) pair.0 (subst (λ k. every_of xs x.sender k ≡ None) pair.1 (sym (has.table x.sender x.to) ∙ adds.1)) in
            rw none refl
        | false ↦ λ _. or_none (every_of xs s r)
      ] refl);
}
  where
    or_none : (o : Option ℕ) → o ≡ option_or o None
    or_none None = refl
    or_none (Some k) = refl

-- an empty table, before the first loss
pub HasLosses-none : (motes : ℕ) (every : EveryByPair) → every.entries ≡ [] → HasLosses motes every []
unfolding has_bad_loss
HasLosses-none motes every empty = record { good = refl; table = λ s r. rw empty refl }

abbrev no_loss : Loss
no_loss = record { sender = 0; to = 0; every = 0 }

pub HasLosses-more : (motes : ℕ) (old new : EveryByPair) (losses : List Loss) (i : ℕ) (u : Unit {0}) → i < length losses
    → HasLosses motes old (take i losses) → AddsLoss motes (get_or losses i no_loss) old new (Ok u) → HasLosses motes new (take (i + 1) losses)
HasLosses-more motes old new losses i u within has adds = rw (take_more losses i no_loss within) (HasLosses-push motes old new (take i losses) (get_or losses i no_loss) u has adds)

-- a refused loss makes the whole list bad
pub refused : (motes : ℕ) (old new : EveryByPair) (xs rest : List Loss) (x : Loss) (e : MediumError) → HasLosses motes old xs → AddsLoss motes x old new (Err e) → GathersLosses motes (xs ++ (x ∷ rest)) (Err e)
refused motes old new xs rest x Memory has adds = tt
refused motes old new xs rest x ZeroBase has adds = adds
refused motes old new xs rest x ZeroPer has adds = adds
refused motes old new xs rest x BadLoss has adds =
    let again : Bool = list_any (is_for_pair x.sender x.to) xs in
    let alone : Bool = not (is_good motes x) in
    let this : (alone || again) ≡ true =
    elim adds [
      | inl bad ↦ or_left alone again (ap not bad)
      | inr twice ↦ or_right alone again (found xs x.sender x.to (subst IsSome (has.table x.sender x.to) twice))
    ] in
    let now : has_bad_loss motes (xs ++ x ∷ []) ≡ true = bad-push motes xs x ∙ or_right (has_bad_loss motes xs) (alone || again) this in
    let all : has_bad_loss motes ((xs ++ x ∷ []) ++ rest) ≡ true = bad-append motes (xs ++ x ∷ []) rest now in
    rw append_assoc at all

pub refused_at : (motes : ℕ) (old new : EveryByPair) (losses : List Loss) (i : ℕ) (e : MediumError) → i < length losses
    → HasLosses motes old (take i losses) → AddsLoss motes (get_or losses i no_loss) old new (Err e) → GathersLosses motes losses (Err e)
refused_at motes old new losses i e within has adds =
    let split : take i losses ++ (get_or losses i no_loss ∷ drop (suc i) losses) ≡ losses = ap (λ rest. take i losses ++ rest) (sym (drop-cons losses i no_loss within)) ∙ take-append-drop i losses in
    subst (λ all. GathersLosses motes all (Err e)) split (refused motes old new (take i losses) (drop (suc i) losses) (get_or losses i no_loss) e has adds)

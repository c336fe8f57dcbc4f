-- Losses on broken links make no error in a medium.
use Rattle.std.proofs.Common.{◌≡◌, ℕ, ◌==◌, nat_lt, Bool, true, false, not, ◌&&◌, ⊎_elim, List, [], ◌∷◌, length, map, refl, ◌∙◌, arith}
use Rattle.std.specs.List.{filter, list_any}
use Rattle.std.proofs.lemmas.Bool.{cases_Bool, or_parts}
use Rattle.std.proofs.lemmas.Bool.Decides.{nat_tests}
use Rattle.radio_medium.specs.declared.losses.Loss.{Loss}
use Rattle.radio_medium.specs.Medium.{Radio, is_for_pair, is_good, has_pair_twice, has_bad_loss, hears, receivers, motes}
use Rattle.radio_medium.proofs.Faults.{base_above, per_above, losses_good, no_fault}
use Rattle.radio_faults.specs.declared.fault.Fault.{Fault}
use Rattle.radio_faults.specs.LossTables.{is_broken, links, broken_links, losing_all, radio_with}
use Rattle.radio_faults.specs.Laws.{LossTablesAreSound}
use Rattle.radio_faults.proofs.AnyOf.{any-map, any-flat_map, any-filter, none_stricter, none_filtered, none_ever}

abbrev total : ℕ × ℕ → Loss
total link = record { sender = link.0; to = link.1; every = 1 }

and_not : (b : Bool) → (b && not b) ≡ false
and_not true = refl
and_not false = refl

not_and : (b : Bool) → (not b && b) ≡ false
not_and true = refl
not_and false = refl

all_hear : (radio : Radio) → list_any (λ (link : ℕ × ℕ). not (hears radio link.1 link.0)) (links radio) ≡ false
unfolding receivers
all_hear radio =
    any-flat_map (λ (link : ℕ × ℕ). not (hears radio link.1 link.0)) (λ s. map (λ r. (s, r)) (receivers radio s)) (motes radio)
    ∙ none_ever (λ s. list_any (λ (link : ℕ × ℕ). not (hears radio link.1 link.0)) (map (λ r. (s, r)) (receivers radio s))) one (motes radio)
  where
    one : (s : ℕ) → list_any (λ (link : ℕ × ℕ). not (hears radio link.1 link.0)) (map (λ r. (s, r)) (receivers radio s)) ≡ false
    one s =
        any-map (λ (link : ℕ × ℕ). not (hears radio link.1 link.0)) (λ r. (s, r)) (receivers radio s)
        ∙ (any-filter (λ r. not (hears radio r s)) (λ r. hears radio r s) (motes radio)
        ∙ none_ever (λ r. hears radio r s && not (hears radio r s)) (λ r. and_not (hears radio r s)) (motes radio))

good_pair : (n s r : ℕ) (near : Bool) → (nat_lt r n && (nat_lt s n && (not (r == s) && near))) ≡ true
    → (nat_lt s n && (nat_lt r n && (not (s == r) && true))) ≡ true
good_pair n s r near h = grind (arith, nat_tests)

heard_is_good : (radio : Radio) (link : ℕ × ℕ) → not (is_good (length radio.places) (total link)) ≡ true → not (hears radio link.1 link.0) ≡ true
unfolding hears
heard_is_good radio link bad = turned _ _ (good_pair (length radio.places) link.0 link.1 _) bad
  where
    turned : (a b : Bool) → (a ≡ true → b ≡ true) → not b ≡ true → not a ≡ true
    turned true b h fails = let passes : b ≡ true = h refl in absurd (cc)
    turned false b h fails = refl

broken_are_good : (faults : List Fault) (radio : Radio) → list_any (λ link. not (is_good (length radio.places) (total link))) (broken_links faults radio) ≡ false
broken_are_good faults radio =
    none_filtered (λ link. not (is_good (length radio.places) (total link))) (λ link. is_broken faults link.0 link.1) (links radio)
    (none_stricter (λ link. not (is_good (length radio.places) (total link))) (λ (link : ℕ × ℕ). not (hears radio link.1 link.0)) (heard_is_good radio) (links radio) (all_hear radio))

losing_good : (n : ℕ) (links : List (ℕ × ℕ)) (losses : List Loss) → list_any (λ link. not (is_good n (total link))) links ≡ false
    → list_any (λ loss. not (is_good n loss)) losses ≡ false → list_any (λ loss. not (is_good n loss)) (losing_all links losses) ≡ false
losing_good n [] losses good old = old
losing_good n (link ∷ links) losses good old =
    let parts : (not (is_good n (total link)) ≡ false) × (list_any (λ l. not (is_good n (total l))) links ≡ false) = or_parts _ _ good in
    let first : not (is_good n (total link)) ≡ false = parts.0 in
    rw first (none_filtered (λ loss. not (is_good n loss)) (λ loss. not (is_for_pair link.0 link.1 loss)) (losing_all links losses) (losing_good n links losses parts.1 old))

twice_filtered : (q : Loss → Bool) (losses : List Loss) → has_pair_twice losses ≡ false → has_pair_twice (filter q losses) ≡ false
twice_filtered q [] once = refl
twice_filtered q (loss ∷ losses) once =
    let parts : (list_any (is_for_pair loss.sender loss.to) losses ≡ false) × (has_pair_twice losses ≡ false) = or_parts _ _ once in
    let rest : has_pair_twice (filter q losses) ≡ false = twice_filtered q losses parts.1 in
    let first : list_any (is_for_pair loss.sender loss.to) (filter q losses) ≡ false = none_filtered _ q losses parts.0 in
    ⊎_elim (λ passes. rw passes (rw first rest)) (λ fails. rw fails rest) (cases_Bool (q loss))

losing_once : (links : List (ℕ × ℕ)) (losses : List Loss) → has_pair_twice losses ≡ false → has_pair_twice (losing_all links losses) ≡ false
losing_once [] losses once = once
losing_once (link ∷ links) losses once =
    let all : List Loss = losing_all links losses in
    let none : list_any (is_for_pair link.0 link.1) (filter (λ loss. not (is_for_pair link.0 link.1 loss)) all) ≡ false =
    any-filter (is_for_pair link.0 link.1) (λ loss. not (is_for_pair link.0 link.1 loss)) all
    ∙ none_ever (λ loss. not (is_for_pair link.0 link.1 loss) && is_for_pair link.0 link.1 loss) (λ loss. not_and (is_for_pair link.0 link.1 loss)) all in
    rw none (twice_filtered (λ loss. not (is_for_pair link.0 link.1 loss)) all (losing_once links losses once))

losing_not_bad : (n : ℕ) (links : List (ℕ × ℕ)) (losses : List Loss) → list_any (λ link. not (is_good n (total link))) links ≡ false
    → has_bad_loss n losses ≡ false → has_bad_loss n (losing_all links losses) ≡ false
unfolding has_bad_loss
losing_not_bad n links losses good old =
    let parts = or_parts (list_any (λ loss. not (is_good n loss)) losses) (has_pair_twice losses) old in
    let first = losing_good n links losses good parts.0 in
    rw first (losing_once links losses parts.1)

pub loss_tables_are_sound : LossTablesAreSound
loss_tables_are_sound radio faults sound =
    no_fault (radio_with faults radio)
    (λ e. let above = base_above radio sound in omega arith)
    (λ e. let above = per_above radio sound in omega arith)
    (losing_not_bad (length radio.places) (broken_links faults radio) radio.losses (broken_are_good faults radio) (losses_good radio sound))

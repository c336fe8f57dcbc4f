-- Motes are given their copies.
use Rattle.std.proofs.Common.{◌≡◌, ◌∙◌, ℕ, ◌<◌, Bool, true, false, not, ◌||◌, if◌then◌else◌, List, [], ◌∷◌, ◌++◌, length, get_or, set, Option, Some, None, IsSome, refl, sym, ap, subst, inl, inr}
use Rattle.std.proofs.Math.Bool.{or-false, or-true}
use Rattle.std.proofs.lemmas.Bool.{cases_eq, eq-eqb, ne_eqb, false≢true}
use Rattle.radio_packet.specs.declared.copy.RadioCopy.{RadioCopy}
use Rattle.worker_window.specs.Events.{IsSameMote, are_different, copies_at, held_copies, is_called, is_one_of}
use Rattle.worker_window.specs.Share.{mote_here}
use Rattle.worker_window.specs.declared.own.OwnWindow.{OwnWindow}
use Rattle.worker_window.proofs.Numbers.{among_more, different_more}
use Rattle.worker_window.proofs.Places.{at_place, put_here, put_else}

pub same_refl : (m : Option OwnWindow) → IsSameMote m m
same_refl None = tt
same_refl (Some own) = record { mote = refl; wake = refl; pending = refl; next = refl; lines = refl; sends = refl }

same_trans : (a b c : Option OwnWindow) → IsSameMote a b → IsSameMote b c → IsSameMote a c
same_trans None None c h k = k
same_trans None (Some y) c h k = absurd h
same_trans (Some x) None c h k = absurd h
same_trans (Some x) (Some y) None h k = absurd k
same_trans (Some x) (Some y) (Some z) h k = record {
  mote = k.mote ∙ h.mote;
  wake = k.wake ∙ h.wake;
  pending = k.pending ∙ h.pending;
  next = k.next ∙ h.next;
  lines = k.lines ∙ h.lines;
  sends = k.sends ∙ h.sends;
}

pub still_there : (a b : Option OwnWindow) → IsSameMote a b → IsSome a → IsSome b
still_there None b h there = absurd (false≢true there)
still_there (Some x) None h there = absurd h
still_there (Some x) (Some y) h there = refl

-- one mote is given copies
module _ (first now : List (Option OwnWindow)) (k : ℕ) (old new : Option OwnWindow) (is : old ≡ get_or now k old) (low : k < length now) (more : List RadioCopy)
    (added : held_copies new ≡ held_copies old ++ more) (kept : IsSameMote old new) where
  here : mote_here now k ≡ old
  here = at_place now k old None is low

  pub more_here : copies_at (set now k new) k ≡ copies_at now k ++ more
  more_here = ap held_copies (put_here now k new None low) ∙ (added ∙ ap (λ m. held_copies m ++ more) (sym here))

  pub else_same : (j : ℕ) → (j ≡ k → ⊥) → copies_at (set now k new) j ≡ copies_at now j
  else_same j ne = ap held_copies (put_else now k j new None ne)

  pub same_still : ((j : ℕ) → IsSameMote (mote_here first j) (mote_here now j)) → (j : ℕ) → IsSameMote (mote_here first j) (mote_here (set now k new) j)
  same_still same j = elim (cases_eq j k) [
    | inl e ↦ subst (λ i. IsSameMote (mote_here first i) (mote_here (set now k new) i)) (sym e)
        (subst (IsSameMote (mote_here first k)) (sym (put_here now k new None low)) (same_trans (mote_here first k) old new (subst (IsSameMote (mote_here first k)) here (same k)) kept))
    | inr ne ↦ subst (IsSameMote (mote_here first j)) (sym (put_else now k j new None ne)) (same j)
  ]

-- there is still no mote
pub still_none : (a b : Option OwnWindow) → a ≡ None → IsSameMote a b → b ≡ None
still_none None None e h = refl
still_none None (Some y) e h = absurd h
still_none (Some x) b e h = absurd (no e)
  where
    no : Some x ≡ None → ⊥
    no e = cc

-- a mote with a first event is called, once
module _ (first now : List (Option OwnWindow)) (k : ℕ) (old new : Option OwnWindow) (is : old ≡ get_or now k old) (low : k < length now) (called after : List ℕ) (b : Bool) (b_is : b ≡ not (is_called old))
    (after_is : after ≡ (if b then called ++ k ∷ [] else called)) (called_new : is_called new ≡ true) (calls : (j : ℕ) → is_called (mote_here now j) ≡ is_one_of j called) (different : are_different called ≡ true)
    (others : (j : ℕ) → is_one_of j called ≡ false → mote_here now j ≡ mote_here first j) where
  flips : (a b : Bool) → a ≡ not b → b ≡ not a
  flips true true e = absurd (false≢true (sym e))
  flips true false e = refl
  flips false true e = refl
  flips false false e = absurd (false≢true e)

  was : is_one_of k called ≡ is_called old
  was = sym (calls k) ∙ ap is_called (at_place now k old None is low)

  pub called_else : (j : ℕ) → (j ≡ k → ⊥) → is_one_of j after ≡ is_one_of j called
  called_else j ne = ap (is_one_of j) after_is ∙ go b
    where
      go : (b : Bool) → is_one_of j (if b then called ++ k ∷ [] else called) ≡ is_one_of j called
      go true = among_more j called k ∙ (ap (λ c. is_one_of j called || c) (ne_eqb k j (λ f. ne (sym f))) ∙ or-false (is_one_of j called))
      go false = refl

  pub called_now : is_one_of k after ≡ true
  called_now = ap (is_one_of k) after_is ∙ go b b_is
    where
      go : (b : Bool) → b ≡ not (is_called old) → is_one_of k (if b then called ++ k ∷ [] else called) ≡ true
      go true e = among_more k called k ∙ (ap (λ c. is_one_of k called || c) (eq-eqb k k refl) ∙ or-true (is_one_of k called))
      go false e = was ∙ flips false (is_called old) e

  pub different_then : are_different after ≡ true
  different_then = ap are_different after_is ∙ go b b_is
    where
      go : (b : Bool) → b ≡ not (is_called old) → are_different (if b then called ++ k ∷ [] else called) ≡ true
      go true e = different_more called k different (was ∙ flips true (is_called old) e)
      go false e = different

  pub calls_then : (j : ℕ) → is_called (mote_here (set now k new) j) ≡ is_one_of j after
  calls_then j = elim (cases_eq j k) [
    | inl e ↦ subst (λ i. is_called (mote_here (set now k new) i) ≡ is_one_of i after) (sym e) (ap is_called (put_here now k new None low) ∙ (called_new ∙ sym called_now))
    | inr ne ↦ ap is_called (put_else now k j new None ne) ∙ (calls j ∙ sym (called_else j ne))
  ]

  pub others_then : (j : ℕ) → is_one_of j after ≡ false → mote_here (set now k new) j ≡ mote_here first j
  others_then j e = elim (cases_eq j k) [
    | inl f ↦ absurd (false≢true (sym e ∙ (ap (λ i. is_one_of i after) f ∙ called_now)))
    | inr ne ↦ put_else now k j new None ne ∙ others j (sym (called_else j ne) ∙ e)
  ]

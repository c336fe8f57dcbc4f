-- A process list whose incarnations are numbered in their order.
use Rattle.std.proofs.Common.{ℕ, zero, suc, ◌≡◌, ◌+◌, ◌<◌, ◌≤◌, ◌==◌, ◌&&◌, ◌||◌, Bool, true, false, List, [], ◌∷◌, length, refl, ap, ◌∙◌, arith}
use Rattle.std.specs.Prelude.{slice_index_or}
use Rattle.process_kernel.specs.declared.process.Member.{Member}
use Rattle.process_kernel.specs.ProcessList.{is_same, holds_member, numbered_from}

and_false : (a : Bool) → (a && false) ≡ false
and_false true = refl
and_false false = refl

and_true : (a : Bool) → (a && true) ≡ a
and_true true = refl
and_true false = refl

or_false : (a : Bool) → (a || false) ≡ a
or_false true = refl
or_false false = refl

-- an incarnation with a number below k isn't on the list
lower_is_away : (k : ℕ) (ms : List Member) (m : Member) → m.incarnation < k → holds_member (numbered_from k ms) m ≡ false
lower_is_away k [] m low = refl
lower_is_away k (x ∷ ms) m low =
    let other : (m.incarnation == k) ≡ false = grind arith in
    rw (other, and_false (is_same m.process x.process)) (lower_is_away (k + 1) ms m (omega (arith, low)))

-- an incarnation with a number from k on is at its place of the list, or not on the list
held_from : (k i : ℕ) (ms : List Member) (m d : Member) → m.incarnation ≡ k + i → i < length ms
    → holds_member (numbered_from k ms) m ≡ is_same m.process (slice_index_or ms i d).process
held_from k i [] m d is within = absurd (omega arith)
held_from k zero (x ∷ ms) m d is within =
    let same : (m.incarnation == k) ≡ true = grind arith in
    rw (same, and_true (is_same m.process x.process), lower_is_away (k + 1) ms m (omega (arith, is))) (or_false (is_same m.process x.process))
held_from k (suc i) (x ∷ ms) m d is within =
    let other : (m.incarnation == k) ≡ false = grind arith in
    rw (other, and_false (is_same m.process x.process)) (held_from (k + 1) i ms m d (omega (arith, is)) (omega (arith, within)))

away_from : (k i : ℕ) (ms : List Member) (m : Member) → m.incarnation ≡ k + i → length ms ≤ i → holds_member (numbered_from k ms) m ≡ false
away_from k i [] m is past = refl
away_from k zero (x ∷ ms) m is past = absurd (omega arith)
away_from k (suc i) (x ∷ ms) m is past =
    let other : (m.incarnation == k) ≡ false = grind arith in
    rw (other, and_false (is_same m.process x.process)) (away_from (k + 1) i ms m (omega (arith, is)) (omega (arith, past)))

pub held_there : (ms : List Member) (m d : Member) → ms ≡ numbered_from 0 ms → m.incarnation < length ms
    → holds_member ms m ≡ is_same m.process (slice_index_or ms m.incarnation d).process
held_there ms m d numbered within = ap (λ xs. holds_member xs m) numbered ∙ held_from 0 m.incarnation ms m d (omega arith) within

pub held_past : (ms : List Member) (m : Member) → ms ≡ numbered_from 0 ms → length ms ≤ m.incarnation → holds_member ms m ≡ false
held_past ms m numbered past = ap (λ xs. holds_member xs m) numbered ∙ away_from 0 m.incarnation ms m (omega arith) past

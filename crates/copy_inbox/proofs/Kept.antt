-- The counts that a taker keeps after it has dropped the first ones.
use Rattle.std.proofs.Common.{◌≡◌, ◌≢◌, ℕ, zero, suc, ◌+◌, ◌-◌, ◌^◌, ◌≤◌, ◌<◌, Bool, true, false, cond, eqb, List, [], ◌∷◌, ◌++◌, length, drop, set, get_or, refl, sym, ap, ◌∙◌, subst, ⊎_elim, arith, length-append}
use Rattle.std.proofs.Math.ListN.{length-set}
use Rattle.std.proofs.lemmas.Bool.{cases_lt, true≢false}
use Rattle.std.proofs.lemmas.Bool.Decides.{eqb_tells}
use Rattle.std.proofs.lemmas.List.{drop-set-lt, drop-set-add, get_or-drop, length-drop, drop-append-le}
use Rattle.copy_inbox.specs.Gathered.{is_gathered, known_of}
use Rattle.copy_inbox.specs.Handles.{taker_state_in, sender_state_in, IsSender}
use Rattle.copy_inbox.specs.Items.{part}
use Rattle.copy_inbox.specs.Kept.{KeepsSenderCounts, CountsTaken, Forgets}
use Rattle.copy_inbox.specs.Rule.{SeenBy}
use Rattle.copy_inbox.specs.Views.{with_one_more, with_gathered, with_taken}
use Rattle.copy_inbox.specs.declared.count.Count.{Count}
use Rattle.copy_inbox.specs.declared.items.Item.{Item}
use Rattle.copy_inbox.specs.declared.rule.View.{View}
use mir.Val.{bool_byte}
use Rattle.copy_inbox.proofs.Takers.{count, byte_is, more_as, took_as, joined_state, joined_is, joined_seen, joined_leaves, joined_index, next_below, next_known, next_kept, next_fits}

-- ---- the count of a sender that is still counted
kept_at : (first s : ℕ) (counts kept : List Count) (c : Count) → kept ≡ drop first counts → first ≤ s → get_or kept (s - first) c ≡ get_or counts s c
kept_at first s counts kept c rest le =
    let e : first + (s - first) ≡ s = omega arith in
    ap (λ l. get_or l (s - first) c) rest ∙ (get_or-drop first counts (s - first) c ∙ ap (λ j. get_or counts j c) e)

kept_set : (first s : ℕ) (counts : List Count) (c : Count) → first ≤ s → set (drop first counts) (s - first) c ≡ drop first (set counts s c)
kept_set first s counts c le =
    let e : first + (s - first) ≡ s = omega arith in
    sym (drop-set-add first counts (s - first) c) ∙ ap (λ j. drop first (set counts j c)) e

-- the number of counts kept is the same, if the number of senders is the same
still_made : (first : ℕ) (old new kept now : List Count) → first + length kept ≡ length old → length new ≡ length old → now ≡ drop first new → first + length now ≡ length new
still_made first old new kept now made same rest =
    let long = ap length rest in
    omega (arith, length-drop first new)

-- ---- one more sender
pub keeps_more : (v w : View) (first : ℕ) (kept : List Count) (k : ℕ) → w ≡ with_one_more v → KeepsSenderCounts v first kept k → KeepsSenderCounts w first (kept ++ record { taken = 0; gathered = false } ∷ []) k
keeps_more v w first kept k e t =
    let one : List Count = count 0 false ∷ [] in
    let made = t.made in
    record {
      counts = t.counts ++ one;
      taker = more_as v w t.counts k e t.taker;
      rest = ap (λ l. l ++ one) t.rest ∙ sym (drop-append-le first t.counts one (omega arith));
      made = omega (arith, length-append kept one, length-append t.counts one);
      few = t.few;
      gathered = λ s lt. ap (λ (u : View). is_gathered (taker_state_in u).gathered s) (e ∙ ap with_one_more t.taker.is) ∙ t.gathered s lt;
    }

-- ---- an item taken
module _ (v : View) (first : ℕ) (kept : List Count) (k : ℕ) (x : Item) (rest : List Item) (t : KeepsSenderCounts v first kept k) (seen : SeenBy v (x ∷ rest)) where
  pub next_made : x.sender < first + length kept
  next_made =
      let below = next_below v t.counts k x rest t.taker seen in
      let made = t.made in
      omega arith

  pub next_few : first ≤ x.sender → (c : Count) → (get_or kept (x.sender - first) c).taken + 1 < 2 ^ 64
  next_few le c =
      let d : Count = get_or t.counts x.sender c in
      let below = next_below v t.counts k x rest t.taker seen in
      let made = t.taker.made in
      let same : d ≡ get_or t.counts x.sender d = t.taker.counted x.sender c (omega arith) ∙ sym (t.taker.counted x.sender d (omega arith)) in
      subst (λ (z : Count). z.taken + 1 < 2 ^ 64) (sym (kept_at first x.sender t.counts kept c t.rest le)) (next_fits v t.counts k x rest d t.taker seen same)

  module _ (now : List Count) (b : Bool) (n : ℕ) (c : CountsTaken first x.sender kept now b) (is : n ≡ bool_byte b) where
    matches : b ≡ is_gathered (taker_state_in v).gathered x.sender
    matches = ⊎_elim
        (λ (lt : x.sender < first). (c.forgotten lt).1 ∙ sym (t.gathered x.sender lt))
        (λ (le : first ≤ x.sender).
        let h = c.counted le in
        h.3 ∙ ap (λ (y : Count). y.gathered) (next_kept v t.counts k x rest h.0 t.taker seen (h.1 ∙ kept_at first x.sender t.counts kept h.0 t.rest le)))
        (cases_lt x.sender first)

    one : n ≡ cond (is_gathered (taker_state_in v).gathered x.sender) 1 0
    one = is ∙ (byte_is b ∙ ap (λ z. cond z 1 0) matches)

    down : k ≡ n + known_of (taker_state_in v).gathered ((taker_state_in v).taken ++ x ∷ [])
    down =
        let m = known_of (taker_state_in v).gathered ((taker_state_in v).taken ++ x ∷ []) in
        t.taker.known_is ∙ ((next_known v x rest t.taker.is seen).known ∙ ap (λ i. i + m) (sym one))

    pub next_down : n ≤ k
    next_down = let d = down in omega arith

    pub keeps_taken : (w : View) → w ≡ with_taken v x → KeepsSenderCounts w first now (k - n)
    keeps_taken w e =
        let new : Count = count (length (part x.sender (taker_state_in v).taken) + 1) (is_gathered (taker_state_in v).gathered x.sender) in
        let all : List Count = set t.counts x.sender new in
        let d = down in
        let left : now ≡ drop first all = ⊎_elim
        (λ (lt : x.sender < first). (c.forgotten lt).0 ∙ (t.rest ∙ sym (drop-set-lt first t.counts x.sender new lt)))
        (λ (le : first ≤ x.sender).
        let h = c.counted le in
        let same = next_kept v t.counts k x rest h.0 t.taker seen (h.1 ∙ kept_at first x.sender t.counts kept h.0 t.rest le) in
        h.2 ∙ ((λ i. set (t.rest i) (x.sender - first) (count ((same i).taken + 1) (same i).gathered)) ∙ kept_set first x.sender t.counts new le))
        (cases_lt x.sender first) in
        record {
          counts = all;
          taker = took_as v w x rest t.counts k (k - n) n new seen e t.taker one (omega arith) refl;
          rest = left;
          made = still_made first t.counts all kept now t.made (length-set t.counts x.sender new) left;
          few = t.few;
          gathered = λ s lt. ap (λ (u : View). is_gathered (taker_state_in u).gathered s) (e ∙ ap (λ u. with_taken u x) t.taker.is) ∙ t.gathered s lt;
        }

-- ---- a sender gathered
module _ (v u w : View) (first : ℕ) (kept : List Count) (k pushed number : ℕ) (items : List Item) (t : KeepsSenderCounts v first kept k) (r : IsSender u pushed) (num : number ≡ (sender_state_in u).number)
    (e : w ≡ with_gathered v u) (seen : SeenBy w items) where
  -- the sender wasn't gathered before, so its count wasn't dropped
  pub joined_first : first ≤ number
  joined_first = ⊎_elim
      (λ (lt : number < first).
      let s = joined_seen v u w t.counts k pushed items t.taker r e seen in
      let yes = t.gathered number lt in
      let no = ap (is_gathered (taker_state_in v).gathered) num ∙ s.2.apart.0 in
      absurd (true≢false (sym yes ∙ no)))
      (λ (le : first ≤ number). le)
      (cases_lt number first)

  pub joined_there : number - first < length kept
  joined_there =
      let below = joined_index v u w t.counts k pushed number items t.taker r num e seen in
      let made = t.made in
      let le = joined_first in
      omega arith

  pub joined_at : (c : Count) → c ≡ get_or kept (number - first) c → c ≡ get_or t.counts number c
  joined_at c at = at ∙ kept_at first number t.counts kept c t.rest joined_first

  pub keeps_joined : (y : View) (c : Count) → c ≡ get_or kept (number - first) c → y ≡ w → KeepsSenderCounts y first (set kept (number - first) (count c.taken true)) (k + (pushed - c.taken))
  keeps_joined y c at same =
      let new : Count = count c.taken true in
      let all : List Count = set t.counts number new in
      let left : set kept (number - first) new ≡ drop first all = ap (λ l. set l (number - first) new) t.rest ∙ kept_set first number t.counts new joined_first in
      let p = sender_state_in u in
      let gs = (taker_state_in v).gathered in
      record {
        counts = all;
        taker = joined_leaves v u w y t.counts k pushed number items c t.taker r num e seen (joined_at c at) same;
        rest = left;
        made = still_made first t.counts all kept (set kept (number - first) new) t.made (length-set t.counts number new) left;
        few = t.few;
        gathered = λ s lt.
            let is : is_gathered (joined_state (taker_state_in v) p).gathered s ≡ true = ⊎_elim
            (λ (q : (eqb p.number s ≡ true) × (p.number ≡ s)). rw q.0 refl)
            (λ (q : (eqb p.number s ≡ false) × (p.number ≢ s)). rw q.0 (t.gathered s lt))
            (eqb_tells p.number s) in
            ap (λ (z : View). is_gathered (taker_state_in z).gathered s) (same ∙ joined_is v u w t.taker.is r.is e) ∙ is;
      }

-- ---- the first count dropped
drop_one : (n : ℕ) (counts : List Count) → drop 1 (drop n counts) ≡ drop (n + 1) counts
drop_one zero counts = refl
drop_one (suc n) [] = let e : suc n + 1 ≡ suc (n + 1) = omega arith in ap (λ k. drop k []) (sym e)
drop_one (suc n) (c ∷ counts) = let e : suc n + 1 ≡ suc (n + 1) = omega arith in drop_one n counts ∙ ap (λ k. drop k (c ∷ counts)) (sym e)

pub keeps_forgetting : (v : View) (first then : ℕ) (kept now : List Count) (k : ℕ) → KeepsSenderCounts v first kept k → Forgets first kept then now → KeepsSenderCounts v then now k
keeps_forgetting v first then kept now k t f = ⊎_elim
    (λ (same : (then ≡ first) × (now ≡ kept)). subst (λ (y : ℕ × List Count). KeepsSenderCounts v y.0 y.1 k) (λ i. (sym same.0 i, sym same.1 i)) t)
    (λ (h : (then ≡ first + 1) × (first < 2 ^ 62) × (0 < length kept) × (now ≡ drop 1 kept) × ((c : Count) → (get_or kept 0 c).gathered ≡ true)).
    let left : now ≡ drop then t.counts = h.3 ∙ (ap (drop 1) t.rest ∙ (drop_one first t.counts ∙ ap (λ n. drop n t.counts) (sym h.0))) in
    let made = t.made in
    let long = ap length left in
    let next = h.0 in
    let low = h.1 in
    let some = h.2 in
    record {
      counts = t.counts;
      taker = t.taker;
      rest = left;
      made = omega (arith, length-drop then t.counts);
      few = omega arith;
      gathered = λ s lt. ⊎_elim
          (λ (less : s < first). t.gathered s less)
          (λ (le : first ≤ s).
          let at : s ≡ first = omega arith in
          let all = t.taker.made in
          let c : Count = count 0 false in
          let e : get_or kept 0 c ≡ get_or t.counts first c = ap (λ l. get_or l 0 c) t.rest ∙ (get_or-drop first t.counts 0 c ∙ ap (λ j. get_or t.counts j c) (omega arith)) in
          let is = e ∙ t.taker.counted first c (omega arith) in
          ap (is_gathered (taker_state_in v).gathered) at ∙ (sym (ap (λ (y : Count). y.gathered) is) ∙ h.4 c))
          (cases_lt s first);
    })
    f

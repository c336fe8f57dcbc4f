-- All open senders of an inbox are gathered, one after another.
use Rattle.std.proofs.Common.{[], ◌≡◌, ◌≢◌, ◌⊎◌, ℕ, zero, suc, ◌+◌, ◌<◌, ◌≤◌, true, false, eqb, List, ◌∷◌, ◌++◌, length, map, drop, refl, sym, ap, ◌∙◌, subst, inl, inr, ⊎_elim, arith, append_assoc, append-nil, eq-eqb, ne_eqb}
use Rattle.std.proofs.Math.Seq.{drop-append_seam}
use Rattle.std.proofs.lemmas.Bool.{cases_lt}
use Rattle.std.proofs.lemmas.Bool.Decides.{eqb_tells}
use Rattle.std.proofs.lemmas.List.Concat.{flat_map-cons}
use Rattle.std.specs.List.{AllByRecursion as Each, flat_map, range_with_len}
use Rattle.copy_exchange.specs.Endpoints.{AreOpen}
use Rattle.copy_exchange.specs.Steps.{gather_senders}
use Rattle.copy_exchange.specs.Takers.{SameOfEach, copies_in, copies_gathered, IsRest, IsOrderly}
use Rattle.copy_inbox.proofs.Parts.{part-append}
use Rattle.copy_inbox.specs.Gathered.{is_gathered, untaken_of, Apart, TookFronts, Whole}
use Rattle.copy_inbox.specs.Handles.{TakerView, SenderView, after_gather, AllGathered, PacketsLeft}
use Rattle.copy_inbox.specs.Items.{copies_of, Packets, part}
use Rattle.copy_inbox.specs.Views.{make_taker_state, make_gathered}
use Rattle.copy_inbox.specs.declared.items.Carried.{Carried}
use Rattle.copy_inbox.specs.declared.items.Item.{Item}
use Rattle.copy_inbox.specs.declared.rule.Gathered.{Gathered}
use Rattle.copy_inbox.specs.declared.rule.TakerState.{TakerState}
use Rattle.radio_packet.specs.declared.copy.RadioCopy.{RadioCopy}
use Rattle.copy_exchange.proofs.Lists.{each_map, either, heads}
use Rattle.copy_exchange.proofs.Parts.{from, from-append, copies-append, OnlyIn, of_one_sender, nothing_more}

abbrev pub copies_by : SenderView → List RadioCopy
copies_by s = copies_in s.state.pushed

abbrev pub as_gathered : ℕ → SenderView → Gathered
as_gathered made s = make_gathered s.state.number made s.state.pushed

abbrev pub joined : ℕ → List SenderView → List Gathered → List Gathered
joined made [] gs = gs
joined made (s ∷ ss) gs = joined made ss (as_gathered made s ∷ gs)

abbrev pub with_joined : List SenderView → TakerState → TakerState
with_joined ss d = make_taker_state d.marked d.made d.taken (joined d.made ss d.gathered)

pub gather_is : (t : TakerView) (ss : List SenderView) → gather_senders t ss ≡ record { inbox = t.inbox; state = with_joined ss t.state }
gather_is t [] = refl
gather_is t (s ∷ ss) = gather_is (after_gather t s.state) ss

pub joined_copies : (made : ℕ) (ss : List SenderView) (gs : List Gathered) → copies_gathered (joined made ss gs) ≡ copies_gathered gs ++ flat_map copies_by ss
joined_copies made [] gs = sym (append-nil (copies_gathered gs))
joined_copies made (s ∷ ss) gs =
    joined_copies made ss (as_gathered made s ∷ gs) ∙ (append_assoc (copies_gathered gs) (copies_by s) (flat_map copies_by ss) ∙ ap (λ l. copies_gathered gs ++ l) (sym (flat_map-cons copies_by s ss)))

-- ---- the properties of each gathered sender
module _ (P : Gathered → Type 0) (made : ℕ) where
  each_old : (ss : List SenderView) (gs : List Gathered) → Each P (joined made ss gs) → Each P gs
  each_old [] gs h = h
  each_old (s ∷ ss) gs h = (each_old ss (as_gathered made s ∷ gs) h).1

  each_new : (ss : List SenderView) (gs : List Gathered) → Each P (joined made ss gs) → Each (λ s. P (as_gathered made s)) ss
  each_new [] gs h = tt
  each_new (s ∷ ss) gs h = ((each_old ss (as_gathered made s ∷ gs) h).0, each_new ss (as_gathered made s ∷ gs) h)

  pub each_joined : (ss : List SenderView) (gs : List Gathered) → Each P gs → Each (λ s. P (as_gathered made s)) ss → Each P (joined made ss gs)
  each_joined [] gs old new = old
  each_joined (s ∷ ss) gs old new = each_joined ss (as_gathered made s ∷ gs) (new.0, old) new.1

-- ---- the senders that are gathered
pub gathered_more : (g : Gathered) (gs : List Gathered) (i : ℕ) → i ≢ g.number → is_gathered (g ∷ gs) i ≡ is_gathered gs i
gathered_more g gs i n = rw (ne_eqb g.number i (λ e. n (sym e))) refl

gathered_same : (g : Gathered) (gs : List Gathered) (i : ℕ) → i ≡ g.number → is_gathered (g ∷ gs) i ≡ true
gathered_same g gs i e = rw (eq-eqb g.number i (sym e)) refl

module _ (Q : ℕ → Type 0) where
  pub by_number : (gs : List Gathered) → Each (λ (g : Gathered). Q g.number) gs → (i : ℕ) → is_gathered gs i ≡ true → Q i
  by_number [] h i e = absurd cc
  by_number (g ∷ gs) h i e = ⊎_elim
      (λ (t : (eqb i g.number ≡ true) × (i ≡ g.number)). subst Q (sym t.1) h.0)
      (λ (t : (eqb i g.number ≡ false) × (i ≢ g.number)). by_number gs h.1 i (sym (gathered_more g gs i t.1) ∙ e))
      (eqb_tells i g.number)

  by_joined : (made : ℕ) (ss : List SenderView) (gs : List Gathered) → ((i : ℕ) → is_gathered gs i ≡ true → Q i) → Each (λ (s : SenderView). Q s.state.number) ss
      → (i : ℕ) → is_gathered (joined made ss gs) i ≡ true → Q i
  by_joined made [] gs old new i e = old i e
  by_joined made (s ∷ ss) gs old new i e =
      let g = as_gathered made s in
      by_joined made ss (g ∷ gs) (λ k h. ⊎_elim
      (λ (t : (eqb k g.number ≡ true) × (k ≡ g.number)). subst Q (sym t.1) new.0)
      (λ (t : (eqb k g.number ≡ false) × (k ≢ g.number)). old k (sym (gathered_more g gs k t.1) ∙ h))
      (eqb_tells k g.number)) new.1 i e

-- ---- one after another
abbrev pub numbers_of : List SenderView → List ℕ
numbers_of ss = map (λ (s : SenderView). s.state.number) ss

record Gathering (ss : List SenderView) (d : TakerState) : Type 0 where
  are_open : AreOpen ss d
  apart : Apart d.gathered
  begun : TookFronts d.gathered d.taken
  unseen : (i : ℕ) → is_gathered d.gathered i ≡ false → part i d.taken ≡ []
  numbers : Each (λ (g : Gathered). (g.number < d.made) × (g.made ≤ d.made)) d.gathered

gathers_one : (s : SenderView) (ss : List SenderView) (d : TakerState) → Gathering (s ∷ ss) d → Gathering ss (with_joined (s ∷ []) d)
gathers_one s ss d h =
    let o = h.are_open in
    let first : ℕ = o.first in
    let e = heads s.state.number first (numbers_of ss) (range_with_len (first + 1) (length ss)) o.numbered in
    let made = o.made in
    let number = e.0 in
    let g = as_gathered d.made s in
    let not_yet : is_gathered d.gathered s.state.number ≡ false = o.newer s.state.number (omega arith) in
    record {
      are_open = record {
        first = first + 1;
        numbered = e.1;
        made = omega arith;
        older = λ i lt. ⊎_elim
            (λ (t : (eqb i g.number ≡ true) × (i ≡ g.number)). gathered_same g d.gathered i t.1)
            (λ (t : (eqb i g.number ≡ false) × (i ≢ g.number)). gathered_more g d.gathered i t.1 ∙ (let n = t.1 in o.older i (omega arith)))
            (eqb_tells i g.number);
        newer = λ i le. gathered_more g d.gathered i (λ z. absurd (omega arith)) ∙ o.newer i (omega arith);
      };
      apart = (not_yet, h.apart);
      begun = ((s.state.pushed, ap (λ l. l ++ s.state.pushed) (sym (h.unseen s.state.number not_yet))), h.begun);
      unseen = λ i no. ⊎_elim
          (λ (t : (eqb i g.number ≡ true) × (i ≡ g.number)). let yes = gathered_same g d.gathered i t.1 in absurd cc)
          (λ (t : (eqb i g.number ≡ false) × (i ≢ g.number)). h.unseen i (sym (gathered_more g d.gathered i t.1) ∙ no))
          (eqb_tells i g.number);
      numbers = ((omega arith, omega arith), h.numbers);
    }

gathers_all : (ss : List SenderView) (d : TakerState) → Gathering ss d → Gathering [] (with_joined ss d)
gathers_all [] d h = h
gathers_all (s ∷ ss) d h = gathers_all ss (with_joined (s ∷ []) d) (gathers_one s ss d h)

-- ---- all copies of one mote are from one sender
pub record OneOf (s : ℕ) (ss : List SenderView) : Type 0 where
  pub number : ℕ
  pub each : Each (λ (a : SenderView). (a.state.number ≡ number) ⊎ (from s (copies_by a) ≡ [])) ss

module _ (s j : ℕ) where
  abbrev Mine : SenderView → Type 0
  Mine a = (a.state.number ≡ j) ⊎ (from s (copies_by a) ≡ [])

  none_of : (first : ℕ) (ss : List SenderView) → numbers_of ss ≡ range_with_len first (length ss) → j < first → Each Mine ss → from s (flat_map copies_by ss) ≡ []
  none_of first [] e lt h = refl
  none_of first (a ∷ as') e lt h =
      let heads' = heads a.state.number first (numbers_of as') (range_with_len (first + 1) (length as')) e in
      let is = heads'.0 in
      let here : from s (copies_by a) ≡ [] = ⊎_elim (λ (same : a.state.number ≡ j). absurd (omega arith)) (λ (none : from s (copies_by a) ≡ []). none) h.0 in
      ap (from s) (flat_map-cons copies_by a as') ∙ (from-append s (copies_by a) (flat_map copies_by as') ∙ (ap (λ l. l ++ from s (flat_map copies_by as')) here ∙ none_of (first + 1) as' heads'.1 (omega arith) h.1))

  all_of : (items : List Item) (first : ℕ) (ss : List SenderView) → numbers_of ss ≡ range_with_len first (length ss) → Each (λ (a : SenderView). part a.state.number items ≡ a.state.pushed) ss → Each Mine ss
      → ((j < first) ⊎ (first + length ss ≤ j) → from s (copies_in (part j items)) ≡ []) → from s (flat_map copies_by ss) ≡ from s (copies_in (part j items))
  all_of items first [] e parts h out = ⊎_elim (λ (lt : j < first). sym (out (inl lt))) (λ (ge : first ≤ j). sym (out (inr (omega arith)))) (cases_lt j first)
  all_of items first (a ∷ as') e parts h out =
      let heads' = heads a.state.number first (numbers_of as') (range_with_len (first + 1) (length as')) e in
      let is = heads'.0 in
      ap (from s) (flat_map-cons copies_by a as') ∙ (from-append s (copies_by a) (flat_map copies_by as') ∙ ⊎_elim
      (λ (t : (eqb j first ≡ true) × (j ≡ first)).
      let same = t.1 in
      ap (λ l. from s (copies_by a) ++ l) (none_of (first + 1) as' heads'.1 (omega arith) h.1) ∙ (append-nil (from s (copies_by a)) ∙ (ap (λ l. from s (copies_in l)) (sym parts.0) ∙ ap (λ n. from s (copies_in (part n items))) (is ∙ sym same))))
      (λ (t : (eqb j first ≡ false) × (j ≢ first)).
      let other = t.1 in
      let here : from s (copies_by a) ≡ [] = ⊎_elim (λ (same : a.state.number ≡ j). absurd (other (sym same ∙ is))) (λ (none : from s (copies_by a) ≡ []). none) h.0 in
      ap (λ l. l ++ from s (flat_map copies_by as')) here ∙ all_of items (first + 1) as' heads'.1 parts.1 h.1 (λ q. ⊎_elim (λ (lt : j < first + 1). out (inl (omega arith))) (λ (ge : first + 1 + length as' ≤ j). out (inr (omega arith))) q))
      (eqb_tells j first))

each_both : {P Q R : Gathered → Type 0} (gs : List Gathered) → ((g : Gathered) → P g × Q g → R g) → Each P gs → Each Q gs → Each R gs
each_both [] f h k = tt
each_both (g ∷ gs) f h k = (f g (h.0, k.0), each_both gs f h.1 k.1)

module _ (P Q R : SenderView → Type 0) where
  each_two : (ss : List SenderView) → ((a : SenderView) → P a → Q a → R a) → Each P ss → Each Q ss → Each R ss
  each_two [] f h k = tt
  each_two (a ∷ as') f h k = (f a h.0 k.0, each_two as' f h.1 k.1)

-- nothing was taken from senders numbered from `first` on
fresh_parts : (taken rest : List Item) (first : ℕ) (ss : List SenderView) → numbers_of ss ≡ range_with_len first (length ss) → ((i : ℕ) → first ≤ i → part i taken ≡ [])
    → Each (λ (a : SenderView). part a.state.number (taken ++ rest) ≡ a.state.pushed) ss → Each (λ (a : SenderView). part a.state.number rest ≡ a.state.pushed) ss
fresh_parts taken rest first [] e none h = tt
fresh_parts taken rest first (a ∷ as') e none h =
    let heads' = heads a.state.number first (numbers_of as') (range_with_len (first + 1) (length as')) e in
    let is = heads'.0 in
    let empty = none a.state.number (omega arith) in
    (ap (λ l. l ++ part a.state.number rest) (sym empty) ∙ (sym (part-append a.state.number taken rest) ∙ h.0), fresh_parts taken rest (first + 1) as' heads'.1 (λ i le. none i (omega arith)) h.1)

-- ---- the taker afterwards
module _ (ss : List SenderView) (d : TakerState) (orderly : IsOrderly d) (whole : Whole d.gathered d.taken) (are_open : AreOpen ss d) (one : (s : ℕ) → OneOf s ss) where
  start : Gathering ss d
  start = record { are_open = are_open; apart = orderly.apart; begun = orderly.begun; unseen = orderly.unseen; numbers = orderly.numbers }

  end : Gathering [] (with_joined ss d)
  end = gathers_all ss d start

  pub all_gathered : AllGathered (with_joined ss d)
  all_gathered i lt = let made = end.are_open.made in end.are_open.older i (omega arith)

  -- nothing more arrives from a sender that was gathered before
  module _ (rest : List Item) (is_rest : IsRest (with_joined ss d) rest) where
    old_whole : Whole d.gathered (d.taken ++ rest)
    old_whole = each_old (λ g. part g.number (d.taken ++ rest) ≡ g.pushed) d.made ss d.gathered is_rest.0

    none_more : (g : Gathered) → (part g.number d.taken ≡ g.pushed) × (part g.number (d.taken ++ rest) ≡ g.pushed) → part g.number rest ≡ []
    none_more g h = nothing_more (part g.number d.taken) (part g.number rest) (sym (part-append g.number d.taken rest) ∙ (h.1 ∙ sym h.0))

    old_done : (i : ℕ) → is_gathered d.gathered i ≡ true → part i rest ≡ []
    old_done = by_number (λ i. part i rest ≡ []) d.gathered (each_both d.gathered none_more whole old_whole)

    not_gathered : (i : ℕ) → is_gathered (joined d.made ss d.gathered) i ≡ false → part i rest ≡ []
    not_gathered i open' = nothing_more (part i d.taken) (part i rest) (sym (part-append i d.taken rest) ∙ is_rest.1 i open')

    new_parts : Each (λ (a : SenderView). part a.state.number rest ≡ a.state.pushed) ss
    new_parts = fresh_parts d.taken rest are_open.first ss are_open.numbered (λ i le. orderly.unseen i (are_open.newer i le)) (each_new (λ g. part g.number (d.taken ++ rest) ≡ g.pushed) d.made ss d.gathered is_rest.0)

    only_in : (s : ℕ) → OnlyIn s (one s).number rest
    only_in s i other =
        let j : ℕ = (one s).number in
        let Q : ℕ → Type 0 = λ k. k ≢ j → from s (copies_in (part k rest)) ≡ [] in
        let Mine' : SenderView → Type 0 = λ a. (a.state.number ≡ j) ⊎ (from s (copies_by a) ≡ []) in
        let old : (k : ℕ) → is_gathered d.gathered k ≡ true → Q k = λ k yes other. ap (λ l. from s (copies_in l)) (old_done k yes) in
        let new : Each (λ (a : SenderView). Q a.state.number) ss = each_two Mine' (λ a. part a.state.number rest ≡ a.state.pushed) (λ a. Q a.state.number) ss
        (λ a mine is other. ap (λ l. from s (copies_in l)) is ∙ ⊎_elim (λ (same : a.state.number ≡ j). absurd (other same)) (λ (none : from s (copies_by a) ≡ []). none) mine) (one s).each new_parts in
        either (is_gathered (joined d.made ss d.gathered) i)
        (λ yes. by_joined Q d.made ss d.gathered old new i yes other)
        (λ no. ap (λ l. from s (copies_in l)) (not_gathered i no))

    outside : (j : ℕ) → (j < are_open.first) ⊎ (are_open.first + length ss ≤ j) → part j rest ≡ []
    outside j q = ⊎_elim
        (λ (lt : j < are_open.first). old_done j (are_open.older j lt))
        (λ (ge : are_open.first + length ss ≤ j). let made = are_open.made in let last = end.are_open.made in not_gathered j (end.are_open.newer j (omega arith)))
        q

    pub then_in_order : SameOfEach (copies_of (d.taken ++ rest)) (copies_gathered (joined d.made ss d.gathered))
    then_in_order s =
        let j : ℕ = (one s).number in
        let before : from s (copies_of d.taken) ≡ from s (copies_gathered d.gathered) =
        ap (λ l. from s (copies_of l)) (sym (append-nil d.taken)) ∙ orderly.in_order [] (subst (λ (l : List Item). Whole d.gathered l) (sym (append-nil d.taken)) whole, λ i no. ap (part i) (append-nil d.taken)) s in
        let now : from s (copies_of rest) ≡ from s (flat_map copies_by ss) =
        of_one_sender s j rest (only_in s) ∙ sym (all_of s j rest are_open.first ss are_open.numbered new_parts (one s).each (λ q. ap (λ l. from s (copies_in l)) (outside j q))) in
        ap (from s) (copies-append d.taken rest) ∙ (from-append s (copies_of d.taken) (copies_of rest)
        ∙ ((λ i. before i ++ now i) ∙ (sym (from-append s (copies_gathered d.gathered) (flat_map copies_by ss)) ∙ ap (from s) (sym (joined_copies d.made ss d.gathered)))))

  pub orderly_then : IsOrderly (with_joined ss d)
  orderly_then = record {
    in_order = then_in_order;
    begun = end.begun;
    unseen = end.unseen;
    apart = end.apart;
    later = λ u lt no. let yes = all_gathered u lt in absurd cc;
    numbers = end.numbers;
  }

-- ---- no mark is left
packets_drop : (n : ℕ) (l : List Carried) → Packets l → Packets (drop n l)
packets_drop zero l h = h
packets_drop (suc n) [] h = tt
packets_drop (suc n) (w ∷ ws) h = packets_drop n ws h.1

none_untaken : (taken : List Item) (g : Gathered) → part g.number taken ≡ g.pushed → Packets (untaken_of taken g)
none_untaken taken g whole =
    let mine : List Carried = part g.number taken in
    let P : List Carried → Type 0 = Packets in
    let none : untaken_of taken g ≡ [] = ap (drop (length mine)) (sym whole ∙ sym (append-nil mine)) ∙ drop-append_seam mine [] in
    subst P (sym none) tt

-- all items that were gathered before are taken, and the items that are gathered now are packets
pub packets_then : (ss : List SenderView) (d : TakerState) → Whole d.gathered d.taken → Each (λ (s : SenderView). Packets s.state.pushed) ss → PacketsLeft (with_joined ss d)
packets_then ss d whole new = each_joined (λ g. Packets (untaken_of d.taken g)) d.made ss d.gathered
    (each_map (λ (g : Gathered). part g.number d.taken ≡ g.pushed) (λ (g : Gathered). Packets (untaken_of d.taken g)) d.gathered (none_untaken d.taken) whole)
    (each_map (λ (s : SenderView). Packets s.state.pushed) (λ (s : SenderView). Packets (untaken_of d.taken (as_gathered d.made s))) ss
    (λ s h. packets_drop (length (part s.state.number d.taken)) s.state.pushed h) new)

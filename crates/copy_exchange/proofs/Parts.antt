-- The copies of one mote among the items of several senders.
use Rattle.std.proofs.Common.{[], ◌≡◌, ◌≢◌, ℕ, Bool, true, false, cond, eqb, Option, Some, None, List, ◌∷◌, ◌++◌, filter, refl, sym, ap, ◌∙◌, ⊎_elim, subst}
use Rattle.std.proofs.lemmas.Bool.Decides.{eqb_tells}
use Rattle.std.proofs.lemmas.List.Elements.{filter-append, filter_map-append}
use Rattle.std.specs.List.{cons_option, AllByRecursion as Each}
use Rattle.copy_exchange.specs.Takers.{copies_in}
use Rattle.copy_inbox.proofs.Parts.{part-here, part-else}
use Rattle.copy_inbox.specs.Items.{copies_of, carried_copy, part}
use Rattle.copy_inbox.specs.declared.items.Carried.{Carried}
use Rattle.copy_inbox.specs.declared.items.Item.{Item}
use Rattle.radio_packet.specs.declared.copy.RadioCopy.{RadioCopy}
use Rattle.window_laws.specs.Windows.{is_from_sender}

-- the copies of mote s
abbrev pub from : ℕ → List RadioCopy → List RadioCopy
from s copies = filter (is_from_sender s) copies

pub from-append : (s : ℕ) (xs ys : List RadioCopy) → from s (xs ++ ys) ≡ from s xs ++ from s ys
from-append s xs ys = filter-append (is_from_sender s) xs ys

pub copies-append : (xs ys : List Item) → copies_of (xs ++ ys) ≡ copies_of xs ++ copies_of ys
copies-append xs ys = filter_map-append (λ (x : Item). carried_copy x.what) xs ys

pub copies_in-append : (xs ys : List Carried) → copies_in (xs ++ ys) ≡ copies_in xs ++ copies_in ys
copies_in-append xs ys = filter_map-append carried_copy xs ys

-- neither the first copy nor the rest is from mote s
from_tail : (s : ℕ) (x : RadioCopy) (xs : List RadioCopy) → from s (x ∷ xs) ≡ [] → (is_from_sender s x ≡ false) × (from s xs ≡ [])
from_tail s x xs e = cases (is_from_sender s x) refl
  where
    cases : (b : Bool) → is_from_sender s x ≡ b → (is_from_sender s x ≡ false) × (from s xs ≡ [])
    cases true t = absurd (let h : x ∷ from s xs ≡ [] = ap (λ (c : Bool). cond c (x ∷ from s xs) (from s xs)) (sym t) ∙ e in cc)
    cases false f = (f, ap (λ (c : Bool). cond c (x ∷ from s xs) (from s xs)) (sym f) ∙ e)

-- the same for a first item that is a copy, or that is a mark and so has no copy
option_tail : (s : ℕ) (o : Option RadioCopy) (xs : List RadioCopy) → from s (cons_option o xs) ≡ [] → from s xs ≡ []
option_tail s None xs e = e
option_tail s (Some x) xs e = (from_tail s x xs e).1

option_more : (s : ℕ) (o : Option RadioCopy) (xs ys : List RadioCopy) → from s xs ≡ from s ys → from s (cons_option o xs) ≡ from s (cons_option o ys)
option_more s None xs ys e = e
option_more s (Some x) xs ys e = ap (λ l. cond (is_from_sender s x) (x ∷ l) l) e

option_none : (s : ℕ) (o : Option RadioCopy) (xs ys : List RadioCopy) → from s (cons_option o xs) ≡ [] → from s (cons_option o ys) ≡ from s ys
option_none s None xs ys e = refl
option_none s (Some x) xs ys e = ap (λ (b : Bool). cond b (x ∷ from s ys) (from s ys)) (from_tail s x xs e).0

-- only the items of sender j have copies of mote s
abbrev pub OnlyIn : (s j : ℕ) → List Item → Type 0
OnlyIn s j items = (i : ℕ) → i ≢ j → from s (copies_in (part i items)) ≡ []

only_in_tail : (s j : ℕ) (x : Item) (xs : List Item) → OnlyIn s j (x ∷ xs) → OnlyIn s j xs
only_in_tail s j x xs h i n = ⊎_elim
    (λ (t : (eqb x.sender i ≡ true) × (x.sender ≡ i)). option_tail s (carried_copy x.what) (copies_in (part i xs)) (ap (λ l. from s (copies_in l)) (sym (part-here i x xs t.1)) ∙ h i n))
    (λ (t : (eqb x.sender i ≡ false) × (x.sender ≢ i)). ap (λ l. from s (copies_in l)) (sym (part-else i x xs t.1)) ∙ h i n)
    (eqb_tells x.sender i)

pub of_one_sender : (s j : ℕ) (items : List Item) → OnlyIn s j items → from s (copies_of items) ≡ from s (copies_in (part j items))
of_one_sender s j [] h = refl
of_one_sender s j (x ∷ xs) h =
    let p : Option RadioCopy = carried_copy x.what in
    let r = of_one_sender s j xs (only_in_tail s j x xs h) in
    ⊎_elim
    (λ (t : (eqb x.sender j ≡ true) × (x.sender ≡ j)).
    option_more s p (copies_of xs) (copies_in (part j xs)) r ∙ ap (λ l. from s (copies_in l)) (sym (part-here j x xs t.1)))
    (λ (t : (eqb x.sender j ≡ false) × (x.sender ≢ j)).
    let none : from s (cons_option p (copies_in (part x.sender xs))) ≡ [] = (ap (λ l. from s (copies_in l)) (sym (part-here x.sender x xs refl)) ∙ h x.sender t.1) in
    option_none s p (copies_in (part x.sender xs)) (copies_of xs) none ∙ (r ∙ ap (λ l. from s (copies_in l)) (sym (part-else j x xs t.1))))
    (eqb_tells x.sender j)

-- ---- a property of each copy
module _ (P : RadioCopy → Type 0) where
  first_each : (o : Option RadioCopy) (xs ys : List RadioCopy) → Each P (cons_option o xs) → Each P ys → Each P (cons_option o ys)
  first_each None xs ys h k = k
  first_each (Some c) xs ys h k = (h.0, k)

  tail_each : (o : Option RadioCopy) (xs : List RadioCopy) → Each P (cons_option o xs) → Each P xs
  tail_each None xs h = h
  tail_each (Some c) xs h = h.1

  -- each sender's copies have it, so all have it
  pub each_part : (items : List Item) → ((s : ℕ) → Each P (copies_in (part s items))) → Each P (copies_of items)
  each_part [] h = tt
  each_part (x ∷ xs) h =
      let Q : List Carried → Type 0 = λ l. Each P (copies_in l) in
      first_each (carried_copy x.what) (copies_in (part x.sender xs)) (copies_of xs) (subst Q (part-here x.sender x xs refl) (h x.sender))
      (each_part xs (λ s. ⊎_elim
      (λ (t : (eqb x.sender s ≡ true) × (x.sender ≡ s)). tail_each (carried_copy x.what) (copies_in (part s xs)) (subst Q (part-here s x xs t.1) (h s)))
      (λ (t : (eqb x.sender s ≡ false) × (x.sender ≢ s)). subst Q (part-else s x xs t.1) (h s))
      (eqb_tells x.sender s)))

-- ---- if a prefix is the whole list, nothing follows it
pub nothing_more : (xs ys : List Carried) → xs ++ ys ≡ xs → ys ≡ []
nothing_more [] ys e = e
nothing_more (x ∷ xs) ys e = nothing_more xs ys (let t : xs ++ ys ≡ xs = cc in t)

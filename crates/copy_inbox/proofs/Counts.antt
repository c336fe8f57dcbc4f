-- The number of known items is the number of items in the queue from gathered senders.
use Rattle.std.proofs.Common.{◌≡◌, ◌≢◌, ℕ, ◌+◌, ◌≤◌, ◌<◌, Bool, true, false, cond, eqb, Option, List, [], ◌∷◌, ◌++◌, length, drop, refl, sym, ap, ◌∙◌, ⊎_elim, arith, sum_by, append-nil, subst}
use Rattle.std.proofs.Math.Seq.{drop-append_seam}
use Rattle.std.proofs.lemmas.Bool.Decides.{eqb_tells}
use Rattle.std.proofs.lemmas.List.Sums.{sum_by-cons}
use Rattle.std.specs.List.{AllByRecursion as Each}
use Rattle.copy_inbox.specs.Gathered.{is_gathered, Apart, untaken_of, known_of, Later, TookFronts, Whole}
use Rattle.copy_inbox.specs.Items.{part, Packets, OfMade}
use Rattle.copy_inbox.specs.Rule.{Behind, Sound}
use Rattle.copy_inbox.specs.declared.items.Carried.{Carried}
use Rattle.copy_inbox.specs.declared.items.Item.{Item}
use Rattle.copy_inbox.specs.declared.rule.Gathered.{Gathered}
use Rattle.copy_inbox.specs.declared.rule.TakerState.{TakerState}
use Rattle.copy_inbox.proofs.Parts.{part-append, part-here, part-else, part-nil_left}
use Rattle.copy_inbox.proofs.Moves.{each_map}

each_zip : {P Q R : Gathered → Type 0} (gs : List Gathered) → ((g : Gathered) → P g → Q g → R g) → Each P gs → Each Q gs → Each R gs
each_zip [] f h k = tt
each_zip (g ∷ gs) f h k = (f g h.0 k.0, each_zip gs f h.1 k.1)

-- the number of items from gathered senders
abbrev pub tally : List Gathered → List Item → ℕ
tally gs items = sum_by (λ (g : Gathered). length (part g.number items)) gs

known-cons : (g : Gathered) (gs : List Gathered) (taken : List Item) → known_of (g ∷ gs) taken ≡ length (untaken_of taken g) + known_of gs taken
known-cons g gs taken = sum_by-cons (λ (k : Gathered). length (untaken_of taken k)) g gs

tally-cons : (g : Gathered) (gs : List Gathered) (items : List Item) → tally (g ∷ gs) items ≡ length (part g.number items) + tally gs items
tally-cons g gs items = sum_by-cons (λ (k : Gathered). length (part k.number items)) g gs

-- ---- the rule for each gathered sender
abbrev pub Adds : List Item → List Item → Gathered → Type 0
Adds taken items g = part g.number (taken ++ items) ≡ g.pushed

pub adds_of : (d : TakerState) (pass_of : ℕ → Option ℕ) (pushed : ℕ → List Carried) (items : List Item) → Sound d pass_of pushed items → Each (Adds d.taken items) d.gathered
adds_of d pass_of pushed items s = each_map d.gathered (λ g j. s.parts g.number ∙ j.all) s.joined

pub left_is : (g : Gathered) (taken items : List Item) → Adds taken items g → untaken_of taken g ≡ part g.number items
left_is g taken items h = ap (drop (length (part g.number taken))) (sym h ∙ part-append g.number taken items) ∙ drop-append_seam (part g.number taken) (part g.number items)

pub known-is : (gs : List Gathered) (taken items : List Item) → Each (Adds taken items) gs → known_of gs taken ≡ tally gs items
known-is [] taken items h = refl
known-is (g ∷ gs) taken items h = let e = ap length (left_is g taken items h.0) in let r = known-is gs taken items h.1 in
    omega (arith, e, r, known-cons g gs taken, tally-cons g gs items)

pub begun_of : (gs : List Gathered) (taken items : List Item) → Each (Adds taken items) gs → TookFronts gs taken
begun_of gs taken items h = each_map gs (λ g k. (part g.number items, sym k ∙ part-append g.number taken items)) h

pub made_of : (d : TakerState) (pass_of : ℕ → Option ℕ) (pushed : ℕ → List Carried) (items : List Item) → Sound d pass_of pushed items → OfMade d.made d.taken
made_of d pass_of pushed items s u le = part-nil_left u d.taken items (s.parts u ∙ (s.unmade u le).0)

-- ---- one more item at the head
pub front_counts : (gs : List Gathered) (x : Item) (items : List Item) → Apart gs → tally gs (x ∷ items) ≡ cond (is_gathered gs x.sender) 1 0 + tally gs items
front_counts [] x items apart = refl
front_counts (g ∷ gs) x items apart =
    let a = tally-cons g gs (x ∷ items) in
    let b = tally-cons g gs items in
    let r = front_counts gs x items apart.1 in
    ⊎_elim
    (λ (t : (eqb g.number x.sender ≡ true) × (g.number ≡ x.sender)).
    let here = ap length (part-here g.number x items (sym t.1)) in
    let no : is_gathered gs x.sender ≡ false = ap (is_gathered gs) (sym t.1) ∙ apart.0 in
    let r' : tally gs (x ∷ items) ≡ 0 + tally gs items = rw no at r in
    rw t.0 (omega (arith, a, b, r', here)))
    (λ (t : (eqb g.number x.sender ≡ false) × (g.number ≢ x.sender)).
    let here = ap length (part-else g.number x items (λ e. t.1 (sym e))) in
    rw t.0 (omega (arith, a, b, r, here)))
    (eqb_tells g.number x.sender)

tally-none : (gs : List Gathered) (items : List Item) → Each (λ (g : Gathered). part g.number items ≡ []) gs → tally gs items ≡ 0
tally-none [] items h = refl
tally-none (g ∷ gs) items h = let e = ap length h.0 in omega (arith, tally-cons g gs items, e, tally-none gs items h.1)

each_refl : {P : Gathered → Type 0} (gs : List Gathered) → ((g : Gathered) → P g) → Each P gs
each_refl [] f = tt
each_refl (g ∷ gs) f = (f g, each_refl gs f)

pub tally-nil : (gs : List Gathered) → tally gs [] ≡ 0
tally-nil gs = tally-none gs [] (each_refl gs (λ g. refl))

cond-le : (b : Bool) → cond b 1 0 ≤ 1
cond-le true = omega arith
cond-le false = omega arith

pub tally-le : (gs : List Gathered) (items : List Item) → Apart gs → tally gs items ≤ length items
tally-le gs [] apart = omega (arith, tally-nil gs)
tally-le gs (x ∷ xs) apart = omega (arith, front_counts gs x xs apart, tally-le gs xs apart, cond-le (is_gathered gs x.sender))

-- ---- the head of the queue, while an item is known
-- an item of a sender that isn't gathered is after all known items
pub front_known : (made : ℕ) (gs : List Gathered) (x : Item) (items : List Item) → Each (λ (g : Gathered). Behind g.number g.made (x ∷ items)) gs
    → Later made gs → x.sender < made → 0 < tally gs (x ∷ items) → is_gathered gs x.sender ≡ true
front_known made gs x items behind later lt some = cases (is_gathered gs x.sender) refl
  where
    cases : (b : Bool) → is_gathered gs x.sender ≡ b → b ≡ true
    cases true e = refl
    cases false e = absurd (let z = tally-none gs (x ∷ items) (each_zip gs (λ g b m. b.0 m) behind (later x.sender lt e)) in omega arith)

-- ---- nothing is known
nil_of_length : (l : List Carried) → length l ≡ 0 → l ≡ []
nil_of_length [] e = refl
nil_of_length (x ∷ xs) e = absurd (omega arith)

pub whole_of : (gs : List Gathered) (taken : List Item) → known_of gs taken ≡ 0 → TookFronts gs taken → Whole gs taken
whole_of [] taken none b = tt
whole_of (g ∷ gs) taken none b =
    let k = known-cons g gs taken in
    let rest : List Carried = b.0.0 in
    let e : untaken_of taken g ≡ rest = ap (drop (length (part g.number taken))) b.0.1 ∙ drop-append_seam (part g.number taken) rest in
    let l = ap length e in
    let z : rest ≡ [] = nil_of_length rest (omega arith) in
    (sym (b.0.1 ∙ (ap (λ r. part g.number taken ++ r) z ∙ append-nil (part g.number taken))), whole_of gs taken (omega arith) b.1)

-- no items remain, so all remaining items are packets
pub none_left : (gs : List Gathered) (taken : List Item) → known_of gs taken ≡ 0 → Each (λ (g : Gathered). Packets (untaken_of taken g)) gs
none_left [] taken none = tt
none_left (g ∷ gs) taken none =
    let k = known-cons g gs taken in
    let P : List Carried → Type 0 = Packets in
    (subst P (sym (nil_of_length (untaken_of taken g) (omega arith))) tt, none_left gs taken (omega arith))

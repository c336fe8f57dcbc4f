-- One more item is counted.
use Rattle.std.proofs.Common.{[], ◌≡◌, ◌≢◌, ℕ, ◌+◌, ◌<◌, ◌≤◌, ◌^◌, true, false, eqb, List, ◌∷◌, ◌++◌, length, set, get_or, refl, sym, ap, ◌∙◌, subst, ⊎_elim, arith, length-set, append-nil, append_assoc, filter}
use Rattle.std.proofs.lemmas.Bool.Decides.{eqb_tells}
use Rattle.std.proofs.lemmas.List.{get_or-set_same, get_or-set_other}
use Rattle.std.proofs.lemmas.List.Elements.{filter-append}
use Rattle.copy_exchange.specs.Expected.{Position, expected_in, is_expected, TakesExpected}
use Rattle.copy_exchange.specs.Marks.{marks_of, AreTakersCounts}
use Rattle.copy_exchange.specs.Pushes.{marks_in}
use Rattle.copy_inbox.proofs.Parts.{part-append, part-here, part-else}
use Rattle.copy_inbox.specs.Handles.{TakerView, after_taking, MayBeTaken, state_with}
use Rattle.copy_inbox.specs.Items.{copies_of, part}
use Rattle.copy_inbox.specs.declared.items.Carried.{Carried}
use Rattle.copy_inbox.specs.declared.items.Carried.TheVariants.{Packet, Mark}
use Rattle.copy_inbox.specs.declared.items.Item.{Item}
use Rattle.copy_inbox.specs.declared.rule.TakerState.{TakerState}
use Rattle.radio_packet.specs.declared.copy.RadioCopy.{RadioCopy}
use Rattle.copy_exchange.proofs.Lists.{each_join}
use Rattle.copy_exchange.proofs.Parts.{copies-append}
use Rattle.copy_exchange.proofs.Whole.{marks_append}

-- ---- marks of the items taken, with one more item
marks_here : (s : ℕ) (taken : List Item) (x : Item) → x.sender ≡ s → marks_of s (taken ++ x ∷ []) ≡ marks_of s taken + marks_in (x.what ∷ [])
marks_here s taken x e = ap marks_in (part-append s taken (x ∷ []) ∙ ap (λ l. part s taken ++ l) (part-here s x [] e)) ∙ marks_append (part s taken) (x.what ∷ [])

marks_else : (s : ℕ) (taken : List Item) (x : Item) → x.sender ≢ s → marks_of s (taken ++ x ∷ []) ≡ marks_of s taken
marks_else s taken x e = ap marks_in (part-append s taken (x ∷ []) ∙ (ap (λ l. part s taken ++ l) (part-else s x [] e) ∙ append-nil (part s taken)))

few_marks : (ws : List Carried) → marks_in ws ≤ length ws
few_marks [] = omega arith
few_marks (Packet c ∷ ws) = let h = few_marks ws in omega arith
few_marks (Mark n ∷ ws) = let h = few_marks ws in omega arith

-- the count doesn't overflow
pub count_fits : (marks : List ℕ) (d : TakerState) (x : Item) (n m : ℕ) → AreTakersCounts marks d → MayBeTaken d x → x.what ≡ Mark n → m ≡ get_or marks x.sender m → m + 1 ≤ 2 ^ 62
count_fits marks d x n m c next is at =
    let e = at ∙ c.each x.sender m next.number in
    let here = marks_here x.sender d.taken x refl ∙ ap (λ w. marks_of x.sender d.taken + marks_in (w ∷ [])) is in
    let low = few_marks (part x.sender (d.taken ++ x ∷ [])) in
    let few = next.few in
    omega arith

pub counts_packet : (marks : List ℕ) (d : TakerState) (x : Item) (copy : RadioCopy) → AreTakersCounts marks d → MayBeTaken d x → x.what ≡ Packet copy → AreTakersCounts marks (state_with d x)
counts_packet marks d x copy c next is = record {
  all = c.all;
  each = λ s none lt. c.each s none lt ∙ ⊎_elim
      (λ (q : (eqb x.sender s ≡ true) × (x.sender ≡ s)).
      let here = marks_here s d.taken x q.1 ∙ ap (λ w. marks_of s d.taken + marks_in (w ∷ [])) is in omega arith)
      (λ (q : (eqb x.sender s ≡ false) × (x.sender ≢ s)). sym (marks_else s d.taken x q.1))
      (eqb_tells x.sender s);
}

pub counts_mark : (marks : List ℕ) (d : TakerState) (x : Item) (n m : ℕ) → AreTakersCounts marks d → MayBeTaken d x → x.what ≡ Mark n → m ≡ get_or marks x.sender m → AreTakersCounts (set marks x.sender (m + 1)) (state_with d x)
counts_mark marks d x n m c next is at =
    let all = c.all in
    let number = next.number in
    record {
      all = length-set marks x.sender (m + 1) ∙ c.all;
      each = λ s none lt. ⊎_elim
          (λ (q : (eqb x.sender s ≡ true) × (x.sender ≡ s)).
          let got : get_or (set marks x.sender (m + 1)) s none ≡ m + 1 = ap (λ i. get_or (set marks x.sender (m + 1)) i none) (sym q.1) ∙ get_or-set_same marks x.sender (m + 1) none (omega arith) in
          let was : m ≡ marks_of s d.taken = at ∙ (c.each x.sender m number ∙ ap (λ i. marks_of i d.taken) q.1) in
          let here = marks_here s d.taken x q.1 ∙ ap (λ w. marks_of s d.taken + marks_in (w ∷ [])) is in
          omega arith)
          (λ (q : (eqb x.sender s ≡ false) × (x.sender ≢ s)).
          get_or-set_other marks x.sender s (m + 1) none (λ e. q.1 (sym e)) ∙ (c.each s none lt ∙ sym (marks_else s d.taken x q.1)))
          (eqb_tells x.sender s);
    }

-- ---- the items taken so far, with one more item
module _ (p : Position) where
  pub expected-append : (xs ys : List Item) → expected_in p (xs ++ ys) ≡ expected_in p xs ++ expected_in p ys
  expected-append xs ys = ap (filter (is_expected p)) (copies-append xs ys) ∙ filter-append (is_expected p) (copies_of xs) (copies_of ys)

  pub takes_none : (t : TakerView) → TakesExpected p t t []
  takes_none t = record {
    items = [];
    made = tt;
    taker = λ i. record { inbox = t.inbox; state = record { marked = t.state.marked; made = t.state.made; taken = sym (append-nil t.state.taken) i; gathered = t.state.gathered } };
    arrived = refl;
  }

  pub takes_more : (old mid new : TakerView) (x : Item) (copies more : List RadioCopy) → TakesExpected p old mid copies → x.sender < mid.state.made → new ≡ after_taking mid (x ∷ []) → more ≡ copies ++ expected_in p (x ∷ [])
      → TakesExpected p old new more
  takes_more old mid new x copies more h lt e adds =
      let same : mid.state.made ≡ old.state.made = ap (λ (t : TakerView). t.state.made) h.taker in
      let Q : ℕ → Type 0 = λ made. x.sender < made in
      record {
        items = h.items ++ x ∷ [];
        made = each_join (λ (y : Item). y.sender < old.state.made) h.items (x ∷ []) h.made (subst Q same lt, tt);
        taker = e ∙ (ap (λ t. after_taking t (x ∷ [])) h.taker
            ∙ (λ i. record { inbox = old.inbox; state = record { marked = old.state.marked; made = old.state.made; taken = append_assoc old.state.taken h.items (x ∷ []) i; gathered = old.state.gathered } }));
        arrived = adds ∙ (ap (λ l. l ++ expected_in p (x ∷ [])) h.arrived ∙ sym (expected-append h.items (x ∷ [])));
      }

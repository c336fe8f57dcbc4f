-- A drain, item by item.
use Rattle.std.proofs.Common.{◌≡◌, ◌≢◌, ℕ, ◌+◌, ◌≤◌, Bool, true, false, cond, List, [], ◌∷◌, ◌++◌, length, map, sym, ap, ◌∙◌, subst, arith, length-append, append_assoc}
use Rattle.std.proofs.lemmas.Bool.{true≢false}
use Rattle.std.proofs.lemmas.List.{map-append}
use Rattle.copy_inbox.specs.Gathered.{known_of, is_gathered, Later, NoOthers}
use Rattle.copy_inbox.specs.Handles.{TakerView, after_taking, TakesPackets, MayBeTaken}
use Rattle.copy_inbox.specs.Items.{what_of, ArePackets, part}
use Rattle.copy_inbox.specs.declared.items.Carried.TheVariants.{Packet}
use Rattle.copy_inbox.specs.declared.items.Item.{Item}
use Rattle.radio_packet.specs.declared.copy.RadioCopy.{RadioCopy}
use Rattle.copy_inbox.proofs.Parts.{part-snoc_else}

abbrev pub known_to : TakerView → ℕ
known_to t = known_of t.state.gathered t.state.taken

-- n packets were taken, and these are their copies
pub record Drained (old new : TakerView) (copies : List RadioCopy) (n : ℕ) : Type 0 where
  pub items : List Item
  pub given : ArePackets items copies
  pub long : length items ≡ n
  pub now : new ≡ after_taking old items
  pub packets : TakesPackets new.state
  pub known : known_to old ≤ known_to new + n
  pub later : Later old.state.made old.state.gathered → n ≤ known_to old → known_to old ≡ known_to new + n
  pub others : Later old.state.made old.state.gathered → n ≤ known_to old → NoOthers old.state.gathered old.state.taken new.state.taken

cond_le : (b : Bool) → cond b 1 0 ≤ 1
cond_le true = omega arith
cond_le false = omega arith

-- one more packet is taken, and its copy appended
pub drain_goes : (old t u : TakerView) (copies longer : List RadioCopy) (k : ℕ) (x : Item) (copy : RadioCopy) → Drained old t copies k
    → u ≡ after_taking t (x ∷ []) → MayBeTaken t.state x → x.what ≡ Packet copy → longer ≡ copies ++ copy ∷ [] → Drained old u longer (k + 1)
drain_goes old t u copies longer k x copy d e next of added =
    let is : u ≡ after_taking old (d.items ++ x ∷ []) = e ∙ (ap (λ y. after_taking y (x ∷ [])) d.now ∙ (λ i. record { inbox = old.inbox; state = record { marked = old.state.marked; made = old.state.made; taken = append_assoc old.state.taken d.items (x ∷ []) i; gathered = old.state.gathered } })) in
    let b : Bool = is_gathered t.state.gathered x.sender in
    let down : known_to t ≡ cond b 1 0 + known_to u = next.known ∙ ap (λ y. cond b 1 0 + known_to y) (sym e) in
    let small = cond_le b in
    let known = d.known in
    let long = d.long in
    let state : t.state.made ≡ old.state.made = ap (λ y. y.state.made) d.now in
    record {
      items = d.items ++ x ∷ [];
      given = map-append what_of d.items (x ∷ []) ∙ ((λ i. d.given i ++ of i ∷ []) ∙ (sym (map-append Packet copies (copy ∷ [])) ∙ ap (map Packet) (sym added)));
      long = omega (arith, length-append d.items (x ∷ []));
      now = is;
      packets = subst (λ (y : TakerView). TakesPackets y.state) (sym e) (next.packet d.packets).1;
      known = omega arith;
      later = λ later room.
          let before = d.later later (omega arith) in
          let later' : Later t.state.made t.state.gathered = subst (λ (y : TakerView). Later y.state.made y.state.gathered) (sym d.now) later in
          let all : b ≡ true = next.first later' (omega arith) in
          let one : known_to t ≡ 1 + known_to u = down ∙ ap (λ z. cond z 1 0 + known_to u) all in
          omega arith;
      others = λ later room s unseen.
          let before = d.later later (omega arith) in
          let later' : Later t.state.made t.state.gathered = subst (λ (y : TakerView). Later y.state.made y.state.gathered) (sym d.now) later in
          let all : b ≡ true = next.first later' (omega arith) in
          let unseen' : is_gathered t.state.gathered s ≡ false = ap (λ y. is_gathered y.state.gathered s) d.now ∙ unseen in
          let apart : x.sender ≢ s = λ same. true≢false (sym all ∙ (ap (is_gathered t.state.gathered) same ∙ unseen')) in
          ap (λ y. part s y.state.taken) e ∙ (part-snoc_else s [] t.state.taken x apart ∙ d.others later (omega arith) s unseen);
    }

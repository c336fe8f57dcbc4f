-- The number of copies that were gathered.
use Rattle.std.proofs.Common.{[], ◌≡◌, ◌≢◌, ℕ, ◌+◌, Bool, true, false, cond, eqb, List, ◌∷◌, length, filter, drop, refl, ap, ◌∙◌, subst, ⊎_elim, arith, length-append}
use Rattle.std.proofs.Math.Seq.{drop-append_seam}
use Rattle.std.proofs.lemmas.Bool.{true_from_ne_false}
use Rattle.std.proofs.lemmas.Bool.Decides.{eqb_tells}
use Rattle.std.specs.List.{AllByRecursion as Each, cons_option}
use Rattle.copy_exchange.specs.Takers.{copies_gathered, copies_in, IsOrderly}
use Rattle.copy_inbox.proofs.Parts.{part-here, part-else, part-not_nil, part-nil_right}
use Rattle.copy_inbox.specs.Gathered.{is_gathered, Apart, TookFronts, known_of, untaken_of}
use Rattle.copy_inbox.specs.Handles.{PacketsLeft}
use Rattle.copy_inbox.specs.Items.{copies_of, carried_copy, carries_packet, Packets, part}
use Rattle.copy_inbox.specs.declared.items.Carried.{Carried}
use Rattle.copy_inbox.specs.declared.items.Carried.TheVariants.{Packet, Mark}
use Rattle.copy_inbox.specs.declared.items.Item.{Item}
use Rattle.copy_inbox.specs.declared.rule.Gathered.{Gathered}
use Rattle.copy_inbox.specs.declared.rule.TakerState.{TakerState}
use Rattle.radio_packet.specs.declared.copy.RadioCopy.{RadioCopy}
use Rattle.std.proofs.lemmas.List.Sums.{sum_by-cons}
use Rattle.copy_inbox.proofs.Counts.{tally, front_counts, tally-nil}
use Rattle.copy_exchange.proofs.Lists.{either}
use Rattle.copy_exchange.proofs.Parts.{copies_in-append}

-- ---- the packets among items
abbrev packets_in : List Item → List Item
packets_in items = filter (λ (x : Item). carries_packet x.what) items

one_more : (w : Carried) (l : List RadioCopy) → length (cons_option (carried_copy w) l) ≡ cond (carries_packet w) 1 0 + length l
one_more (Packet copy) l = omega arith
one_more (Mark window) l = omega arith

all_packets : (ws : List Carried) → Packets ws → length (copies_in ws) ≡ length ws
all_packets [] h = refl
all_packets (w ∷ ws) h =
    let rest = all_packets ws h.1 in
    let one = one_more w (copies_in ws) ∙ ap (λ (b : Bool). cond b 1 0 + length (copies_in ws)) h.0 in
    omega arith

copies_count : (items : List Item) → length (copies_of items) ≡ length (packets_in items)
copies_count [] = refl
copies_count (x ∷ xs) =
    let rest = copies_count xs in
    let one = one_more x.what (copies_of xs) in
    either (carries_packet x.what)
    (λ yes. rw yes (let one' = one ∙ ap (λ (b : Bool). cond b 1 0 + length (copies_of xs)) yes in omega arith))
    (λ no. rw no (let one' = one ∙ ap (λ (b : Bool). cond b 1 0 + length (copies_of xs)) no in omega arith))

module _ (s : ℕ) where
  -- the packets from one sender
  abbrev kept : List Item → ℕ
  kept items = length (part s (packets_in items))

  kept_more : (x : Item) (xs : List Item) (b : Bool) → carries_packet x.what ≡ b → kept (x ∷ xs) ≡ length (part s (cond b (x ∷ packets_in xs) (packets_in xs)))
  kept_more x xs b e = ap (λ c. length (part s (cond c (x ∷ packets_in xs) (packets_in xs)))) e

  part_count : (items : List Item) → kept items ≡ length (copies_in (part s items))
  part_count [] = refl
  part_count (x ∷ xs) =
      let rest = part_count xs in
      let one = one_more x.what (copies_in (part s xs)) in
      ⊎_elim
      (λ (t : (eqb x.sender s ≡ true) × (x.sender ≡ s)).
      let all = ap (λ l. length (copies_in l)) (part-here s x xs t.1) in
      either (carries_packet x.what)
      (λ yes. let more = kept_more x xs true yes in let here = ap length (part-here s x (packets_in xs) t.1) in let one' = one ∙ ap (λ (b : Bool). cond b 1 0 + length (copies_in (part s xs))) yes in omega arith)
      (λ no. let more = kept_more x xs false no in let one' = one ∙ ap (λ (b : Bool). cond b 1 0 + length (copies_in (part s xs))) no in omega arith))
      (λ (t : (eqb x.sender s ≡ false) × (x.sender ≢ s)).
      let all = ap (λ l. length (copies_in l)) (part-else s x xs t.1) in
      either (carries_packet x.what)
      (λ yes. let more = kept_more x xs true yes in let here = ap length (part-else s x (packets_in xs) t.1) in omega arith)
      (λ no. let more = kept_more x xs false no in omega arith))
      (eqb_tells x.sender s)

  nil_of : (l : List Carried) → length l ≡ 0 → l ≡ []
  nil_of [] e = refl
  nil_of (w ∷ ws) e = absurd (omega arith)

  none_kept : (items : List Item) → part s items ≡ [] → part s (packets_in items) ≡ []
  none_kept items e = nil_of (part s (packets_in items)) (part_count items ∙ ap (λ l. length (copies_in l)) e)

-- ---- the items gathered are those taken and those known
begun_length : (gs : List Gathered) (taken : List Item) → TookFronts gs taken → Each (λ (g : Gathered). Packets (untaken_of taken g)) gs
    → length (copies_gathered gs) ≡ tally gs (packets_in taken) + known_of gs taken
begun_length [] taken h p = refl
begun_length (g ∷ gs) taken h p =
    let rest : List Carried = h.0.0 in
    let mine : List Carried = part g.number taken in
    let left : untaken_of taken g ≡ rest = ap (drop (length mine)) h.0.1 ∙ drop-append_seam mine rest in
    let left_length = ap length left in
    let P : List Carried → Type 0 = Packets in
    let packets = all_packets rest (subst P left p.0) in
    let pushed : length (copies_in g.pushed) ≡ length (copies_in mine) + length (copies_in rest) = ap (λ l. length (copies_in l)) h.0.1 ∙ (ap length (copies_in-append mine rest) ∙ length-append (copies_in mine) (copies_in rest)) in
    let copies = length-append (copies_gathered gs) (copies_in g.pushed) in
    let taken_copies = part_count g.number taken in
    let r = begun_length gs taken h.1 p.1 in
    omega (arith, sum_by-cons (λ (k : Gathered). length (untaken_of taken k)) g gs, sum_by-cons (λ (k : Gathered). length (part k.number (packets_in taken))) g gs)

all_counted : (gs : List Gathered) (taken : List Item) → Apart gs → ((i : ℕ) → is_gathered gs i ≡ false → part i taken ≡ []) → tally gs taken ≡ length taken
all_counted gs [] apart none = tally-nil gs
all_counted gs (x ∷ xs) apart none =
    let yes : is_gathered gs x.sender ≡ true = true_from_ne_false (is_gathered gs x.sender) (λ no. part-not_nil x xs (none x.sender no)) in
    let r = all_counted gs xs apart (λ i no. part-nil_right i (x ∷ []) xs (none i no)) in
    let one : tally gs (x ∷ xs) ≡ 1 + tally gs xs = front_counts gs x xs apart ∙ ap (λ (b : Bool). cond b 1 0 + tally gs xs) yes in
    omega arith

pub gathered_length : (d : TakerState) → IsOrderly d → PacketsLeft d → length (copies_gathered d.gathered) ≡ length (copies_of d.taken) + known_of d.gathered d.taken
gathered_length d h packets =
    let a = begun_length d.gathered d.taken h.begun packets in
    let b = all_counted d.gathered (packets_in d.taken) h.apart (λ i no. none_kept i d.taken (h.unseen i no)) in
    let c = copies_count d.taken in
    omega arith

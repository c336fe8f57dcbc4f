-- The effect of each call on a taker.
use Rattle.std.proofs.Common.{◌≡◌, ◌≢◌, ℕ, ◌+◌, ◌-◌, ◌^◌, ◌≤◌, ◌<◌, Bool, true, false, cond, eqb, Option, List, [], ◌∷◌, ◌++◌, length, set, get_or, refl, sym, ap, ◌∙◌, subst, ⊎_elim, arith, eq-eqb, ne_eqb, length-append, append-nil, inl, inr}
use Rattle.std.proofs.Math.ListN.{length-set}
use Rattle.std.proofs.Math.Seq.{get_or-append_seam}
use Rattle.std.proofs.lemmas.Bool.Decides.{eqb_tells}
use Rattle.std.proofs.lemmas.List.{get_or_append_left, get_or-set_same, get_or-set_other, length-drop}
use Rattle.std.proofs.lemmas.List.Sums.{sum_by-cons}
use Rattle.std.specs.List.{AllByRecursion as Each}
use Rattle.copy_inbox.specs.Gathered.{is_gathered, untaken_of, known_of}
use Rattle.copy_inbox.specs.Handles.{taker_state_in, sender_state_in, IsTaker, IsSender, MayBeTaken, AllGathered, PacketsLeft, TakesPackets, state_with}
use Rattle.copy_inbox.specs.Items.{part, carries_packet, Packets, HasPrefix}
use Rattle.copy_inbox.specs.Rule.{Sound, SeenBy}
use Rattle.copy_inbox.specs.Views.{make_taker_state, make_gathered, with_one_more, with_gathered, with_taken}
use Rattle.copy_inbox.specs.declared.count.Count.{Count}
use Rattle.copy_inbox.specs.declared.items.Carried.{Carried}
use Rattle.copy_inbox.specs.declared.items.Item.{Item}
use Rattle.copy_inbox.specs.declared.rule.Gathered.{Gathered}
use Rattle.copy_inbox.specs.declared.rule.SenderState.{SenderState}
use Rattle.copy_inbox.specs.declared.rule.TakerState.{TakerState}
use Rattle.copy_inbox.specs.declared.rule.View.{View}
use Rattle.copy_inbox.specs.declared.rule.View.TheVariants.{Taking, Sending}
use mir.Val.{bool_byte}
use Rattle.copy_inbox.proofs.Parts.{part-append, part-here, part-else, part-moved, part-not_nil, part-nil_left, part-nil_right}
use Rattle.copy_inbox.proofs.Moves.{each_map, below, SoundWith, seen_sound}
use Rattle.copy_inbox.proofs.Counts.{left_is, Adds, adds_of, known-is, begun_of, front_counts, tally-nil, tally-le, front_known}

abbrev pub count : ℕ → Bool → Count
count n b = record { taken = n; gathered = b }

same_count : (a b : ℕ) (c d : Bool) → a ≡ b → c ≡ d → record { taken = a; gathered = c } ≡ count b d
same_count a b c d p q = λ i. record { taken = p i; gathered = q i }

-- ---- one more sender
not_yet : (gs : List Gathered) (m : ℕ) → Each (λ (g : Gathered). g.number < m) gs → is_gathered gs m ≡ false
not_yet [] m h = refl
not_yet (g ∷ gs) m h = let lt = h.0 in let n : g.number ≢ m = λ e. omega arith in rw (ne_eqb g.number m n) (not_yet gs m h.1)

more : (d : TakerState) (counts : List Count) (k : ℕ) → IsTaker (Taking d) counts k → IsTaker (Taking (make_taker_state d.marked (d.made + 1) d.taken d.gathered)) (counts ++ count 0 false ∷ []) k
more d counts k t =
    let m = t.made in
    record {
      is = refl;
      made = omega (arith, length-append counts (count 0 false ∷ []));
      counted = λ s c lt. ⊎_elim
          (λ (e : (eqb s d.made ≡ true) × (s ≡ d.made)).
          let at : s ≡ length counts = e.1 ∙ sym m in
          let here : get_or (counts ++ count 0 false ∷ []) s c ≡ count 0 false = ap (λ i. get_or (counts ++ count 0 false ∷ []) i c) at ∙ get_or-append_seam counts (count 0 false) [] c in
          here ∙ same_count 0 (length (part s d.taken)) false (is_gathered d.gathered s) (sym (ap length (t.of_made s (omega arith)))) (sym (ap (is_gathered d.gathered) e.1 ∙ not_yet d.gathered d.made t.numbers)))
          (λ (e : (eqb s d.made ≡ false) × (s ≢ d.made)). let n = e.1 in get_or_append_left counts (count 0 false ∷ []) c s (omega arith) ∙ t.counted s c (omega arith))
          (eqb_tells s d.made);
      known_is = t.known_is;
      begun = t.begun;
      of_made = λ u le. t.of_made u (omega arith);
      numbers = each_map d.gathered (λ g lt. omega arith) t.numbers;
    }

pub more_as : (v w : View) (counts : List Count) (k : ℕ) → w ≡ with_one_more v → IsTaker v counts k → IsTaker w (counts ++ record { taken = 0; gathered = false } ∷ []) k
more_as v w counts k e t = subst (λ (u : View). IsTaker u (counts ++ count 0 false ∷ []) k) (sym (e ∙ ap with_one_more t.is))
    (more (taker_state_in v) counts k (subst (λ (u : View). IsTaker u counts k) t.is t))

-- ---- an item taken
pub next_of : (d : TakerState) (x : Item) (rest : List Item) (pass_of : ℕ → Option ℕ) (pushed : ℕ → List Carried) → Sound d pass_of pushed (x ∷ rest) → x.sender < d.made
next_of d x rest pass_of pushed s = below d.made x.sender (λ le. part-not_nil x rest (part-nil_right x.sender d.taken (x ∷ rest) (s.parts x.sender ∙ (s.unmade x.sender le).0)))

moved : (gs : List Gathered) (taken rest : List Item) (x : Item) → Each (Adds taken (x ∷ rest)) gs → Each (Adds (taken ++ x ∷ []) rest) gs
moved gs taken rest x h = each_map gs (λ g k. part-moved g.number taken rest x ∙ k) h

counts_down : (d : TakerState) (x : Item) (rest : List Item) (pass_of : ℕ → Option ℕ) (pushed : ℕ → List Carried) → Sound d pass_of pushed (x ∷ rest)
    → known_of d.gathered d.taken ≡ cond (is_gathered d.gathered x.sender) 1 0 + known_of d.gathered (d.taken ++ x ∷ [])
counts_down d x rest pass_of pushed s =
    let h = adds_of d pass_of pushed (x ∷ rest) s in
    let a = known-is d.gathered d.taken (x ∷ rest) h in
    let b = known-is d.gathered (d.taken ++ x ∷ []) rest (moved d.gathered d.taken rest x h) in
    let f = front_counts d.gathered x rest s.apart in
    omega (arith, a, b, f)

each_right : (k l : List Carried) → Packets (k ++ l) → Packets l
each_right [] l h = h
each_right (v ∷ vs) l h = each_right vs l h.1

-- the head of the queue is a packet, if its sender is gathered and the remaining items of each gathered sender are
-- packets
packets_next : (gs : List Gathered) (taken : List Item) (x : Item) (rest : List Item) → Each (Adds taken (x ∷ rest)) gs
    → Each (λ (g : Gathered). Packets (untaken_of taken g)) gs → is_gathered gs x.sender ≡ true → carries_packet x.what ≡ true
packets_next [] taken x rest h p is = absurd cc
packets_next (g ∷ gs) taken x rest h p is = ⊎_elim
    (λ (t : (eqb g.number x.sender ≡ true) × (g.number ≡ x.sender)).
    let P : List Carried → Type 0 = Packets in
    (subst P (left_is g taken (x ∷ rest) h.0 ∙ part-here g.number x rest (sym t.1)) p.0).0)
    (λ (t : (eqb g.number x.sender ≡ false) × (g.number ≢ x.sender)).
    let same : is_gathered (g ∷ gs) x.sender ≡ is_gathered gs x.sender = rw t.0 refl in
    packets_next gs taken x rest h.1 p.1 (sym same ∙ is))
    (eqb_tells g.number x.sender)

packets_after : (gs : List Gathered) (taken : List Item) (x : Item) (rest : List Item) → Each (Adds taken (x ∷ rest)) gs
    → Each (λ (g : Gathered). Packets (untaken_of taken g)) gs → Each (λ (g : Gathered). Packets (untaken_of (taken ++ x ∷ []) g)) gs
packets_after [] taken x rest h p = tt
packets_after (g ∷ gs) taken x rest h p =
    let P : List Carried → Type 0 = Packets in
    let all = subst P (left_is g taken (x ∷ rest) h.0 ∙ part-append g.number (x ∷ []) rest) p.0 in
    let after : Adds (taken ++ x ∷ []) rest g = part-moved g.number taken rest x ∙ h.0 in
    (subst P (sym (left_is g (taken ++ x ∷ []) rest after)) (each_right (part g.number (x ∷ [])) (part g.number rest) all), packets_after gs taken x rest h.1 p.1)

module _ (d : TakerState) (x : Item) (rest : List Item) (pass_of : ℕ → Option ℕ) (pushed : ℕ → List Carried) (s : Sound d pass_of pushed (x ∷ rest)) where
  adds : Each (Adds d.taken (x ∷ rest)) d.gathered
  adds = adds_of d pass_of pushed (x ∷ rest) s

  -- the sender pushed only packets, so the head of the queue is a packet
  plain_next : d.marked ≡ false → carries_packet x.what ≡ true
  plain_next plain =
      let P : List Carried → Type 0 = Packets in
      let all : Packets (part x.sender d.taken ++ part x.sender (x ∷ rest)) = subst P (sym (s.parts x.sender) ∙ part-append x.sender d.taken (x ∷ rest)) (s.plain plain x.sender) in
      (subst P (part-here x.sender x rest refl) (each_right (part x.sender d.taken) (part x.sender (x ∷ rest)) all)).0

  packet_next : TakesPackets d → (carries_packet x.what ≡ true) × TakesPackets (state_with d x)
  packet_next none = ⊎_elim
      (λ (plain : d.marked ≡ false). (plain_next plain, inl plain))
      (λ (all : AllGathered d × PacketsLeft d).
      (packets_next d.gathered d.taken x rest adds all.1 (all.0 x.sender (next_of d x rest pass_of pushed s)), inr (all.0, packets_after d.gathered d.taken x rest adds all.1)))
      none

  few_taken : length (part x.sender (d.taken ++ x ∷ [])) ≤ 2 ^ 62
  few_taken =
      let few = s.few x.sender in
      let all = ap length (sym (part-append x.sender (d.taken ++ x ∷ []) rest) ∙ (part-moved x.sender d.taken rest x ∙ s.parts x.sender)) in
      omega (arith, length-append (part x.sender (d.taken ++ x ∷ [])) (part x.sender rest))

  pub is_next : MayBeTaken d x
  is_next = record {
    number = next_of d x rest pass_of pushed s;
    few = few_taken;
    known = counts_down d x rest pass_of pushed s;
    packet = packet_next;
    first = λ later some. let h = known-is d.gathered d.taken (x ∷ rest) adds in
        front_known d.made d.gathered x rest (each_map d.gathered (λ g j. j.behind) s.joined) later (next_of d x rest pass_of pushed s) (subst (λ n. 0 < n) h some);
  }

taken_here : (s : ℕ) (taken : List Item) (x : Item) → x.sender ≡ s → length (part s (taken ++ x ∷ [])) ≡ length (part s taken) + 1
taken_here s taken x e = ap length (part-append s taken (x ∷ []) ∙ ap (λ l. part s taken ++ l) (part-here s x [] e)) ∙ length-append (part s taken) (x.what ∷ [])

taken_else : (s : ℕ) (taken : List Item) (x : Item) → x.sender ≢ s → part s (taken ++ x ∷ []) ≡ part s taken
taken_else s taken x e = part-append s taken (x ∷ []) ∙ (ap (λ l. part s taken ++ l) (part-else s x [] e) ∙ append-nil (part s taken))

pub took : (d : TakerState) (x : Item) (rest : List Item) (pass_of : ℕ → Option ℕ) (pushed : ℕ → List Carried) (counts : List Count) (k m : ℕ) → Sound d pass_of pushed (x ∷ rest)
    → IsTaker (Taking d) counts k → k ≡ cond (is_gathered d.gathered x.sender) 1 0 + m
    → IsTaker (Taking (make_taker_state d.marked d.made (d.taken ++ x ∷ []) d.gathered)) (set counts x.sender (count (length (part x.sender d.taken) + 1) (is_gathered d.gathered x.sender))) m
took d x rest pass_of pushed counts k m s t e =
    let new = count (length (part x.sender d.taken) + 1) (is_gathered d.gathered x.sender) in
    let lt = next_of d x rest pass_of pushed s in
    let long = t.made in
    let h = moved d.gathered d.taken rest x (adds_of d pass_of pushed (x ∷ rest) s) in
    record {
      is = refl;
      made = length-set counts x.sender new ∙ t.made;
      counted = λ u c less. ⊎_elim
          (λ (q : (eqb u x.sender ≡ true) × (u ≡ x.sender)).
          let here : get_or (set counts x.sender new) u c ≡ new = ap (λ i. get_or (set counts x.sender new) i c) q.1 ∙ get_or-set_same counts x.sender new c (omega arith) in
          here ∙ same_count (length (part x.sender d.taken) + 1) (length (part u (d.taken ++ x ∷ []))) (is_gathered d.gathered x.sender) (is_gathered d.gathered u)
          (ap (λ i. length (part i d.taken) + 1) (sym q.1) ∙ sym (taken_here u d.taken x (sym q.1))) (ap (is_gathered d.gathered) (sym q.1)))
          (λ (q : (eqb u x.sender ≡ false) × (u ≢ x.sender)).
          get_or-set_other counts x.sender u new c q.1 ∙ (t.counted u c less ∙ same_count (length (part u d.taken)) (length (part u (d.taken ++ x ∷ []))) (is_gathered d.gathered u) (is_gathered d.gathered u)
          (ap length (sym (taken_else u d.taken x (λ z. q.1 (sym z))))) refl))
          (eqb_tells u x.sender);
      known_is = let c = counts_down d x rest pass_of pushed s in let k' = t.known_is in omega arith;
      begun = begun_of d.gathered (d.taken ++ x ∷ []) rest h;
      of_made = λ u le. part-nil_left u (d.taken ++ x ∷ []) rest (part-moved u d.taken rest x ∙ (s.parts u ∙ (s.unmade u le).0));
      numbers = t.numbers;
    }

pub took_as : (v w : View) (x : Item) (rest : List Item) (counts : List Count) (k m n : ℕ) (c : Count)
    → SeenBy v (x ∷ rest) → w ≡ with_taken v x → IsTaker v counts k → n ≡ cond (is_gathered (taker_state_in v).gathered x.sender) 1 0 → k ≡ n + m
    → c ≡ count (length (part x.sender (taker_state_in v).taken) + 1) (is_gathered (taker_state_in v).gathered x.sender)
    → IsTaker w (set counts x.sender c) m
took_as v w x rest counts k m n c seen e t one down is =
    let d : TakerState = taker_state_in v in
    let s = seen_sound v d (x ∷ rest) t.is seen in
    let t' : IsTaker (Taking d) counts k = subst (λ (u : View). IsTaker u counts k) t.is t in
    let w' : w ≡ Taking (make_taker_state d.marked d.made (d.taken ++ x ∷ []) d.gathered) = e ∙ ap (λ u. with_taken u x) t.is in
    let end : IsTaker (Taking (make_taker_state d.marked d.made (d.taken ++ x ∷ []) d.gathered)) (set counts x.sender (count (length (part x.sender d.taken) + 1) (is_gathered d.gathered x.sender))) m
    = took d x rest s.0 s.1 counts k m s.2 t' (down ∙ ap (λ i. i + m) one) in
    subst (λ (y : View × Count). IsTaker y.0 (set counts x.sender y.1) m) (λ i. (sym w' i, sym is i)) end

-- ---- a sender gathered
abbrev pub joined_state : TakerState → SenderState → TakerState
joined_state d p = make_taker_state d.marked d.made d.taken (make_gathered p.number d.made p.pushed ∷ d.gathered)

pub joined_is : (v u w : View) → v ≡ Taking (taker_state_in v) → u ≡ Sending (sender_state_in u) → w ≡ with_gathered v u → w ≡ Taking (joined_state (taker_state_in v) (sender_state_in u))
joined_is v u w a b e = e ∙ (λ i. with_gathered (a i) (b i))

known_joined : (d : TakerState) (p : SenderState) → known_of (joined_state d p).gathered d.taken ≡ known_of d.gathered d.taken + (length p.pushed - length (part p.number d.taken))
known_joined d p =
    let g = make_gathered p.number d.made p.pushed in
    omega (arith, sum_by-cons (λ (k : Gathered). length (untaken_of d.taken k)) g d.gathered, length-drop (length (part p.number d.taken)) p.pushed)

-- the queue holds at least the items that are known afterwards
pub joined_few : (d : TakerState) (p : SenderState) (items : List Item) → SoundWith (joined_state d p) items → known_of d.gathered d.taken + (length p.pushed - length (part p.number d.taken)) ≤ length items
joined_few d p items s =
    let w = joined_state d p in
    let k = known-is w.gathered d.taken items (adds_of w s.0 s.1 items s.2) in
    omega (arith, known_joined d p, k, tally-le w.gathered items s.2.apart)

pub joined_begun : (d : TakerState) (p : SenderState) (items : List Item) → SoundWith (joined_state d p) items → HasPrefix p.pushed (part p.number d.taken)
joined_begun d p items s = (begun_of (joined_state d p).gathered d.taken items (adds_of (joined_state d p) s.0 s.1 items s.2)).0

pub joined_below : (d : TakerState) (p : SenderState) (items : List Item) → SoundWith (joined_state d p) items → p.number < d.made
joined_below d p items s = s.2.joined.0.was_made

gather : (d : TakerState) (p : SenderState) (items : List Item) (counts : List Count) (k : ℕ) → SoundWith (joined_state d p) items → IsTaker (Taking d) counts k
    → IsTaker (Taking (joined_state d p)) (set counts p.number (count (length (part p.number d.taken)) true)) (k + (length p.pushed - length (part p.number d.taken)))
gather d p items counts k s t =
    let new = count (length (part p.number d.taken)) true in
    let lt = joined_below d p items s in
    let long = t.made in
    let gs : List Gathered = (joined_state d p).gathered in
    record {
      is = refl;
      made = length-set counts p.number new ∙ t.made;
      counted = λ u c less. ⊎_elim
          (λ (q : (eqb u p.number ≡ true) × (u ≡ p.number)).
          let here : get_or (set counts p.number new) u c ≡ new = ap (λ i. get_or (set counts p.number new) i c) q.1 ∙ get_or-set_same counts p.number new c (omega arith) in
          let yes : is_gathered gs u ≡ true = rw (eq-eqb p.number u (sym q.1)) refl in
          here ∙ same_count (length (part p.number d.taken)) (length (part u d.taken)) true (is_gathered gs u) (ap (λ i. length (part i d.taken)) (sym q.1)) (sym yes))
          (λ (q : (eqb u p.number ≡ false) × (u ≢ p.number)).
          let no : is_gathered gs u ≡ is_gathered d.gathered u = rw (ne_eqb p.number u (λ z. q.1 (sym z))) refl in
          get_or-set_other counts p.number u new c q.1 ∙ (t.counted u c less ∙ same_count (length (part u d.taken)) (length (part u d.taken)) (is_gathered d.gathered u) (is_gathered gs u) refl (sym no)))
          (eqb_tells u p.number);
      known_is = let j = known_joined d p in let k' = t.known_is in omega arith;
      begun = begun_of gs d.taken items (adds_of (joined_state d p) s.0 s.1 items s.2);
      of_made = t.of_made;
      numbers = (lt, t.numbers);
    }

pub gather_as : (v u w : View) (items : List Item) (counts : List Count) (k n pushed : ℕ) (number : ℕ) (c : Count) → SeenBy w items → IsTaker v counts k → IsSender u pushed → w ≡ with_gathered v u
    → number ≡ (sender_state_in u).number → c ≡ count (length (part number (taker_state_in v).taken)) true → n ≡ k + (pushed - length (part number (taker_state_in v).taken))
    → IsTaker w (set counts number c) n
gather_as v u w items counts k n pushed number c seen t r e num is sum =
    let d : TakerState = taker_state_in v in
    let p : SenderState = sender_state_in u in
    let w' = joined_is v u w t.is r.is e in
    let s : SoundWith (joined_state d p) items = seen_sound w (joined_state d p) items w' seen in
    let t' : IsTaker (Taking d) counts k = subst (λ (y : View). IsTaker y counts k) t.is t in
    let end = gather d p items counts k s t' in
    let is' : c ≡ count (length (part p.number d.taken)) true = is ∙ ap (λ i. count (length (part i d.taken)) true) num in
    let sum' : n ≡ k + (length p.pushed - length (part p.number d.taken)) = sum ∙ (λ i. k + (r.counted i - length (part (num i) d.taken))) in
    subst (λ (y : View × ℕ × Count × ℕ). IsTaker y.0 (set counts y.1 y.2) y.3) (λ i. (sym w' i, sym num i, sym is' i, sym sum' i)) end

-- ---- lemmas for the proofs about the functions
pub byte_is : (b : Bool) → bool_byte b ≡ cond b 1 0
byte_is true = refl
byte_is false = refl

pub next_below : (v : View) (counts : List Count) (k : ℕ) (x : Item) (rest : List Item) → IsTaker v counts k → SeenBy v (x ∷ rest) → x.sender < length counts
next_below v counts k x rest t seen =
    let s = seen_sound v (taker_state_in v) (x ∷ rest) t.is seen in
    let a = next_of (taker_state_in v) x rest s.0 s.1 s.2 in
    let b = t.made in
    omega arith

pub next_known : (v : View) (x : Item) (rest : List Item) → v ≡ Taking (taker_state_in v) → SeenBy v (x ∷ rest) → MayBeTaken (taker_state_in v) x
next_known v x rest is seen = let s = seen_sound v (taker_state_in v) (x ∷ rest) is seen in is_next (taker_state_in v) x rest s.0 s.1 s.2

-- nothing is known if the queue is empty
pub none_known : (v : View) (counts : List Count) (k : ℕ) → IsTaker v counts k → SeenBy v [] → known_of (taker_state_in v).gathered (taker_state_in v).taken ≡ 0
none_known v counts k t seen =
    let d = taker_state_in v in
    let s = seen_sound v d [] t.is seen in
    known-is d.gathered d.taken [] (adds_of d s.0 s.1 [] s.2) ∙ tally-nil d.gathered

-- the count of the item's sender
pub next_kept : (v : View) (counts : List Count) (k : ℕ) (x : Item) (rest : List Item) (c : Count) → IsTaker v counts k → SeenBy v (x ∷ rest) → c ≡ get_or counts x.sender c
    → c ≡ count (length (part x.sender (taker_state_in v).taken)) (is_gathered (taker_state_in v).gathered x.sender)
next_kept v counts k x rest c t seen at =
    let below = next_below v counts k x rest t seen in
    let made = t.made in
    at ∙ t.counted x.sender c (omega arith)

next_down : (v : View) (counts : List Count) (k : ℕ) (x : Item) (rest : List Item) (c : Count) (n : ℕ) → IsTaker v counts k → SeenBy v (x ∷ rest) → c ≡ get_or counts x.sender c → n ≡ bool_byte c.gathered
    → (n ≡ cond (is_gathered (taker_state_in v).gathered x.sender) 1 0) × (k ≡ n + known_of (taker_state_in v).gathered ((taker_state_in v).taken ++ x ∷ []))
next_down v counts k x rest c n t seen at is =
    let m = known_of (taker_state_in v).gathered ((taker_state_in v).taken ++ x ∷ []) in
    let one : n ≡ cond (is_gathered (taker_state_in v).gathered x.sender) 1 0 = is ∙ (byte_is c.gathered ∙ ap (λ (y : Count). cond y.gathered 1 0) (next_kept v counts k x rest c t seen at)) in
    (one, t.known_is ∙ ((next_known v x rest t.is seen).known ∙ ap (λ i. i + m) (sym one)))

-- the number of items taken from one sender doesn't overflow
pub next_fits : (v : View) (counts : List Count) (k : ℕ) (x : Item) (rest : List Item) (c : Count) → IsTaker v counts k → SeenBy v (x ∷ rest) → c ≡ get_or counts x.sender c → c.taken + 1 < 2 ^ 64
next_fits v counts k x rest c t seen at =
    let d = taker_state_in v in
    let s = seen_sound v d (x ∷ rest) t.is seen in
    let few = s.2.few x.sender in
    let e = ap length (sym (part-append x.sender d.taken (x ∷ rest)) ∙ s.2.parts x.sender) in
    let kept = ap (λ (y : Count). y.taken) (next_kept v counts k x rest c t seen at) in
    omega (arith, length-append (part x.sender d.taken) (part x.sender (x ∷ rest)))

pub joined_seen : (v u w : View) (counts : List Count) (k pushed : ℕ) (items : List Item) → IsTaker v counts k → IsSender u pushed → w ≡ with_gathered v u → SeenBy w items → SoundWith (joined_state (taker_state_in v) (sender_state_in u)) items
joined_seen v u w counts k pushed items t r e seen = seen_sound w (joined_state (taker_state_in v) (sender_state_in u)) items (joined_is v u w t.is r.is e) seen

pub joined_index : (v u w : View) (counts : List Count) (k pushed number : ℕ) (items : List Item) → IsTaker v counts k → IsSender u pushed → number ≡ (sender_state_in u).number → w ≡ with_gathered v u → SeenBy w items → number < length counts
joined_index v u w counts k pushed number items t r num e seen =
    let below = joined_below (taker_state_in v) (sender_state_in u) items (joined_seen v u w counts k pushed items t r e seen) in
    let made = t.made in
    omega arith

joined_kept : (v u w : View) (counts : List Count) (k pushed number : ℕ) (items : List Item) (c : Count) → IsTaker v counts k → IsSender u pushed → number ≡ (sender_state_in u).number → w ≡ with_gathered v u → SeenBy w items → c ≡ get_or counts number c
    → c.taken ≡ length (part number (taker_state_in v).taken)
joined_kept v u w counts k pushed number items c t r num e seen at =
    let s = joined_seen v u w counts k pushed items t r e seen in
    let below = joined_below (taker_state_in v) (sender_state_in u) items s in
    let made = t.made in
    ap (λ (y : Count). y.taken) (at ∙ t.counted number c (omega arith))

pub joined_less : (v u w : View) (counts : List Count) (k pushed number : ℕ) (items : List Item) (c : Count) → IsTaker v counts k → IsSender u pushed → number ≡ (sender_state_in u).number → w ≡ with_gathered v u → SeenBy w items → c ≡ get_or counts number c
    → c.taken ≤ pushed
joined_less v u w counts k pushed number items c t r num e seen at =
    let d = taker_state_in v in
    let p = sender_state_in u in
    let kept : c.taken ≡ length (part p.number d.taken) = joined_kept v u w counts k pushed number items c t r num e seen at ∙ ap (λ i. length (part i d.taken)) num in
    let b = joined_begun d p items (joined_seen v u w counts k pushed items t r e seen) in
    let long = ap length b.1 in
    let all = r.counted in
    omega (arith, length-append (part p.number d.taken) b.0)

pub joined_fits : (v u w : View) (counts : List Count) (k pushed number n : ℕ) (items : List Item) (c : Count) → IsTaker v counts k → IsSender u pushed → number ≡ (sender_state_in u).number → w ≡ with_gathered v u → SeenBy w items → c ≡ get_or counts number c
    → length items ≡ n → k + (pushed - c.taken) ≤ n
joined_fits v u w counts k pushed number n items c t r num e seen at long =
    let few = joined_few (taker_state_in v) (sender_state_in u) items (joined_seen v u w counts k pushed items t r e seen) in
    let kept : c.taken ≡ length (part (sender_state_in u).number (taker_state_in v).taken) = joined_kept v u w counts k pushed number items c t r num e seen at ∙ ap (λ i. length (part i (taker_state_in v).taken)) num in
    let known = t.known_is in
    let all = r.counted in
    omega arith

pub joined_leaves : (v u w y : View) (counts : List Count) (k pushed number : ℕ) (items : List Item) (c : Count) → IsTaker v counts k → IsSender u pushed → number ≡ (sender_state_in u).number → w ≡ with_gathered v u → SeenBy w items → c ≡ get_or counts number c
    → y ≡ w → IsTaker y (set counts number (count c.taken true)) (k + (pushed - c.taken))
joined_leaves v u w y counts k pushed number items c t r num e seen at same =
    let kept = joined_kept v u w counts k pushed number items c t r num e seen at in
    let end = gather_as v u w items counts k (k + (pushed - c.taken)) pushed number (count c.taken true) seen t r e num (λ i. count (kept i) true) (λ i. k + (pushed - kept i)) in
    subst (λ (z : View). IsTaker z (set counts number (count c.taken true)) (k + (pushed - c.taken))) (sym same) end

pub joined_begins : (v u w y : View) (counts : List Count) (k pushed : ℕ) (items : List Item) → IsTaker v counts k → IsSender u pushed → w ≡ with_gathered v u → SeenBy w items → y ≡ w
    → HasPrefix (sender_state_in u).pushed (part (sender_state_in u).number (taker_state_in y).taken)
joined_begins v u w y counts k pushed items t r e seen same =
    let b = joined_begun (taker_state_in v) (sender_state_in u) items (joined_seen v u w counts k pushed items t r e seen) in
    subst (λ (z : View). HasPrefix (sender_state_in u).pushed (part (sender_state_in u).number (taker_state_in z).taken)) (sym (same ∙ joined_is v u w t.is r.is e)) b

-- if the inbox has no marks, the sender pushed none
pub joined_packets : (v u w : View) (counts : List Count) (k pushed : ℕ) (items : List Item) → IsTaker v counts k → IsSender u pushed → w ≡ with_gathered v u → SeenBy w items
    → (taker_state_in v).marked ≡ false → Packets (sender_state_in u).pushed
joined_packets v u w counts k pushed items t r e seen none =
    let s = joined_seen v u w counts k pushed items t r e seen in
    let P : List Carried → Type 0 = Packets in
    subst P s.2.joined.0.all (s.2.plain none (sender_state_in u).number)

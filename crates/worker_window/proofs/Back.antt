-- A mote comes to rest after its window.
use Rattle.std.proofs.Common.{◌≡◌, ℕ, ◌+◌, ◌<◌, ◌≤◌, Bool, true, false, cond, not, ◌&&◌, ◌||◌, ltb, eqb, List, [], ◌∷◌, ◌++◌, length, map, refl, sym, ap, ◌∙◌, subst, inl, inr, arith, append-nil, Option, Some, None, get_or-set_same, get_or-set_other}
use Rattle.std.proofs.Math.Bool.{or-false}
use Rattle.std.proofs.lemmas.Bool.{cases_Bool, cases_eq, eq-eqb, eqb-true, ne_eqb, false≢true, lt-ltb, le-ltb, not-true}
use Rattle.std.proofs.lemmas.List.{length-set}
use Rattle.std.proofs.lemmas.List.Concat.{flat_map-append}
use Rattle.std.proofs.lemmas.List.Elements.{filter-append}
use Rattle.std.specs.List.{filter, flat_map, AllByRecursion}
use Rattle.copy_exchange.specs.Crossed.{is_own, copies_seen, is_for_others}
use Rattle.mote_net.specs.Net.{NetModel}
use Rattle.mote_node.specs.Public.{node_in}
use Rattle.mote_node.specs.Turn.{Node, is_past, wake_of}
use Rattle.net_agenda.specs.Buckets.{HoldsItems}
use Rattle.net_agenda.specs.Changes.{without_wakes}
use Rattle.net_agenda.specs.NetSystem.{tree_at, system_of}
use Rattle.radio_medium.specs.Medium.{copies}
use Rattle.radio_packet.specs.declared.copy.RadioCopy.{RadioCopy}
use Rattle.trace_lines.specs.declared.line.Line.{Line}
use Rattle.window_laws.proofs.Agenda.{packets_append, packets_map, packets_wake, no_wake_in_packets, own_wake, other_wake}
use Rattle.window_laws.proofs.Lists.{filter_none, filter_every, filter_stronger, every_filter, every_passes, every_weaker}
use Rattle.window_laws.specs.Agenda.{Item, Wake, Packet, is_wake_of, packets, wake_items}
use Rattle.window_laws.specs.NetStep.{put}
use Rattle.window_laws.specs.Windows.{LoneMote, NoneBefore, copies_by, is_from_sender, is_sent_by}
use Rattle.worker_window.specs.Events.{is_one_of}
use Rattle.worker_window.specs.Log.{packets_in}
use Rattle.worker_window.specs.MoteWindow.{node_number}
use Rattle.worker_window.specs.Out.{out_of}
use Rattle.worker_window.specs.Resting.{ComesToRest}
use Rattle.worker_window.specs.Share.{Motes, IsBetweenWindows, IsShare, HasToCome, mote_here, is_to_come, wake_from}
use Rattle.worker_window.specs.Window.{outgoing_by}
use Rattle.worker_window.specs.declared.out.WindowOut.{WindowOut}
use Rattle.worker_window.specs.declared.own.OwnWindow.{OwnWindow}
use Rattle.worker_window.specs.declared.share.Share.{Share}
use Rattle.std.specs.Prelude.{Vec, IsSomeAnd}
use Rattle.std.specs.declared.alloc.Global.{Global}
use Rattle.worker_window.proofs.Gives.{IsBack, ComesLate, come_late}
use Rattle.worker_window.proofs.Items.{wake_still}
use Rattle.worker_window.proofs.Numbers.{among_more}

and_true : (a b : Bool) → b ≡ true → a ≡ (a && b)
and_true true true e = refl
and_true true false e = absurd (false≢true e)
and_true false b e = refl

-- two tests that agree on the elements select the same elements
filter_same : {X : Type 0} (p q : X → Bool) (xs : List X) → AllByRecursion (λ x. p x ≡ q x) xs → filter p xs ≡ filter q xs
filter_same p q [] h = refl
filter_same p q (x ∷ xs) h = let e = h.0 in rw e (ap (λ l. cond (q x) (x ∷ l) l) (filter_same p q xs h.1))

packets_unwoken : (k : ℕ) (items : List Item) → packets (without_wakes k items) ≡ packets items
packets_unwoken k [] = refl
packets_unwoken k (Wake u j ∷ items) = elim (cases_Bool (eqb j k)) [ inl e ↦ rw e (packets_unwoken k items) | inr e ↦ rw e (packets_unwoken k items) ]
packets_unwoken k (Packet c ∷ items) = ap (λ l. c ∷ l) (packets_unwoken k items)

unwoken : (k : ℕ) (items : List Item) → filter (is_wake_of k) (without_wakes k items) ≡ []
unwoken k items =
    filter_none (is_wake_of k) (without_wakes k items) (every_weaker _ _ (λ item h. not-true (is_wake_of k item) h) (without_wakes k items) (every_passes (λ item. not (is_wake_of k item)) items))

other_woken : (j k : ℕ) → (j ≡ k → ⊥) → (items : List Item) → filter (is_wake_of j) (without_wakes k items) ≡ filter (is_wake_of j) items
other_woken j k ne items = filter_stronger (is_wake_of j) (λ item. not (is_wake_of k item)) other items
  where
    other : (item : Item) → is_wake_of j item ≡ true → not (is_wake_of k item) ≡ true
    other (Wake t m) e = ap not (ne_eqb m k (λ f. ne (sym (eqb-true m j e) ∙ f)))
    other (Packet c) e = absurd (false≢true e)

module _ (n : NetModel) (owners : List ℕ) (worker from until : ℕ) (before now : Motes) (taken : List RadioCopy) (window_copies : ℕ → List RadioCopy) (placed : length n.radio.places ≡ length n.motes)
    (short : until ≤ from + (system_of n).lookahead) (others : List ℕ) (k : ℕ) (new : is_one_of k others ≡ false) (window : OwnWindow) (back : IsBack n (is_own owners worker) from until before window_copies k (out_of window))
    (waits : now k ≡ before k) where
  abbrev own : ℕ → Bool
  own = is_own owners worker

  abbrev out : WindowOut
  out = out_of window

  abbrev outgoing : ℕ → Bool
  outgoing j = own j && not (is_one_of j (others ++ k ∷ []))

  abbrev here : ℕ → Bool
  here j = own j && not (is_one_of j others)

  abbrev pub next : Motes
  next = put now k back.last

  pub at_k : next k ≡ back.last
  at_k = let e : eqb k k ≡ true = eq-eqb k k refl in rw e refl

  pub elsewhere : (j : ℕ) → (j ≡ k → ⊥) → next j ≡ now j
  elsewhere j ne = let e : eqb j k ≡ false = ne_eqb j k ne in rw e refl

  same_here : (j : ℕ) → (j ≡ k → ⊥) → outgoing j ≡ here j
  same_here j ne = ap (λ b. own j && not b) (among_more j others k ∙ (ap (λ b. is_one_of j others || b) (ne_eqb k j (λ f. ne (sym f))) ∙ or-false (is_one_of j others)))

  -- a proof by cases: the mote that has returned, or another
  by_mote : (P : ℕ → Type 0) → P k → ((j : ℕ) → (j ≡ k → ⊥) → P j) → (j : ℕ) → P j
  by_mote P one rest j = elim (cases_eq j k) [ inl e ↦ subst P (sym e) one | inr ne ↦ rest j ne ]

  abbrev sent : List RadioCopy
  sent = flat_map (copies n.radio) out.sends.items

  abbrev sent_own : List RadioCopy
  sent_own = filter (λ copy. own copy.to) sent

  late_ones : AllByRecursion (ComesLate n from until k) sent
  late_ones = come_late n from until placed short k out.sends.items back.sent

  copies_put : (j : ℕ) → (j ≡ k → ⊥) → copies_by (system_of n) next j ≡ copies_by (system_of n) now j
  copies_put j ne = ap (λ m. flat_map (system_of n).copies (cond (ltb j (system_of n).motes) m.sends [])) (elsewhere j ne)

  copies_more : copies_by (system_of n) next k ≡ copies_by (system_of n) now k ++ sent
  unfolding system_of
  copies_more =
      let e : ltb k (length n.motes) ≡ true = lt-ltb k (length n.motes) back.there in
      ap (λ m. flat_map (copies n.radio) (cond (ltb k (length n.motes)) m.sends [])) at_k
      ∙ (ap (λ b. flat_map (copies n.radio) (cond b back.last.sends [])) e
      ∙ (ap (flat_map (copies n.radio)) (back.sends ∙ ap (λ m. m.sends ++ out.sends.items) (sym waits))
      ∙ (flat_map-append (copies n.radio) (now k).sends out.sends.items
      ∙ ap (λ b. flat_map (copies n.radio) (cond b (now k).sends []) ++ sent) (sym e))))

  from_k : filter (is_from_sender k) sent_own ≡ sent_own
  from_k = filter_every (is_from_sender k) sent_own (every_filter _ _ (λ copy. own copy.to) (λ c h e. eq-eqb c.sender k h.sender) sent late_ones)

  from_others : (p : RadioCopy → Bool) (s : ℕ) → (s ≡ k → ⊥) → filter (is_from_sender s) (filter p sent) ≡ []
  from_others p s ne = filter_none (is_from_sender s) (filter p sent) (every_filter _ _ p (λ c h e. ne_eqb c.sender s (λ f. ne (sym f ∙ h.sender))) sent late_ones)

  come_own : sent_own ≡ filter (is_to_come own until) sent
  come_own = filter_same (λ copy. own copy.to) (is_to_come own until) sent (every_weaker _ _ (λ c h. and_true (own c.to) (not (ltb c.at until)) (ap not (le-ltb c.at until h.late))) sent late_ones)

  -- the outgoing copies, with those of this mote
  pub out_more : (s : ℕ) → outgoing_by n own next s ≡ outgoing_by n own now s ++ filter (is_from_sender s) (filter (is_for_others own) sent)
  out_more = by_mote (λ s. outgoing_by n own next s ≡ outgoing_by n own now s ++ filter (is_from_sender s) (filter (is_for_others own) sent)) one other
    where
      one : outgoing_by n own next k ≡ outgoing_by n own now k ++ filter (is_from_sender k) (filter (is_for_others own) sent)
      one =
          let e = back.mine in
          rw e (ap (filter (is_for_others own)) copies_more
          ∙ (filter-append (is_for_others own) (copies_by (system_of n) now k) sent
          ∙ ap (λ l. filter (is_for_others own) (copies_by (system_of n) now k) ++ l)
          (sym (filter_every (is_from_sender k) (filter (is_for_others own) sent) (every_filter _ _ (is_for_others own) (λ c h e. eq-eqb c.sender k h.sender) sent late_ones)))))

      other : (s : ℕ) → (s ≡ k → ⊥) → outgoing_by n own next s ≡ outgoing_by n own now s ++ filter (is_from_sender s) (filter (is_for_others own) sent)
      other s ne =
          ap (λ l. cond (own s) (filter (is_for_others own) l) []) (copies_put s ne)
          ∙ sym (ap (λ l. outgoing_by n own now s ++ l) (from_others (is_for_others own) s ne) ∙ append-nil (outgoing_by n own now s))

  module _ (pending : window.pending ≡ (before k).wake) (old share : Share) (in_state : IsShare n owners worker outgoing until now taken old) (gone later : List RadioCopy)
      (rested : ComesToRest n.radio owners until k window old share gone later) where
    abbrev wake : Option ℕ
    wake = wake_from until window.pending

    abbrev has : HasToCome n own until now taken old.agenda.buckets
    has = in_state.agenda

    abbrev items : List Item
    items = (without_wakes k has.items ++ wake_items k out.wake) ++ map Packet sent_own

    awake : filter (is_wake_of k) has.items ≡ wake_items k wake
    awake = has.wakes k ∙ (ap (λ b. cond b (wake_items k (wake_from until (now k).wake)) []) back.mine ∙ ap (wake_items k) (ap (λ m. wake_from until m.wake) waits ∙ ap (wake_from until) (sym pending)))

    worker_own : filter (λ copy. is_own owners old.worker copy.to) sent ≡ sent_own
    worker_own = ap (λ w. filter (λ copy. is_own owners w copy.to) sent) in_state.is_worker

    within : k < length old.motes.items
    within = let a = back.there in let b = in_state.places in omega arith

    mote_k : mote_here share.motes.items k ≡ Some rested.rested
    mote_k = ap (λ l. mote_here l k) rested.motes ∙ get_or-set_same old.motes.items k (Some rested.rested) None within

    mote_else : (j : ℕ) → (j ≡ k → ⊥) → mote_here share.motes.items j ≡ mote_here old.motes.items j
    mote_else j ne = ap (λ l. mote_here l j) rested.motes ∙ get_or-set_other old.motes.items k j (Some rested.rested) None ne

    -- the mote is at rest
    at_rest : IsBetweenWindows (tree_at n k) back.last rested.rested
    at_rest =
        let r = rested.is_rested in
        record {
          holds = record {
            node = ap (node_in (tree_at n k)) r.mote ∙ back.node;
            wake = r.wake ∙ back.wake;
            pending = r.pending ∙ back.wake;
            next = r.next;
            lines = ap (λ (l : Vec Line Global). l.items) r.lines ∙ sym back.lines;
            sends = r.sends;
          };
          no_copies = r.copies;
          not_called = r.called;
        }

    wakes_are : (j : ℕ) → filter (is_wake_of j) items ≡ filter (is_wake_of j) (without_wakes k has.items) ++ filter (is_wake_of j) (wake_items k out.wake)
    wakes_are j =
        filter-append (is_wake_of j) (without_wakes k has.items ++ wake_items k out.wake) (map Packet sent_own)
        ∙ (ap (λ l. filter (is_wake_of j) (without_wakes k has.items ++ wake_items k out.wake) ++ l) (no_wake_in_packets j sent_own)
        ∙ (append-nil (filter (is_wake_of j) (without_wakes k has.items ++ wake_items k out.wake)) ∙ filter-append (is_wake_of j) (without_wakes k has.items) (wake_items k out.wake)))

    new_wakes : (j : ℕ) → filter (is_wake_of j) items ≡ cond (own j) (wake_items j (wake_from until (next j).wake)) []
    new_wakes = by_mote (λ j. filter (is_wake_of j) items ≡ cond (own j) (wake_items j (wake_from until (next j).wake)) []) one other
      where
        one : filter (is_wake_of k) items ≡ cond (own k) (wake_items k (wake_from until (next k).wake)) []
        one =
            wakes_are k
            ∙ (ap (λ l. l ++ filter (is_wake_of k) (wake_items k out.wake)) (unwoken k has.items)
            ∙ (own_wake k out.wake
            ∙ (ap (wake_items k) (back.wake ∙ (sym (wake_still until back.last.wake back.quiet) ∙ ap (λ m. wake_from until m.wake) (sym at_k)))
            ∙ ap (λ b. cond b (wake_items k (wake_from until (next k).wake)) []) (sym back.mine))))

        other : (j : ℕ) → (j ≡ k → ⊥) → filter (is_wake_of j) items ≡ cond (own j) (wake_items j (wake_from until (next j).wake)) []
        other j ne =
            wakes_are j
            ∙ (ap (λ l. filter (is_wake_of j) (without_wakes k has.items) ++ l) (other_wake j k out.wake ne)
            ∙ (append-nil (filter (is_wake_of j) (without_wakes k has.items))
            ∙ (other_woken j k ne has.items ∙ (has.wakes j ∙ ap (λ m. cond (own j) (wake_items j (wake_from until m.wake)) []) (sym (elsewhere j ne))))))

    packets_are : packets items ≡ packets has.items ++ sent_own
    packets_are =
        packets_append (without_wakes k has.items ++ wake_items k out.wake) (map Packet sent_own)
        ∙ (ap (λ l. l ++ packets (map Packet sent_own))
        (packets_append (without_wakes k has.items) (wake_items k out.wake)
        ∙ (ap (λ l. packets (without_wakes k has.items) ++ l) (packets_wake k out.wake) ∙ (append-nil (packets (without_wakes k has.items)) ∙ packets_unwoken k has.items)))
        ∙ ap (λ l. packets has.items ++ l) (packets_map sent_own))

    new_copies : (s : ℕ) → filter (is_from_sender s) (packets items) ≡ filter (is_to_come own until) (copies_seen (system_of n) own next taken s)
    new_copies = by_mote (λ s. filter (is_from_sender s) (packets items) ≡ filter (is_to_come own until) (copies_seen (system_of n) own next taken s)) one other
      where
        split : (s : ℕ) → filter (is_from_sender s) (packets items) ≡ filter (is_to_come own until) (copies_seen (system_of n) own now taken s) ++ filter (is_from_sender s) sent_own
        split s = ap (filter (is_from_sender s)) packets_are ∙ (filter-append (is_from_sender s) (packets has.items) sent_own ∙ ap (λ l. l ++ filter (is_from_sender s) sent_own) (has.copies s))

        one : filter (is_from_sender k) (packets items) ≡ filter (is_to_come own until) (copies_seen (system_of n) own next taken k)
        one =
            let e = back.mine in
            split k
            ∙ (ap (λ l. filter (is_to_come own until) (copies_seen (system_of n) own now taken k) ++ l) (from_k ∙ come_own)
            ∙ rw e (sym (filter-append (is_to_come own until) (copies_by (system_of n) now k) sent) ∙ ap (filter (is_to_come own until)) (sym copies_more)))

        other : (s : ℕ) → (s ≡ k → ⊥) → filter (is_from_sender s) (packets items) ≡ filter (is_to_come own until) (copies_seen (system_of n) own next taken s)
        other s ne =
            split s
            ∙ (ap (λ l. filter (is_to_come own until) (copies_seen (system_of n) own now taken s) ++ l) (from_others (λ copy. own copy.to) s ne)
            ∙ (append-nil (filter (is_to_come own until) (copies_seen (system_of n) own now taken s))
            ∙ ap (λ l. filter (is_to_come own until) (cond (own s) l (filter (is_from_sender s) taken))) (sym (copies_put s ne))))

    -- a property of the mote that has returned, and of each mote in the share, is a property of all
    all_here : (P : (j : ℕ) → LoneMote Node Line → Type 0) → P k back.last → ((j : ℕ) → outgoing j ≡ true → P j (now j)) → (j : ℕ) → here j ≡ true → P j (next j)
    all_here P one rest =
        by_mote (λ j. here j ≡ true → P j (next j)) (λ _. subst (P k) (sym at_k) one)
        (λ j ne h. subst (P j) (sym (elsewhere j ne)) (rest j (same_here j ne ∙ h)))

    pub is_back : IsShare n owners worker here until next taken share
    is_back = record {
      is_worker = rested.worker ∙ in_state.is_worker;
      places = ap length rested.motes ∙ (length-set old.motes.items k (Some rested.rested) ∙ in_state.places);
      numbers = all_here (λ j m. node_number m.state ≡ j) back.number_is in_state.numbers;
      rests =
          by_mote (λ j. here j ≡ true → IsSomeAnd (mote_here share.motes.items j) (IsBetweenWindows (tree_at n j) (next j)))
          (λ _. subst (λ (o : Option OwnWindow). IsSomeAnd o (IsBetweenWindows (tree_at n k) (next k))) (sym mote_k) (subst (λ m. IsBetweenWindows (tree_at n k) m rested.rested) (sym at_k) at_rest))
          (λ j ne h. subst (λ (o : Option OwnWindow). IsSomeAnd o (IsBetweenWindows (tree_at n j) (next j))) (sym (mote_else j ne))
          (subst (λ m. IsSomeAnd (mote_here old.motes.items j) (IsBetweenWindows (tree_at n j) m)) (sym (elsewhere j ne)) (in_state.rests j (same_here j ne ∙ h))));
      elsewhere = λ j away. mote_else j (λ e. false≢true (sym away ∙ (ap own e ∙ back.mine))) ∙ in_state.elsewhere j away;
      wakes = all_here (λ j m. m.wake ≡ wake_of m.state) back.wakes in_state.wakes;
      quiet = all_here (λ j m. NoneBefore until m.wake) back.quiet in_state.quiet;
      turned_before = all_here (λ j m. is_past until m.state.last ≡ false) back.turned_before in_state.turned_before;
      log =
          by_mote (λ s. filter (is_sent_by s) (packets_in share.log.items) ≡ cond (own s) (next s).sends [])
          (log_split k ∙ (let e = back.mine in rw e (ap (λ l. (now k).sends ++ l) (filter_every (is_sent_by k) out.sends.items (every_weaker _ _ (λ x h. eq-eqb x.sender k h.sender) out.sends.items back.sent))
          ∙ (ap (λ m. m.sends ++ out.sends.items) waits ∙ (sym back.sends ∙ ap (λ m. m.sends) (sym at_k))))))
          (λ s ne. log_split s ∙ (ap (λ l. cond (own s) (now s).sends [] ++ l) (filter_none (is_sent_by s) out.sends.items (every_weaker _ _ (λ x h. ne_eqb x.sender s (λ f. ne (sym f ∙ h.sender))) out.sends.items back.sent))
          ∙ (append-nil (cond (own s) (now s).sends []) ∙ ap (λ m. cond (own s) m.sends []) (sym (elsewhere s ne)))));
      fates = rested.fates in_state.fates;
      agenda = record {
        items = items;
        holds = subst (λ l. HoldsItems share.agenda.buckets ((without_wakes k has.items ++ wake_items k out.wake) ++ map Packet l)) worker_own (rested.agenda has.items has.holds awake);
        wakes = new_wakes;
        copies = new_copies;
      };
    }
      where
        log_split : (s : ℕ) → filter (is_sent_by s) (packets_in share.log.items) ≡ cond (own s) (now s).sends [] ++ filter (is_sent_by s) out.sends.items
        log_split s =
            ap (filter (is_sent_by s)) rested.log
            ∙ (filter-append (is_sent_by s) (packets_in old.log.items) out.sends.items ∙ ap (λ l. l ++ filter (is_sent_by s) out.sends.items) (in_state.log s))

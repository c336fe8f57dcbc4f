-- The window of a worker: the events that its agenda has for each mote, and the events that stay in the share.
use Rattle.std.proofs.Common.{◌≡◌, ℕ, ◌<◌, ◌≤◌, Bool, true, false, cond, not, ◌&&◌, ltb, eqb, List, [], ◌∷◌, ◌++◌, map, refl, sym, ap, ◌∙◌, subst, inl, inr, arith, append-nil, Option, Some, None}
use Rattle.std.proofs.lemmas.Bool.{cases_Bool, cases_lt, eq-eqb, ne_eqb, eqb-true, false≢true, lt-ltb, le-ltb, ltb-false, ltb-true}
use Rattle.std.proofs.lemmas.Bool.Decides.{nat_tests}
use Rattle.std.proofs.lemmas.List.Elements.{filter-append}
use Rattle.std.specs.List.{filter, list_any, AllByRecursion}
use Rattle.copy_exchange.specs.Crossed.{is_own, copies_seen, IsExpected}
use Rattle.mote_net.specs.Net.{NetModel}
use Rattle.net_agenda.specs.NetSystem.{system_of}
use Rattle.radio_packet.specs.declared.copy.RadioCopy.{RadioCopy}
use Rattle.window_laws.proofs.Agenda.{packets_filter, packets_append, packets_map, no_wake_in_packets}
use Rattle.window_laws.proofs.Lists.{filter_filter, filter_both, filter_none, filter_every, filter_never, every_append, every_weaker, every_filter, every_map, filled_any, unfilled}
use Rattle.window_laws.specs.Agenda.{Item, Packet, moment_of, mote_of, is_wake_of, comes_at, packets, wake_items}
use Rattle.window_laws.specs.Order.{in_order}
use Rattle.window_laws.specs.Windows.{NoneBefore, is_at, is_from_sender, is_within, copies_by, Alone, Rests}
use Rattle.worker_window.specs.Events.{is_not_before, is_one_of, calls_for, TakesCopiesFor}
use Rattle.worker_window.specs.Share.{Motes, IsWholeShare, is_to_come, wake_from}
use Rattle.worker_window.specs.declared.share.Share.{Share}
use Rattle.window_laws.proofs.Order.{sorted_rising}
use Rattle.worker_window.proofs.Items.{inside, all_wakes, packets_of_all}
use Rattle.worker_window.proofs.Rises.{sorted_is_sorted}

-- the tests as statements about numbers
pub still_later : (own : Bool) (at from moment : ℕ) → from ≤ moment → (own && not (ltb at moment)) ≡ ((own && not (ltb at from)) && not (ltb at moment))
still_later true at from moment h = grind (arith, nat_tests)
still_later false at from moment h = refl

within_is : (mine own : Bool) (at from until : ℕ) → (mine ≡ true → own ≡ true) → (mine && (not (ltb at from) && ltb at until)) ≡ ((own && not (ltb at from)) && (ltb at until && mine))
within_is true own at from until h = let e = h refl in rw e (with_true (not (ltb at from)) (ltb at until))
  where
    with_true : (a b : Bool) → (a && b) ≡ (a && (b && true))
    with_true true true = refl
    with_true true false = refl
    with_true false b = refl
within_is false own at from until h = no_more (own && not (ltb at from)) (ltb at until)
  where
    no_more : (a b : Bool) → false ≡ (a && (b && false))
    no_more true true = refl
    no_more true false = refl
    no_more false b = refl

due_soon : (at to t k until : ℕ) → t < until → (eqb at t && eqb to k) ≡ ((ltb at until && eqb to k) && eqb at t)
due_soon at to t k until h = grind (arith, nat_tests)

never_soon : (at to t k until : ℕ) → until ≤ t → false ≡ ((ltb at until && eqb to k) && eqb at t)
never_soon at to t k until h = grind (arith, nat_tests)

any_of_filter : {X : Type 0} (q p : X → Bool) (xs : List X) → list_any q (filter p xs) ≡ true → list_any q xs ≡ true
any_of_filter q p [] h = h
any_of_filter q p (x ∷ xs) h =
    elim (cases_Bool (q x)) [
      | inl e ↦ rw e refl
      | inr e ↦ rw e (elim (cases_Bool (p x)) [ inl f ↦ (let g = rw (f, e) at h in any_of_filter q p xs g) | inr f ↦ (let g = rw f at h in any_of_filter q p xs g) ])
    ]

late_wakes : (until k : ℕ) (wake : Option ℕ) → filter (is_not_before until) (wake_items k wake) ≡ wake_items k (wake_from until wake)
late_wakes until k None = refl
late_wakes until k (Some t) = elim (cases_Bool (ltb t until)) [ inl e ↦ rw e refl | inr e ↦ rw e refl ]

module _ (n : NetModel) (owners : List ℕ) (worker from until : ℕ) (motes : Motes) (taken arrived : List RadioCopy) (share : Share) (keeps : IsWholeShare n owners worker from motes taken share)
    (le : from ≤ until) (come : AllByRecursion (IsExpected owners worker from) arrived) where
  abbrev pub own : ℕ → Bool
  own = is_own owners worker

  -- all pending events, together with the copies that have arrived
  abbrev pub items : List Item
  items = keeps.agenda.items ++ map Packet arrived

  abbrev pub known : ℕ → List RadioCopy
  known s = copies_seen (system_of n) own motes (taken ++ arrived) s

  none_own : (s : ℕ) → own s ≡ true → filter (is_from_sender s) arrived ≡ []
  none_own s e = filter_none (is_from_sender s) arrived (every_weaker _ _ (λ c h. ne_eqb c.sender s (λ f. false≢true (sym h.sender ∙ (ap own f ∙ e)))) arrived come)

  all_come : (s : ℕ) → filter (is_to_come own from) (filter (is_from_sender s) arrived) ≡ filter (is_from_sender s) arrived
  all_come s = filter_every (is_to_come own from) (filter (is_from_sender s) arrived) (every_filter _ _ (is_from_sender s) (λ c h e. (let a = h.to in let b = ap not (le-ltb c.at from h.later) in rw (a, b) refl)) arrived come)

  pub packets_are : packets items ≡ packets keeps.agenda.items ++ arrived
  packets_are = packets_append keeps.agenda.items (map Packet arrived) ∙ ap (λ l. packets keeps.agenda.items ++ l) (packets_map arrived)

  pub known_now : (s : ℕ) → filter (is_from_sender s) (packets items) ≡ filter (is_to_come own from) (known s)
  known_now s =
      ap (filter (is_from_sender s)) packets_are
      ∙ (filter-append (is_from_sender s) (packets keeps.agenda.items) arrived
      ∙ (ap (λ l. l ++ filter (is_from_sender s) arrived) (keeps.agenda.copies s) ∙ go (own s) refl))
    where
      go : (b : Bool) → own s ≡ b → filter (is_to_come own from) (copies_seen (system_of n) own motes taken s) ++ filter (is_from_sender s) arrived ≡ filter (is_to_come own from) (known s)
      go true e = rw e (ap (λ l. filter (is_to_come own from) (copies_by (system_of n) motes s) ++ l) (none_own s e) ∙ append-nil (filter (is_to_come own from) (copies_by (system_of n) motes s)))
      go false e =
          rw e (ap (λ l. filter (is_to_come own from) (filter (is_from_sender s) taken) ++ l) (sym (all_come s))
          ∙ (sym (filter-append (is_to_come own from) (filter (is_from_sender s) taken) (filter (is_from_sender s) arrived))
          ∙ ap (filter (is_to_come own from)) (sym (filter-append (is_from_sender s) taken arrived))))

  pub wakes_now : (k : ℕ) → filter (is_wake_of k) items ≡ cond (own k) (wake_items k (motes k).wake) []
  wakes_now k =
      filter-append (is_wake_of k) keeps.agenda.items (map Packet arrived)
      ∙ (ap (λ l. filter (is_wake_of k) keeps.agenda.items ++ l) (no_wake_in_packets k arrived) ∙ (append-nil (filter (is_wake_of k) keeps.agenda.items) ∙ (keeps.agenda.wakes k ∙ all_wakes own from motes keeps.quiet k)))

  -- each item is for a mote of the worker, and is at the moment or later
  abbrev pub IsIn : Item → Type 0
  IsIn item = (own (mote_of item) ≡ true) × (from ≤ moment_of item)

  pub all_in : AllByRecursion IsIn items
  all_in =
      every_append IsIn keeps.agenda.items (map Packet arrived) (inside n own from motes taken share.agenda.buckets keeps.agenda)
      (every_map IsIn Packet arrived (every_weaker _ _ (λ c h. (h.to, h.later)) arrived come))

  abbrev pub called : ℕ → Bool
  called k = list_any (calls_for until k) items

  pub soon_called : (k t : ℕ) → own k ≡ true → (motes k).wake ≡ Some t → t < until → called k ≡ true
  soon_called k t mine e h =
      any_of_filter (calls_for until k) (is_wake_of k) items
      (ap (list_any (calls_for until k)) (wakes_now k ∙ (ap (λ b. cond b (wake_items k (motes k).wake) []) mine ∙ ap (wake_items k) e))
      ∙ (let a : ltb t until ≡ true = lt-ltb t until h in let b : eqb k k ≡ true = eq-eqb k k refl in rw (a, b) refl))

  pub quiet_else : (k : ℕ) → own k ≡ true → called k ≡ false → NoneBefore until (motes k).wake
  quiet_else k mine idle = go (motes k).wake refl
    where
      go : (wake : Option ℕ) → (motes k).wake ≡ wake → NoneBefore until wake
      go None e = tt
      go (Some t) e = elim (cases_lt t until) [ inl h ↦ absurd (false≢true (sym idle ∙ soon_called k t mine e h)) | inr h ↦ h ]

  -- the copies for a mote in the window
  abbrev pub is_soon : ℕ → RadioCopy → Bool
  is_soon k copy = ltb copy.at until && eqb copy.to k

  abbrev pub window_copies : ℕ → List RadioCopy
  window_copies k = filter (is_soon k) (packets items)

  pub window_copies_are : (k : ℕ) → own k ≡ true → (t s : ℕ) → filter (is_from_sender s) (filter (is_at t) (window_copies k)) ≡ filter (is_at t) (filter (is_within k from until) (known s))
  window_copies_are k mine t s =
      filter_filter (is_from_sender s) (is_at t) (window_copies k)
      ∙ ap (filter (is_at t)) (filter_filter (is_from_sender s) (is_soon k) (packets items)
      ∙ (ap (filter (is_soon k)) (known_now s)
      ∙ filter_both (is_soon k) (is_to_come own from) (is_within k from until) (λ c. within_is (eqb c.to k) (own c.to) c.at from until (λ e. ap own (eqb-true c.to k e) ∙ mine)) (known s)))

  pub window_copies_from : (k : ℕ) → AllByRecursion (λ c. from ≤ c.at) (window_copies k)
  window_copies_from k = every_filter _ _ (is_soon k) (λ c h e. h.1) (packets items) (packets_of_all IsIn items all_in)

  at_window_copies : (k t : ℕ) → filter (is_at t) (window_copies k) ≡ cond (ltb t until) (packets (filter (comes_at t k) items)) []
  at_window_copies k t =
      elim (cases_Bool (ltb t until)) [
        | inl e ↦ rw e (filter_both (is_at t) (is_soon k) (λ c. comes_at t k (Packet c)) (λ c. due_soon c.at c.to t k until (ltb-true t until e)) (packets items) ∙ sym (packets_filter (comes_at t k) items))
        | inr e ↦ rw e (filter_both (is_at t) (is_soon k) (λ c. false) (λ c. never_soon c.at c.to t k until (ltb-false t until e)) (packets items) ∙ filter_never (packets items))
      ]

  in_order_again : (xs : List RadioCopy) → in_order (in_order xs) ≡ in_order xs
  in_order_again xs = sorted_rising (λ copy. copy.sender) (λ copy. copy.number) (in_order xs) (sorted_is_sorted (λ copy. copy.sender) (λ copy. copy.number) xs)

  pub alike : (k : ℕ) (copies : List RadioCopy) → TakesCopiesFor until items k copies → (t : ℕ) → in_order (filter (is_at t) copies) ≡ in_order (filter (is_at t) (window_copies k))
  alike k copies g t =
      ap in_order (g.all t)
      ∙ (elim (cases_Bool (ltb t until)) [ inl e ↦ rw e (in_order_again (packets (filter (comes_at t k) items))) | inr e ↦ rw e refl ]
      ∙ sym (ap in_order (at_window_copies k t)))

  pub idle_alone : (k : ℕ) → own k ≡ true → called k ≡ false → Alone (system_of n) k until (window_copies k) (motes k) (motes k)
  idle_alone k mine idle = Rests (record { no_wake = quiet_else k mine idle; no_copies = subst (AllByRecursion (λ c. until ≤ c.at)) (sym empty) tt })
    where
      empty : window_copies k ≡ []
      empty = sym (packets_filter (calls_for until k) items) ∙ ap packets (unfilled (filter (calls_for until k) items) (filled_any (calls_for until k) items ∙ idle))

  -- the items that aren't before the window's end
  abbrev pub later : List Item
  later = filter (is_not_before until) items

  pub later_wakes : (k : ℕ) → filter (is_wake_of k) later ≡ cond (own k) (wake_items k (wake_from until (motes k).wake)) []
  later_wakes k =
      filter_filter (is_wake_of k) (is_not_before until) items
      ∙ (ap (filter (is_not_before until)) (wakes_now k) ∙ kept (own k))
    where
      kept : (b : Bool) → filter (is_not_before until) (cond b (wake_items k (motes k).wake) []) ≡ cond b (wake_items k (wake_from until (motes k).wake)) []
      kept true = late_wakes until k (motes k).wake
      kept false = refl

  pub later_copies : (s : ℕ) → filter (is_from_sender s) (packets later) ≡ filter (is_to_come own until) (known s)
  later_copies s =
      ap (filter (is_from_sender s)) (packets_filter (is_not_before until) items)
      ∙ (filter_filter (is_from_sender s) (λ c. not (ltb c.at until)) (packets items)
      ∙ (ap (filter (λ c. not (ltb c.at until))) (known_now s)
      ∙ filter_both (λ c. not (ltb c.at until)) (is_to_come own from) (is_to_come own until) (λ c. still_later (own c.to) c.at from until le) (known s)))

  -- the state after the motes have run
  module _ (numbers : List ℕ) (all : (k : ℕ) → is_one_of k numbers ≡ called k) where
    abbrev pub here : ℕ → Bool
    here k = own k && not (is_one_of k numbers)

    pub here_parts : (k : ℕ) → here k ≡ true → (own k ≡ true) × (called k ≡ false)
    here_parts k e = go (own k) (is_one_of k numbers) refl refl e
      where
        go : (a b : Bool) → own k ≡ a → is_one_of k numbers ≡ b → (a && not b) ≡ true → (own k ≡ true) × (called k ≡ false)
        go true true f g h = absurd (false≢true h)
        go true false f g h = (f, sym (all k) ∙ g)
        go false b f g h = absurd (false≢true h)

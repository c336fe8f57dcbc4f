-- A share before the motes' first turns.
use Rattle.std.proofs.Common.{◌≡◌, ℕ, ◌+◌, ◌<◌, Bool, true, cond, ltb, List, [], ◌∷◌, ◌++◌, length, map, refl, sym, ap, ◌∙◌, subst, inl, inr, arith, add-one, zero-le, Option, Some, None}
use Rattle.std.proofs.lemmas.Bool.{cases_Bool, cases_lt, lt-ltb, false≢true}
use Rattle.std.proofs.lemmas.List.{map-append}
use Rattle.std.proofs.lemmas.List.Elements.{filter-append}
use Rattle.std.specs.List.{filter}
use Rattle.std.specs.Prelude.{IsSomeAnd}
use Rattle.copy_exchange.specs.Crossed.{is_own, copies_seen}
use Rattle.mote_net.specs.Net.{NetModel}
use Rattle.mote_node.specs.Public.{wake_in}
use Rattle.mote_node.specs.Turn.{is_past, wake_of}
use Rattle.net_agenda.specs.Buckets.{HoldsItems}
use Rattle.net_agenda.specs.NetSystem.{system_of, first_node_in, tree_at}
use Rattle.window_laws.proofs.Agenda.{first_wakes, packets_wakes}
use Rattle.window_laws.proofs.Lists.{filter_filter}
use Rattle.window_laws.specs.Agenda.{Wake, packets, is_wake_of, wake_items, mote_of, up_to}
use Rattle.window_laws.specs.Windows.{NoneBefore, first_mote, is_from_sender, is_sent_by}
use Rattle.worker_window.specs.Log.{HaveFates, packets_in}
use Rattle.worker_window.specs.Share.{mote_here, IfOwn, IsBetweenWindows, IsBeforeFirstTurn, IsWholeShare, is_to_come}
use Rattle.worker_window.specs.declared.own.OwnWindow.{OwnWindow}
use Rattle.worker_window.specs.declared.share.Share.{Share}
use Rattle.std.proofs.lemmas.Option.{slice_get_cases}
use Rattle.net_agenda.proofs.NewWakes.{new_wakes, new_numbers}
use Rattle.worker_window.proofs.Places.{none_behind}
use Rattle.worker_window.proofs.NoTurnIsPast.{not_begun}
use Rattle.worker_window.proofs.Items.{all_wakes}

-- a mote of the worker is a mote of the net
pub own_there : (owners : List ℕ) (worker k : ℕ) → is_own owners worker k ≡ true → k < length owners
own_there owners worker k mine = elim ((slice_get_cases owners k).1) [ inl w ↦ w.1 | inr p ↦ absurd (let g = rw p.1 at mine in false≢true g) ]

pub wakes_more : (own : ℕ → Bool) (b : Bool) (i : ℕ) → b ≡ own i
    → map (λ k. Wake 0 k) (filter own (up_to i)) ++ cond b (Wake 0 i ∷ []) [] ≡ map (λ k. Wake 0 k) (filter own (up_to (i + 1)))
wakes_more own b i e =
    sym (ap (λ j. map (λ k. Wake 0 k) (filter own (up_to j))) (add-one i)
    ∙ (ap (map (λ k. Wake 0 k)) (filter-append own (up_to i) (i ∷ []))
    ∙ (map-append (λ k. Wake 0 k) (filter own (up_to i)) (filter own (i ∷ [])) ∙ ap (λ l. map (λ k. Wake 0 k) (filter own (up_to i)) ++ l) last)))
  where
    last : map (λ k. Wake 0 k) (filter own (i ∷ [])) ≡ cond b (Wake 0 i ∷ []) []
    last = rw e (elim (cases_Bool (own i)) [ inl f ↦ rw f refl | inr f ↦ rw f refl ])

filter_map : (own : ℕ → Bool) (ks : List ℕ) → map (λ k. Wake 0 k) (filter own ks) ≡ filter (λ item. own (mote_of item)) (map (λ k. Wake 0 k) ks)
filter_map own [] = refl
filter_map own (k ∷ ks) = elim (cases_Bool (own k)) [ inl e ↦ rw e (ap (λ l. Wake 0 k ∷ l) (filter_map own ks)) | inr e ↦ rw e (filter_map own ks) ]

only_own : (own : ℕ → Bool) (k : ℕ) (wake : Option ℕ) → filter (λ item. own (mote_of item)) (wake_items k wake) ≡ cond (own k) (wake_items k wake) []
only_own own k None = elim (cases_Bool (own k)) [ inl e ↦ rw e refl | inr e ↦ rw e refl ]
only_own own k (Some t) = refl

module _ (n : NetModel) (owners : List ℕ) (worker : ℕ) (long : length owners ≡ length n.motes) where
  abbrev own : ℕ → Bool
  own = is_own owners worker

  wakes_at_0 : (k : ℕ) → own k ≡ true → (first_mote (system_of n) k).wake ≡ Some 0
  unfolding system_of
  wakes_at_0 k mine = let h = own_there owners worker k mine in let e : ltb k (length n.motes) ≡ true = lt-ltb k (length n.motes) (omega arith) in rw e refl

  first_state : (k : ℕ) → (first_mote (system_of n) k).state ≡ first_node_in n k
  unfolding system_of
  first_state k = refl

  wakes : (k : ℕ) → filter (is_wake_of k) (map (λ k. Wake 0 k) (filter own (up_to (length n.motes)))) ≡ cond (own k) (wake_items k (first_mote (system_of n) k).wake) []
  unfolding system_of
  wakes k =
      ap (filter (is_wake_of k)) (filter_map own (up_to (length n.motes)))
      ∙ (filter_filter (is_wake_of k) (λ item. own (mote_of item)) (map (λ k. Wake 0 k) (up_to (length n.motes)))
      ∙ (ap (filter (λ item. own (mote_of item))) (first_wakes (length n.motes) k) ∙ only_own own k (cond (ltb k (length n.motes)) (Some 0) None)))

  quiet : (k : ℕ) → own k ≡ true → NoneBefore 0 (first_mote (system_of n) k).wake
  quiet k mine = let e = wakes_at_0 k mine in rw e zero-le

  no_copies : (s : ℕ) → filter (is_from_sender s) (packets (map (λ k. Wake 0 k) (filter own (up_to (length n.motes))))) ≡ filter (is_to_come own 0) (copies_seen (system_of n) own (first_mote (system_of n)) [] s)
  no_copies s =
      ap (filter (is_from_sender s)) (packets_wakes (filter own (up_to (length n.motes))))
      ∙ elim (cases_Bool (own s)) [
        | inl e ↦ rw e (elim (cases_Bool (ltb s (system_of n).motes)) [ inl f ↦ rw f refl | inr f ↦ rw f refl ])
        | inr e ↦ rw e refl
      ]

  first_wake : (k : ℕ) → own k ≡ true → (first_mote (system_of n) k).wake ≡ wake_of (first_node_in n k)
  first_wake k mine = wakes_at_0 k mine ∙ sym (new_wakes n k)

  no_lines : (k : ℕ) → (first_mote (system_of n) k).lines ≡ []
  no_lines k = refl

  -- a new mote is at rest
  at_first : (k : ℕ) (mote : Option OwnWindow) → own k ≡ true → IsSomeAnd mote (IsBeforeFirstTurn n k) → IsSomeAnd mote (IsBetweenWindows (tree_at n k) (first_mote (system_of n) k))
  at_first k None mine first = absurd first
  at_first k (Some one) mine first =
      let wake : one.wake ≡ (first_mote (system_of n) k).wake = first.new.wake (tree_at n k) ∙ (ap wake_in first.node ∙ sym (first_wake k mine)) in
      record {
        holds = record {
          node = first.node ∙ ap Some (sym (first_state k));
          wake = wake;
          pending = first.new.pending ∙ wake;
          next = first.new.next;
          lines = first.new.lines ∙ sym (no_lines k);
          sends = first.new.sends;
        };
        no_copies = first.new.copies_are;
        not_called = first.new.called;
      }

  none_else : (motes : List (Option OwnWindow)) (k : ℕ) → (k < length motes → mote_here motes k ≡ None) → mote_here motes k ≡ None
  none_else motes k none = elim (cases_lt k (length motes)) [ inl low ↦ none low | inr high ↦ none_behind motes k (λ low. absurd (omega arith)) ]

  pub begins : (share : Share) → share.worker ≡ worker → length share.motes.items ≡ length n.motes
      → ((k : ℕ) → k < length n.motes → IfOwn (own k) (mote_here share.motes.items k) (IsBeforeFirstTurn n k))
      → share.log.items ≡ [] → HoldsItems share.agenda.buckets (map (λ k. Wake 0 k) (filter own (up_to (length n.motes))))
      → IsWholeShare n owners worker 0 (first_mote (system_of n)) [] share
  begins share is_worker motes firsts log holds = record {
    is_worker = is_worker;
    places = motes;
    numbers = λ k mine. ap (λ s. s.mote.state.mote) (first_state k) ∙ new_numbers n k;
    rests = λ k mine. (let h = own_there owners worker k mine in at_first k (mote_here share.motes.items k) mine (subst (λ b. IfOwn b (mote_here share.motes.items k) (IsBeforeFirstTurn n k)) mine (firsts k (omega arith))));
    elsewhere = λ k away. none_else share.motes.items k (λ low. subst (λ b. IfOwn b (mote_here share.motes.items k) (IsBeforeFirstTurn n k)) away (firsts k (subst (λ m. k < m) motes low)));
    wakes = λ k mine. wakes_at_0 k mine ∙ (sym (new_wakes n k) ∙ ap wake_of (sym (first_state k)));
    quiet = quiet;
    turned_before = λ k mine. ap (λ s. is_past 0 s.last) (first_state k) ∙ not_begun n k 0;
    log = λ s. ap (λ lines. filter (is_sent_by s) (packets_in lines)) log ∙ elim (cases_Bool (own s)) [ inl e ↦ rw e refl | inr e ↦ rw e refl ];
    fates = subst (HaveFates n.radio) (sym log) tt;
    agenda = record { items = map (λ k. Wake 0 k) (filter own (up_to (length n.motes))); holds = holds; wakes = λ k. wakes k ∙ sym (all_wakes own 0 (first_mote (system_of n)) quiet k); copies = no_copies };
  }

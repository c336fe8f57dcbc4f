-- The copies on their way to one worker: those pending for its motes, and those in its inbox.
use Rattle.std.proofs.Common.{◌≡◌, ◌⊎◌, ℕ, ◌≤◌, true, false, cond, not, ltb, List, [], ◌∷◌, ◌++◌, length, refl, sym, ap, ap₂, ◌∙◌, subst, inl, inr, arith, append-nil, Option, Some, None}
use Rattle.std.proofs.lemmas.Bool.{cases_Bool, eqb-true, le-ltb}
use Rattle.std.proofs.lemmas.List.Elements.{filter-append}
use Rattle.std.proofs.lemmas.List.Sorted.{IsPermutation-sym, IsPermutation-trans}
use Rattle.std.specs.List.{filter, flat_map, AllByRecursion as Each}
use Rattle.std.specs.Prelude.{IsPermutation}
use Rattle.copy_exchange.proofs.CutWindows.{coming, coming_pending}
use Rattle.copy_exchange.specs.Crossed.{is_own, is_to, crossed, copies_seen}
use Rattle.copy_exchange.specs.Takers.{taken_by, gathered_by}
use Rattle.copy_inbox.specs.Handles.{TakerView}
use Rattle.mote_net.specs.Net.{NetModel}
use Rattle.net_agenda.specs.NetSystem.{system_of}
use Rattle.radio_packet.specs.declared.copy.RadioCopy.{RadioCopy}
use Rattle.window_laws.proofs.Lists.{filter_filter, filter_both, filter_every, every_passes, every_weaker}
use Rattle.window_laws.proofs.Order.{in_order_same, sorted_permutes}
use Rattle.window_laws.specs.Agenda.{up_to}
use Rattle.window_laws.specs.Forward.{RunsForward}
use Rattle.window_laws.specs.Pending.{comes_from}
use Rattle.window_laws.specs.Windows.{first_mote, Windows, NoneBefore, copies_by, is_from_sender}
use Rattle.window_workers.specs.WorkerGroup.{IsWorkerAt, IsNotBefore}
use Rattle.worker_window.specs.Share.{Motes, is_to_come}
use Rattle.worker_window.specs.declared.share.Share.{Share}
use Rattle.window_laws.proofs.Alone.{from_pieces}

not_before : (from : ℕ) (first : Option ℕ) (c : RadioCopy) → NoneBefore from first → IsNotBefore first c → from ≤ c.at
not_before from None c w h = absurd h
not_before from (Some m) c w h = omega arith

comes : (from at : ℕ) → from ≤ at → not (ltb at from) ≡ true
comes from at h = let e = le-ltb at from h in rw e refl

second_none : {X : Type 0} (xs ys : List X) → xs ++ ys ≡ [] → ys ≡ []
second_none [] ys e = e
second_none (x ∷ xs) ys e = cc

ends_of : {X : Type 0} (P : X → Type 0) (xs ys : List X) → Each P (xs ++ ys) → Each P xs × Each P ys
ends_of P [] ys h = (tt, h)
ends_of P (x ∷ xs) ys h = let e = ends_of P xs ys h.1 in ((h.0, e.0), e.1)

-- two lists that have, for each sender, the same copies in order have the same copies
pub same_copies : (xs ys : List RadioCopy) → ((s : ℕ) → filter (is_from_sender s) xs ≡ filter (is_from_sender s) ys) → IsPermutation xs ys
same_copies xs ys h =
    IsPermutation-trans _ _ _ (sorted_permutes (λ copy. copy.sender) (λ copy. copy.number) xs)
    (subst (λ l. IsPermutation l ys) (sym (in_order_same xs ys h)) (IsPermutation-sym _ _ (sorted_permutes (λ copy. copy.sender) (λ copy. copy.number) ys)))

module _ (n : NetModel) (fine : RunsForward (system_of n)) (owners : List ℕ) (from : ℕ) (motes : Motes) (led : Windows (system_of n) 0 from (first_mote (system_of n)) motes) (first : Option ℕ) (starts : NoneBefore from first)
    (v : ℕ) (share : Share) (taker : TakerView) (here : IsWorkerAt n owners from motes first v share taker) where
  -- the copies of one sender in the inbox
  abbrev rest_of : ℕ → List RadioCopy
  rest_of s = (here.waits s).rest

  abbrev taken_of : ℕ → List RadioCopy
  taken_of s = filter (is_from_sender s) (taken_by taker)

  rest_senders : (s : ℕ) → Each (λ (c : RadioCopy). c.sender ≡ s) (rest_of s)
  rest_senders s = (ends_of (λ (c : RadioCopy). c.sender ≡ s) (taken_of s) (rest_of s) (subst (Each (λ (c : RadioCopy). c.sender ≡ s)) (here.waits s).all
      (every_weaker (λ (c : RadioCopy). is_from_sender s c ≡ true) (λ (c : RadioCopy). c.sender ≡ s) (λ c e. eqb-true c.sender s e) _ (every_passes (is_from_sender s) (gathered_by taker))))).1

  pub rest_later : (s : ℕ) → Each (λ (c : RadioCopy). from ≤ c.at) ((here.waits s).rest)
  rest_later s = every_weaker (IsNotBefore first) (λ (c : RadioCopy). from ≤ c.at) (λ c h. not_before from first c starts h) (rest_of s) (here.waits s).later

  no_rest : (s : ℕ) → filter (is_from_sender s) (gathered_by taker) ≡ [] → rest_of s ≡ []
  no_rest s e = second_none (taken_of s) (rest_of s) (sym (here.waits s).all ∙ e)

  -- no copies cross from a mote past the last, or from the worker's own motes
  none_beyond : (s : ℕ) → ltb s (length n.motes) ≡ false → crossed (system_of n) owners motes v s ≡ []
  unfolding system_of
  none_beyond s e = elim (cases_Bool (is_own owners v s)) [ inl t ↦ rw t refl | inr t ↦ rw (t, e) refl ]

  none_own : (s : ℕ) → is_own owners v s ≡ true → crossed (system_of n) owners motes v s ≡ []
  none_own s e = rw e refl

  -- all copies in the inbox
  abbrev pub waiting : List RadioCopy
  waiting = flat_map rest_of (up_to (length n.motes))

  waiting_of : (s : ℕ) → filter (is_from_sender s) waiting ≡ rest_of s
  waiting_of s = from_pieces rest_of rest_senders (length n.motes) s ∙ of_case (cases_Bool (ltb s (length n.motes)))
    where
      of_case : (ltb s (length n.motes) ≡ true) ⊎ (ltb s (length n.motes) ≡ false) → cond (ltb s (length n.motes)) (rest_of s) [] ≡ rest_of s
      of_case (inl e) = rw e refl
      of_case (inr e) = rw e (sym (no_rest s (here.gathered s ∙ none_beyond s e)))

  gathered_each : (s : ℕ) → filter (is_from_sender s) (gathered_by taker) ≡ filter (is_from_sender s) (taken_by taker ++ waiting)
  gathered_each s = (here.waits s).all ∙ (ap (λ l. taken_of s ++ l) (sym (waiting_of s)) ∙ sym (filter-append (is_from_sender s) (taken_by taker) waiting))

  -- the copies gathered are those taken and those that wait
  pub gathered_is : IsPermutation (gathered_by taker) (taken_by taker ++ waiting)
  gathered_is = same_copies (gathered_by taker) (taken_by taker ++ waiting) gathered_each

  -- for one sender, the pending copies and those in the inbox are the copies to this worker from this moment on
  of_sender : (s : ℕ) → filter (is_to_come (is_own owners v) from) (copies_seen (system_of n) (is_own owners v) motes (taken_by taker) s) ++ rest_of s ≡ filter (comes_from from) (filter (is_to owners v) (copies_by (system_of n) motes s))
  of_sender s = of_case (cases_Bool (is_own owners v s))
    where
      of_case : (is_own owners v s ≡ true) ⊎ (is_own owners v s ≡ false)
          → filter (is_to_come (is_own owners v) from) (copies_seen (system_of n) (is_own owners v) motes (taken_by taker) s) ++ rest_of s ≡ filter (comes_from from) (filter (is_to owners v) (copies_by (system_of n) motes s))
      of_case (inl e) = rw e (
          ap (λ l. filter (is_to_come (is_own owners v) from) (copies_by (system_of n) motes s) ++ l) (no_rest s (here.gathered s ∙ none_own s e))
          ∙ (append-nil _ ∙ sym (filter_both (comes_from from) (is_to owners v) (is_to_come (is_own owners v) from) (λ c. refl) (copies_by (system_of n) motes s))))
      of_case (inr e) = rw e (
          ap₂ (λ a b. a ++ b)
          (sym (filter_both (comes_from from) (is_to owners v) (is_to_come (is_own owners v) from) (λ c. refl) (taken_of s)) ∙ ap (filter (comes_from from)) (filter_every (is_to owners v) (taken_of s) all_to))
          (sym (filter_every (comes_from from) (rest_of s) (every_weaker (λ (c : RadioCopy). from ≤ c.at) (λ c. comes_from from c ≡ true) (λ c h. comes from c.at h) (rest_of s) (rest_later s))))
          ∙ (sym (filter-append (comes_from from) (taken_of s) (rest_of s)) ∙ ap (filter (comes_from from)) whole))
        where
          crossed_is : crossed (system_of n) owners motes v s ≡ filter (is_to owners v) (copies_by (system_of n) motes s)
          crossed_is = rw e refl

          whole : taken_of s ++ rest_of s ≡ filter (is_to owners v) (copies_by (system_of n) motes s)
          whole = sym (here.waits s).all ∙ (here.gathered s ∙ crossed_is)

          all_to : Each (λ c. is_to owners v c ≡ true) (taken_of s)
          all_to = (ends_of (λ c. is_to owners v c ≡ true) (taken_of s) (rest_of s) (subst (Each (λ c. is_to owners v c ≡ true)) (sym whole) (every_passes (is_to owners v) (copies_by (system_of n) motes s)))).0

  -- the copies of each sender that are pending for this worker's motes
  abbrev pub AreToCome : List RadioCopy → Type 0
  AreToCome rest = (s : ℕ) → filter (is_from_sender s) rest ≡ filter (is_to_come (is_own owners v) from) (copies_seen (system_of n) (is_own owners v) motes (taken_by taker) s)

  to_come_each : (rest : List RadioCopy) → AreToCome rest → (s : ℕ) → filter (is_from_sender s) (rest ++ waiting) ≡ filter (is_from_sender s) (filter (is_to owners v) (coming (system_of n) fine from motes))
  to_come_each rest matches s =
      filter-append (is_from_sender s) rest waiting
      ∙ (ap₂ (λ a b. a ++ b) (matches s) (waiting_of s)
      ∙ (of_sender s
      ∙ (filter_filter (comes_from from) (is_to owners v) (copies_by (system_of n) motes s)
      ∙ (ap (filter (is_to owners v)) (sym (coming_pending (system_of n) fine from motes led s))
      ∙ sym (filter_filter (is_from_sender s) (is_to owners v) (coming (system_of n) fine from motes))))))

  -- the copies on their way to this worker are the copies pending for its motes and those in its inbox
  pub to_come_is : (rest : List RadioCopy) → AreToCome rest → IsPermutation (filter (is_to owners v) (coming (system_of n) fine from motes)) (rest ++ waiting)
  to_come_is rest matches = same_copies (filter (is_to owners v) (coming (system_of n) fine from motes)) (rest ++ waiting) (λ s. sym (to_come_each rest matches s))

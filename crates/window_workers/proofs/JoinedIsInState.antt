-- At each moment up to the first pending event, the workers are in the state of that moment.
use Rattle.std.proofs.Common.{◌≡◌, ◌⊎◌, ℕ, ◌<◌, ◌≤◌, Bool, true, false, not, ◌&&◌, ltb, List, [], ◌∷◌, length, get_or, refl, sym, ◌∙◌, subst, inl, inr, arith, Option, Some, None}
use Rattle.std.proofs.lemmas.Bool.{cases_Bool, le-ltb}
use Rattle.std.specs.List.{filter, slice_get, AllByRecursion as Each}
use Rattle.copy_exchange.proofs.CutWindows.{idle, receivers}
use Rattle.copy_exchange.specs.Crossed.{is_own, is_to, copies_seen}
use Rattle.copy_exchange.specs.Takers.{taken_by}
use Rattle.copy_inbox.specs.Handles.{TakerView}
use Rattle.mote_net.specs.Net.{NetModel}
use Rattle.net_agenda.specs.NetSystem.{system_of}
use Rattle.radio_packet.specs.declared.copy.RadioCopy.{RadioCopy}
use Rattle.window_laws.proofs.Lists.{every_append, every_weaker}
use Rattle.window_laws.specs.Forward.{RunsForward}
use Rattle.window_laws.specs.Windows.{NoneBefore, copies_by}
use Rattle.window_workers.specs.JoinedNext.{IsNextOfAll}
use Rattle.window_workers.specs.WorkerGroup.{WorkersAreAt, IsWorkerAt, IsNotBefore}
use Rattle.window_workers.specs.declared.group.WorkerGroup.{WorkerGroup}
use Rattle.worker_window.specs.Next.{TellsNext}
use Rattle.worker_window.specs.Share.{IsWholeShare, is_to_come}
use Rattle.worker_window.specs.declared.share.Share.{Share}
use Rattle.window_workers.proofs.Lookups.{there, read, inside, as_long, each_at, each_from}
use Rattle.window_workers.proofs.Step.{own_by, some_worker}

not_sooner : (moment : ℕ) (first : Option ℕ) (c : RadioCopy) → NoneBefore moment first → IsNotBefore first c → moment ≤ c.at
not_sooner moment None c w h = absurd h
not_sooner moment (Some m) c w h = omega arith

-- a property of the elements that pass two tests
unfiltered : (P : RadioCopy → Type 0) (p q : RadioCopy → Bool) (xs : List RadioCopy) → Each P (filter (λ c. p c && q c) xs) → Each (λ c. p c ≡ true → q c ≡ true → P c) xs
unfiltered P p q [] h = tt
unfiltered P p q (x ∷ xs) h = elim (cases_Bool (p x && q x)) [
  | inl e ↦ (let g = rw e at h in (λ a b. g.0, unfiltered P p q xs g.1))
  | inr e ↦ (let g = rw e at h in (λ a b. absurd (of_both (p x) (q x) a b e), unfiltered P p q xs g))
]
  where
    of_both : (a b : Bool) → a ≡ true → b ≡ true → (a && b) ≡ false → ⊥
    of_both true true a b e = cc
    of_both true false a b e = cc
    of_both false b a f e = cc

not_late : (at from : ℕ) → from ≤ at → not (ltb at from) ≡ true
not_late at from h = let e = le-ltb at from h in rw e refl

passed : (P : RadioCopy → Type 0) (p : RadioCopy → Bool) (xs : List RadioCopy) → Each P (filter p xs) → Each (λ c. p c ≡ true → P c) xs
passed P p [] h = tt
passed P p (x ∷ xs) h = elim (cases_Bool (p x)) [
  | inl e ↦ (let g = rw e at h in (λ a. g.0, passed P p xs g.1))
  | inr e ↦ (let g = rw e at h in (λ a. absurd (cc), passed P p xs g))
]

-- a property of the copies of each worker is a property of all copies, if each copy has a worker
by_some : (workers : ℕ) (A : ℕ → RadioCopy → Type 0) (Q : RadioCopy → Type 0) (xs : List RadioCopy) → ((v : ℕ) → v < workers → Each (λ c. A v c → Q c) xs)
    → Each (λ c. (v : ℕ) × (v < workers) × A v c) xs → Each Q xs
by_some workers A Q [] h k = tt
by_some workers A Q (x ∷ xs) h k = ((h k.0.0 k.0.1).0 k.0.2, by_some workers A Q xs (λ v l. (h v l).1) k.1)

module _ (n : NetModel) (fine : RunsForward (system_of n)) (owners : List ℕ) (from moment : ℕ) (group : WorkerGroup) (next : Option ℕ) (at : WorkersAreAt n owners from group) (is : IsNextOfAll group.first_out group.shares.items next) (le : from ≤ moment) (wakes : NoneBefore moment next) where
  abbrev workers : ℕ
  workers = length group.inboxes.items

  -- one worker
  record Piece (v : ℕ) : Type 0 where
    share : Share
    taker : TakerView
    share_at : slice_get group.shares.items v ≡ Some share
    taker_at : slice_get group.takers.items v ≡ Some taker
    here : IsWorkerAt n owners from at.motes group.first_out v share taker
    first : Option ℕ
    tells : TellsNext share first
    later : NoneBefore moment first

  takers_long : length group.takers.items ≡ workers
  takers_long = as_long _ group.inboxes.items group.takers.items at.settled

  piece : (v : ℕ) → v < workers → Piece v
  piece v h =
      let s = there group.shares.items v (subst (λ l. v < l) (sym at.shares) h) in
      let t = there group.takers.items v (subst (λ l. v < l) (sym takers_long) h) in
      let f = each_at _ group.shares.items v s.0 is.each s.1 in
      record {
        share = s.0;
        taker = t.0;
        share_at = s.1;
        taker_at = t.1;
        here = subst (λ x. IsWorkerAt n owners from at.motes group.first_out v x t.0) (read group.shares.items v s.0 s.0 s.1)
            (subst (λ x. IsWorkerAt n owners from at.motes group.first_out v (get_or group.shares.items v s.0) x) (read group.takers.items v t.0 t.0 t.1) (at.each v h s.0 t.0));
        first = f.0;
        tells = f.1;
        later = f.2 moment wakes;
      }

  keeps_on : (v : ℕ) → (p : Piece v) → IsWholeShare n owners v moment at.motes (taken_by p.taker) p.share
  keeps_on v p = (p.tells n owners v from at.motes (taken_by p.taker) p.here.keeps).idle moment le p.later

  no_wake : (k : ℕ) → k < length n.motes → NoneBefore moment (at.motes k).wake
  no_wake k h =
      let w = some_worker (length n.motes) workers owners at.cut k h in
      (keeps_on w.0 (piece w.0 w.2)).quiet k (own_by owners w.0 k w.1)

  -- no copy for a mote of this worker arrives before the moment
  no_copy_to : (s v : ℕ) → Piece v → Each (λ (c : RadioCopy). is_own owners v c.to ≡ true → (from ≤ c.at → moment ≤ c.at)) (copies_by (system_of n) at.motes s)
  no_copy_to s v p = of_case (cases_Bool (is_own owners v s))
    where
      known : Each (λ (c : RadioCopy). moment ≤ c.at) (filter (is_to_come (is_own owners v) from) (copies_seen (system_of n) (is_own owners v) at.motes (taken_by p.taker) s))
      known = (p.tells n owners v from at.motes (taken_by p.taker) p.here.keeps).no_copies moment p.later s

      of_case : (is_own owners v s ≡ true) ⊎ (is_own owners v s ≡ false) → Each (λ (c : RadioCopy). is_own owners v c.to ≡ true → (from ≤ c.at → moment ≤ c.at)) (copies_by (system_of n) at.motes s)
      of_case (inl e) =
          let k = rw e at known in
          every_weaker (λ (c : RadioCopy). is_own owners v c.to ≡ true → not (ltb c.at from) ≡ true → moment ≤ c.at) (λ (c : RadioCopy). is_own owners v c.to ≡ true → (from ≤ c.at → moment ≤ c.at)) (λ c g a l. g a (not_late c.at from l)) _ (unfiltered (λ (c : RadioCopy). moment ≤ c.at) (λ c. is_own owners v c.to) (λ c. not (ltb c.at from)) _ k)
      of_case (inr e) =
          let k = rw e at known in
          let matches = p.here.gathered s in
          let crossed_is = rw e at matches in
          let taken = every_weaker (λ (c : RadioCopy). is_own owners v c.to ≡ true → not (ltb c.at from) ≡ true → moment ≤ c.at) (λ (c : RadioCopy). is_own owners v c.to ≡ true → (from ≤ c.at → moment ≤ c.at)) (λ c g a l. g a (not_late c.at from l)) _ (unfiltered (λ (c : RadioCopy). moment ≤ c.at) (λ c. is_own owners v c.to) (λ c. not (ltb c.at from)) _ k) in
          let rest = every_weaker (IsNotBefore group.first_out) (λ (c : RadioCopy). is_own owners v c.to ≡ true → (from ≤ c.at → moment ≤ c.at)) (λ c g a l. not_sooner moment group.first_out c (is.out moment wakes) g) _ (p.here.waits s).later in
          let both = every_append (λ (c : RadioCopy). is_own owners v c.to ≡ true → (from ≤ c.at → moment ≤ c.at)) _ _ taken rest in
          let gathered = subst (Each (λ (c : RadioCopy). is_own owners v c.to ≡ true → (from ≤ c.at → moment ≤ c.at))) (sym (p.here.waits s).all ∙ crossed_is) both in
          every_weaker (λ (c : RadioCopy). is_to owners v c ≡ true → is_own owners v c.to ≡ true → (from ≤ c.at → moment ≤ c.at)) (λ (c : RadioCopy). is_own owners v c.to ≡ true → (from ≤ c.at → moment ≤ c.at)) (λ c g a. g a a) _ (passed (λ (c : RadioCopy). is_own owners v c.to ≡ true → (from ≤ c.at → moment ≤ c.at)) (is_to owners v) _ gathered)

  no_copy : (s : ℕ) → Each (λ (c : RadioCopy). from ≤ c.at → moment ≤ c.at) (copies_by (system_of n) at.motes s)
  unfolding system_of
  no_copy s =
      by_some workers (λ v (c : RadioCopy). is_own owners v c.to ≡ true) (λ (c : RadioCopy). from ≤ c.at → moment ≤ c.at) _ (λ v h. no_copy_to s v (piece v h))
      (every_weaker (λ (c : RadioCopy). c.to < length n.motes) (λ (c : RadioCopy). (v : ℕ) × (v < workers) × (is_own owners v c.to ≡ true)) (λ c h. let w = some_worker (length n.motes) workers owners at.cut c.to h in (w.0, w.2, own_by owners w.0 c.to w.1)) _ (receivers (system_of n) fine at.motes s))

  pub in_state : WorkersAreAt n owners moment group
  unfolding system_of
  in_state = record {
    motes = at.motes;
    led = idle (system_of n) fine from moment at.motes le at.led no_wake no_copy;
    cut = at.cut;
    shares = at.shares;
    settled = at.settled;
    first = is.out moment wakes;
    each = λ v h share taker. one v (piece v h) share taker;
  }
    where
      one : (v : ℕ) → Piece v → (share : Share) (taker : TakerView) → IsWorkerAt n owners moment at.motes group.first_out v (get_or group.shares.items v share) (get_or group.takers.items v taker)
      one v p share taker =
          subst (λ x. IsWorkerAt n owners moment at.motes group.first_out v x (get_or group.takers.items v taker)) (sym (read group.shares.items v p.share share p.share_at))
          (subst (λ x. IsWorkerAt n owners moment at.motes group.first_out v p.share x) (sym (read group.takers.items v p.taker taker p.taker_at)) (record { keeps = keeps_on v p; gathered = p.here.gathered; waits = p.here.waits }))

module _ (n : NetModel) (owners : List ℕ) (from : ℕ) (group : WorkerGroup) (next : Option ℕ) (at : WorkersAreAt n owners from group) (is : IsNextOfAll group.first_out group.shares.items next) where
  takers_here : length group.takers.items ≡ length group.inboxes.items
  takers_here = as_long _ group.inboxes.items group.takers.items at.settled

  pub comes_no_sooner : NoneBefore from next
  comes_no_sooner = is.greatest from at.first (each_from _ group.shares.items from_share)
    where
      from_share : (v : ℕ) (s : Share) → slice_get group.shares.items v ≡ Some s → (first : Option ℕ) → TellsNext s first → NoneBefore from first
      from_share v s e first tells =
          let h : v < length group.inboxes.items = subst (λ l. v < l) at.shares (inside group.shares.items v s e) in
          let t = there group.takers.items v (subst (λ l. v < l) (sym takers_here) h) in
          let here : IsWorkerAt n owners from at.motes group.first_out v s t.0 = subst (λ x. IsWorkerAt n owners from at.motes group.first_out v x t.0) (read group.shares.items v s s e)
          (subst (λ x. IsWorkerAt n owners from at.motes group.first_out v (get_or group.shares.items v s) x) (read group.takers.items v t.0 t.0 t.1) (at.each v h s t.0)) in
          (tells n owners v from at.motes (taken_by t.0) here.keeps).wakes

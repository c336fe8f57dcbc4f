-- The copies of the agenda are those that the workers hold and those in the inboxes.
use Rattle.std.proofs.Common.{◌≡◌, ℕ, zero, suc, ◌+◌, ◌<◌, Bool, true, false, not, ◌&&◌, ◌||◌, ltb, eqb, List, [], ◌∷◌, ◌++◌, length, get_or, refl, sym, ap, ap₂, ◌∙◌, subst, arith, zero-le, append-nil, Option, Some, None}
use Rattle.std.proofs.lemmas.Bool.{lt-ltb}
use Rattle.std.proofs.lemmas.Bool.Decides.{nat_tests}
use Rattle.std.proofs.lemmas.List.Concat.{flat_map-append}
use Rattle.std.proofs.lemmas.List.Elements.{filter_agree}
use Rattle.std.proofs.lemmas.List.Sorted.{IsPermutation-refl, IsPermutation-trans, IsPermutation-append_left, IsPermutation-filter_both}
use Rattle.std.specs.List.{filter, flat_map, slice_get, AllByRecursion as Each}
use Rattle.std.specs.Option.{option_map_or}
use Rattle.std.specs.Prelude.{IsPermutation}
use Rattle.copy_exchange.proofs.Counts.{IsHad}
use Rattle.copy_exchange.proofs.CutWindows.{LedTo, coming, coming_pending, is_history, receivers}
use Rattle.copy_exchange.specs.Crossed.{is_to}
use Rattle.copy_inbox.specs.Handles.{TakerView}
use Rattle.mote_net.specs.Net.{NetModel}
use Rattle.net_agenda.specs.NetSystem.{system_of}
use Rattle.radio_packet.specs.declared.copy.RadioCopy.{RadioCopy}
use Rattle.window_laws.proofs.Lists.{filter_both, filter_every, filter_none, filter_stronger, every_filter, every_flat_map, every_weaker}
use Rattle.window_laws.proofs.Unique.{run_is_one}
use Rattle.window_laws.specs.Agenda.{packets, up_to}
use Rattle.window_laws.specs.Forward.{RunsForward}
use Rattle.window_laws.specs.NetStep.{NetState, Run, boot}
use Rattle.window_laws.specs.Pending.{comes_from}
use Rattle.window_laws.specs.System.{System}
use Rattle.window_laws.specs.Windows.{LoneMote, copies_by, is_from_sender}
use Rattle.window_workers.specs.WorkerGroup.{WorkersAreAt}
use Rattle.window_workers.specs.declared.group.WorkerGroup.{WorkerGroup}
use Rattle.worker_window.specs.declared.share.Share.{Share}
use Rattle.window_laws.proofs.Serial.{Meets, is_ahead, meets_first, mix, mix_from, moments, sent_same}
use Rattle.window_workers.proofs.Step.{some_worker}
use Rattle.window_workers.specs.Held.{AreWith, AgendaIsHeld}
use Rattle.window_workers.proofs.Waiting.{same_copies, waiting, gathered_is, to_come_is}

beyond : (end u k : ℕ) → (ltb (suc end) u || (eqb u (suc end) && not (ltb k 0))) ≡ not (ltb u (suc end))
beyond end u k = grind (arith, nat_tests)

-- for each sender, the copies in the agenda after a run are those that are on their way after the windows
module _ {S L : Type 0} (system : System S L) (fine : RunsForward system) (end : ℕ) (motes : ℕ → LoneMote S L) (led : LedTo system fine (suc end) motes) where
  as_history : (k : ℕ) → k < system.motes → mix system fine (suc end) 0 k ≡ motes k
  as_history k h = mix_from system fine (suc end) 0 k zero-le ∙ sym (is_history system fine (suc end) motes led k h)

  of_meets : (net : NetState S L) → Meets system fine (suc end) 0 net → (s : ℕ) → filter (is_from_sender s) (packets net.agenda) ≡ filter (is_from_sender s) (coming system fine (suc end) motes)
  of_meets net meets s =
      meets.copies s
      ∙ (ap (filter (is_ahead system fine (suc end) 0)) (sent_same system fine (mix system fine (suc end) 0) motes s (as_history s))
      ∙ (filter_agree (is_ahead system fine (suc end) 0) (comes_from (suc end)) (λ c. beyond end c.at c.to) (copies_by system motes s)
      ∙ sym (coming_pending system fine (suc end) motes led s)))

  agenda_is : (net : NetState S L) → Run system end (boot system) net → IsPermutation (packets net.agenda) (coming system fine (suc end) motes)
  agenda_is net run =
      let e : 0 + suc end ≡ suc end = omega arith in
      let there = moments system fine end (suc end) 0 e (boot system) (meets_first system fine) in
      let one = run_is_one system end there.1 run in
      same_copies (packets net.agenda) (coming system fine (suc end) motes) (of_meets net (subst (Meets system fine (suc end) 0) (sym one) there.2))

lower : (w k : ℕ) → ltb w k ≡ true → ltb w (suc k) ≡ true
lower w k e = grind (arith, nat_tests)

just_at : (w k : ℕ) → eqb w k ≡ (ltb w (suc k) && not (ltb w k))
just_at w k = grind (arith, nat_tests)

-- the copies for motes of the first workers are the copies for motes of each of these workers
module _ (owners : List ℕ) where
  -- the copy is for a mote of one of the first k workers
  abbrev is_to_first : ℕ → RadioCopy → Bool
  is_to_first k copy = option_map_or (λ w. ltb w k) (slice_get owners copy.to) false

  first_more : (o : Option ℕ) (k : ℕ) → option_map_or (λ w. ltb w k) o false ≡ true → option_map_or (λ w. ltb w (suc k)) o false ≡ true
  first_more None k e = e
  first_more (Some w) k e = lower w k e

  last_of : (o : Option ℕ) (k : ℕ) → option_map_or (λ w. eqb w k) o false ≡ (option_map_or (λ w. ltb w (suc k)) o false && not (option_map_or (λ w. ltb w k) o false))
  last_of None k = refl
  last_of (Some w) k = just_at w k

  none_first : (o : Option ℕ) → option_map_or (λ w. ltb w 0) o false ≡ false
  none_first None = refl
  none_first (Some w) = grind (arith, nat_tests)

  to_first : (xs : List RadioCopy) (k : ℕ) → IsPermutation (filter (is_to_first k) xs) (flat_map (λ v. filter (is_to owners v) xs) (up_to k))
  to_first xs zero = subst (λ l. IsPermutation l []) (sym (filter_none (is_to_first 0) xs (none xs))) (IsPermutation-refl [])
    where
      none : (ys : List RadioCopy) → Each (λ c. is_to_first 0 c ≡ false) ys
      none [] = tt
      none (y ∷ ys) = (none_first (slice_get owners y.to), none ys)
  to_first xs (suc k) =
      IsPermutation-trans _ _ _ (subst (IsPermutation (filter (is_to_first (suc k)) xs)) parted (IsPermutation-filter_both (is_to_first k) (λ c. not (is_to_first k c)) (λ c. refl) (filter (is_to_first (suc k)) xs)))
      (subst (IsPermutation (filter (is_to_first k) xs ++ filter (is_to owners k) xs)) (sym joined) (IsPermutation-append_left (filter (is_to owners k) xs) _ _ (to_first xs k)))
    where
      parted : filter (is_to_first k) (filter (is_to_first (suc k)) xs) ++ filter (λ c. not (is_to_first k c)) (filter (is_to_first (suc k)) xs) ≡ filter (is_to_first k) xs ++ filter (is_to owners k) xs
      parted =
          ap₂ (λ a b. a ++ b) (filter_stronger (is_to_first k) (is_to_first (suc k)) (λ c e. first_more (slice_get owners c.to) k e) xs)
          (filter_both (λ c. not (is_to_first k c)) (is_to_first (suc k)) (is_to owners k) (λ c. last_of (slice_get owners c.to) k) xs)

      joined : flat_map (λ v. filter (is_to owners v) xs) (up_to (suc k)) ≡ flat_map (λ v. filter (is_to owners v) xs) (up_to k) ++ filter (is_to owners k) xs
      joined = flat_map-append (λ v. filter (is_to owners v) xs) (up_to k) (k ∷ []) ∙ ap (λ l. flat_map (λ v. filter (is_to owners v) xs) (up_to k) ++ l) (append-nil (filter (is_to owners k) xs))

  to_all : (workers : ℕ) (xs : List RadioCopy) → Each (λ copy. IsHad owners workers copy.to) xs → IsPermutation xs (flat_map (λ v. filter (is_to owners v) xs) (up_to workers))
  to_all workers xs had =
      subst (λ l. IsPermutation l (flat_map (λ v. filter (is_to owners v) xs) (up_to workers)))
      (filter_every (is_to_first workers) xs (every_weaker (λ (copy : RadioCopy). IsHad owners workers copy.to) (λ copy. is_to_first workers copy ≡ true) (λ copy h. is_first copy h) xs had))
      (to_first xs workers)
    where
      is_first : (copy : RadioCopy) → IsHad owners workers copy.to → is_to_first workers copy ≡ true
      is_first copy h = ap (λ o. option_map_or (λ w. ltb w workers) o false) h.1 ∙ lt-ltb h.0 workers h.2

module _ (n : NetModel) (fine : RunsForward (system_of n)) (owners : List ℕ) (end : ℕ) (group : WorkerGroup) (at : WorkersAreAt n owners (suc end) group) where
  abbrev workers : ℕ
  workers = length group.inboxes.items

  abbrev all : List RadioCopy
  all = coming (system_of n) fine (suc end) at.motes

  all_had : Each (λ copy. IsHad owners workers copy.to) all
  unfolding system_of
  all_had = every_filter (λ (copy : RadioCopy). IsHad owners workers copy.to) (λ (copy : RadioCopy). IsHad owners workers copy.to) _ (λ copy h e. h) _ (every_flat_map (λ (copy : RadioCopy). IsHad owners workers copy.to) (copies_by (system_of n) at.motes) (up_to (length n.motes)) (each (up_to (length n.motes))))
    where
      each : (ks : List ℕ) → Each (λ k. Each (λ (copy : RadioCopy). IsHad owners workers copy.to) (copies_by (system_of n) at.motes k)) ks
      each [] = tt
      each (k ∷ ks) = (
        every_weaker (λ (copy : RadioCopy). copy.to < length n.motes) (λ (copy : RadioCopy). IsHad owners workers copy.to) (λ copy h. some_worker (length n.motes) workers owners at.cut copy.to h) _ (receivers (system_of n) fine at.motes k),
        each ks,
      )

  with_worker : (v : ℕ) → v < workers → (share : Share) (taker : TakerView) → AreWith (get_or group.shares.items v share) (get_or group.takers.items v taker) (filter (is_to owners v) all)
  with_worker v h share taker =
      let s = get_or group.shares.items v share in
      let t = get_or group.takers.items v taker in
      let here = at.each v h share taker in
      let agenda = here.keeps.agenda in
      record {
        items = agenda.items;
        holds = agenda.holds;
        waiting = waiting n fine owners (suc end) at.motes at.led group.first_out at.first v s t here;
        gathered = gathered_is n fine owners (suc end) at.motes at.led group.first_out at.first v s t here;
        both = to_come_is n fine owners (suc end) at.motes at.led group.first_out at.first v s t here (packets agenda.items) agenda.copies;
      }

pub agenda_is_held : AgendaIsHeld
agenda_is_held n fine owners end group at net run = (
  λ v. filter (is_to owners v) (coming (system_of n) fine (suc end) at.motes),
  with_worker n fine owners end group at,
  IsPermutation-trans _ _ _ (agenda_is (system_of n) fine end at.motes at.led net run)
      (to_all owners (length group.inboxes.items) (coming (system_of n) fine (suc end) at.motes) (all_had n fine owners end group at)),
)

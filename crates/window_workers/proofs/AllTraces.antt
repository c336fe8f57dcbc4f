-- The results of the workers at the end, joined: the packets, the traces and the count of copies left.
use Rattle.std.proofs.Common.{◌≡◌, ◌⊎◌, ℕ, suc, ◌+◌, ◌<◌, ◌≤◌, ◌^◌, true, false, cond, eqb, ltb, List, [], ◌∷◌, length, map, get_or, refl, sym, ap, ◌∙◌, subst, inl, inr, arith, Some, Vec}
use Rattle.std.proofs.lemmas.Bool.{cases_Bool, eqb-true, ne_eqb, ltb-true, ltb-false}
use Rattle.std.proofs.lemmas.List.Sorted.{IsPermutation-sym}
use Rattle.std.specs.List.{filter, slice_get, sum_by, AllByRecursion as Each, AllZip}
use Rattle.std.specs.Option.{option_map_or}
use Rattle.std.specs.declared.alloc.Global.{Global}
use Rattle.copy_exchange.proofs.Counts.{IsHad, by_worker, total}
use Rattle.copy_exchange.proofs.CutWindows.{at_the_end, coming, receivers}
use Rattle.copy_exchange.specs.Crossed.{is_own, is_to}
use Rattle.copy_exchange.specs.Takers.{taken_by, gathered_by}
use Rattle.copy_inbox.specs.Handles.{TakerView}
use Rattle.mote_net.specs.Net.{NetModel}
use Rattle.mote_net.specs.Report.{trace_lines_in}
use Rattle.net_agenda.specs.NetSystem.{system_of}
use Rattle.radio_packet.specs.declared.copy.RadioCopy.{RadioCopy}
use Rattle.radio_packet.specs.declared.sent.Sent.{Sent}
use Rattle.trace_lines.specs.declared.line.Line.{Line}
use Rattle.window_laws.proofs.Lists.{every_append, every_both, every_filter, every_flat_map, every_passes, every_weaker}
use Rattle.window_laws.proofs.Order.{sorted_permutes}
use Rattle.window_laws.specs.Agenda.{up_to}
use Rattle.window_laws.specs.Forward.{RunsForward}
use Rattle.window_laws.specs.NetStep.{NetState, Run, Done, Turn, stamped, turned_at}
use Rattle.window_laws.specs.System.{System}
use Rattle.window_laws.specs.Windows.{is_sent_by, IsJoined, as_log, sends_by, copies_by}
use Rattle.window_workers.specs.Crossed.{Pair}
use Rattle.window_workers.specs.Over.{TellsWhatItKept, log_lines_of, logs_of, AreTracesOf}
use Rattle.window_workers.specs.WorkerGroup.{WorkersAreAt, IsWorkerAt}
use Rattle.window_workers.specs.declared.group.WorkerGroup.{WorkerGroup}
use Rattle.worker_window.specs.Log.{HaveFates, packets_in}
use Rattle.worker_window.specs.declared.share.EndedShare.{EndedShare}
use Rattle.worker_window.specs.declared.share.Share.{Share}
use Rattle.window_laws.specs.Report.{IsReport}
use Rattle.worker_window.specs.Ended.{TellsAtEnd}
use Rattle.window_workers.proofs.Lookups.{there, inside, read, beside, as_long, none_of, one_of}
use Rattle.window_workers.proofs.Step.{own_by, some_worker}
use Rattle.window_workers.proofs.Pairs.{beyond, each_permutes, same_found}
use Rattle.serial_run.proofs.Reports.{family}
use Rattle.window_workers.proofs.Sums.{two_sums}
use Rattle.window_workers.proofs.Left.{left_here}

-- a number past the last mote belongs to no worker
nobody : (owners : List ℕ) (s i : ℕ) → length owners ≤ s → is_own owners i s ≡ false
nobody owners s i h = ap (λ o. option_map_or (λ w. eqb w i) o false) (beyond owners s h)

-- a mote of one worker doesn't belong to another
not_mine : (owners : List ℕ) (s w i : ℕ) → slice_get owners s ≡ Some w → (i ≡ w → ⊥) → is_own owners i s ≡ false
not_mine owners s w i e ne = ap (λ o. option_map_or (λ w. eqb w i) o false) e ∙ ne_eqb w i (λ q. ne (sym q))

module _ (n : NetModel) (fine : RunsForward (system_of n)) (owners : List ℕ) (group : WorkerGroup) (at : WorkersAreAt n owners (suc n.end) group) (ended : List EndedShare) (ends : AllZip TellsWhatItKept group.shares.items ended) where
  abbrev workers : ℕ
  workers = length group.inboxes.items

  -- one worker at the end
  record Piece (v : ℕ) (one : EndedShare) : Type 0 where
    share : Share
    taker : TakerView
    taker_at : slice_get group.takers.items v ≡ Some taker
    here : IsWorkerAt n owners (suc n.end) at.motes group.first_out v share taker
    tells : TellsAtEnd n owners v (suc n.end) at.motes (taken_by taker) one

  pub ended_long : length ended ≡ workers
  ended_long = as_long TellsWhatItKept group.shares.items ended ends ∙ at.shares

  pub takers_long : length group.takers.items ≡ workers
  takers_long = as_long _ group.inboxes.items group.takers.items at.settled

  piece : (v : ℕ) (one : EndedShare) → slice_get ended v ≡ Some one → Piece v one
  piece v one e =
      let h : v < workers = subst (λ l. v < l) ended_long (inside ended v one e) in
      let s = there group.shares.items v (subst (λ l. v < l) (sym at.shares) h) in
      let t = there group.takers.items v (subst (λ l. v < l) (sym takers_long) h) in
      let o = beside TellsWhatItKept group.shares.items ended ends v s.0 s.1 in
      let is_here : IsWorkerAt n owners (suc n.end) at.motes group.first_out v s.0 t.0 =
      subst (λ x. IsWorkerAt n owners (suc n.end) at.motes group.first_out v x t.0) (read group.shares.items v s.0 s.0 s.1)
      (subst (λ x. IsWorkerAt n owners (suc n.end) at.motes group.first_out v (get_or group.shares.items v s.0) x) (read group.takers.items v t.0 t.0 t.1) (at.each v h s.0 t.0)) in
      record {
        share = s.0;
        taker = t.0;
        taker_at = t.1;
        here = is_here;
        tells = subst (TellsAtEnd n owners v (suc n.end) at.motes (taken_by t.0)) (same_found ended v o.0 one o.1 e) (o.2 n owners v (suc n.end) at.motes (taken_by t.0) is_here.keeps);
      }

  -- ---- packets
  pub is_joined : IsJoined (system_of n) at.motes (logs_of ended)
  unfolding system_of
  is_joined s = of_case (cases_Bool (ltb s (length n.motes)))
    where
      of_one : (i : ℕ) (x : EndedShare) → slice_get ended i ≡ Some x → filter (is_sent_by s) (packets_in x.log.items) ≡ cond (is_own owners i s) (at.motes s).sends []
      of_one i x e = (piece i x e).tells.log s

      foreign : (i : ℕ) (x : EndedShare) → slice_get ended i ≡ Some x → is_own owners i s ≡ false → filter (is_sent_by s) (packets_in x.log.items) ≡ []
      foreign i x e f = of_one i x e ∙ (rw f refl)

      of_case : (ltb s (length n.motes) ≡ true) ⊎ (ltb s (length n.motes) ≡ false) → filter (is_sent_by s) (logs_of ended) ≡ sends_by (system_of n) at.motes s
      of_case (inl t) =
          let w = some_worker (length n.motes) workers owners at.cut s (ltb-true s (length n.motes) t) in
          let o = there ended w.0 (subst (λ l. w.0 < l) (sym ended_long) w.2) in
          let mine = own_by owners w.0 s w.1 in
          rw t (
          one_of (is_sent_by s) (λ (x : EndedShare). packets_in x.log.items) ended w.0 o.0 o.1 (λ i x e ne. foreign i x e (not_mine owners s w.0 i w.1 ne))
          ∙ (of_one w.0 o.0 o.1 ∙ (rw mine refl)))
      of_case (inr t) = rw t (none_of (is_sent_by s) (λ (x : EndedShare). packets_in x.log.items) ended (λ i x e. foreign i x e (nobody owners s i (subst (λ l. l ≤ s) (sym at.cut.len) (ltb-false s (length n.motes) t)))))

  pub is_report : IsReport (system_of n) n.end (map (λ number. (at.motes number).lines) (up_to (system_of n).motes)) (as_log (logs_of ended)) (length (coming (system_of n) fine (suc n.end) at.motes))
  is_report = at_the_end (system_of n) fine n.end at.motes at.led (logs_of ended) is_joined

  pub all_fates : HaveFates n.radio (log_lines_of ended)
  all_fates = every_flat_map _ (λ (one : EndedShare). one.log.items) ended (each_from ended (λ v one e. (piece v one e).tells.fates))
    where
      each_from : (xs : List EndedShare) → ((i : ℕ) (x : EndedShare) → slice_get xs i ≡ Some x → HaveFates n.radio x.log.items) → Each (λ (one : EndedShare). HaveFates n.radio one.log.items) xs
      each_from [] h = tt
      each_from (x ∷ xs) h = (h 0 x refl, each_from xs (λ i y e. h (suc i) y e))

  -- ---- traces
  pub all_places : Each (λ (one : EndedShare). length one.traces.items ≡ length owners) ended
  all_places = each_from ended (λ v one e. (piece v one e).tells.traces_kept ∙ sym at.cut.len)
    where
      each_from : (xs : List EndedShare) → ((i : ℕ) (x : EndedShare) → slice_get xs i ≡ Some x → length x.traces.items ≡ length owners) → Each (λ (one : EndedShare). length one.traces.items ≡ length owners) xs
      each_from [] h = tt
      each_from (x ∷ xs) h = (h 0 x refl, each_from xs (λ i y e. h (suc i) y e))

  pub workers_there : Each (λ worker. worker < length ended) owners
  workers_there = subst (λ l. Each (λ worker. worker < l) owners) (sym ended_long) at.cut.there

  pub traces_are : (traces : List (Vec Line Global)) → AreTracesOf owners ended traces → map trace_lines_in traces ≡ map (λ number. (at.motes number).lines) (up_to (length n.motes))
  traces_are traces is = family trace_lines_in (λ number. (at.motes number).lines) traces each ∙ ap (λ k. map (λ number. (at.motes number).lines) (up_to k)) (is.count ∙ at.cut.len)
    where
      each : (k : ℕ) → k < length traces → (d : Vec Line Global) → trace_lines_in (get_or traces k d) ≡ (at.motes k).lines
      each k h d =
          let low : k < length owners = subst (λ l. k < l) is.count h in
          let w = some_worker (length n.motes) workers owners at.cut k (subst (λ l. k < l) at.cut.len low) in
          let o = there ended w.0 (subst (λ l. w.0 < l) (sym ended_long) w.2) in
          let its : get_or owners k 0 ≡ w.0 = read owners k w.0 0 w.1 in
          let matches : get_or ended w.0 o.0 ≡ o.0 = read ended w.0 o.0 o.0 o.1 in
          ap trace_lines_in (is.each k o.0 d low)
          ∙ (ap (λ v. trace_lines_in (get_or (get_or ended v o.0).traces.items k d)) its
          ∙ (ap (λ (x : EndedShare). trace_lines_in (get_or x.traces.items k d)) matches ∙ (piece w.0 o.0 o.1).tells.traces k (own_by owners w.0 k w.1) d))

  -- ---- copies
  all_had : Each (λ copy. IsHad owners workers copy.to) (coming (system_of n) fine (suc n.end) at.motes)
  unfolding system_of
  all_had = every_filter (λ (copy : RadioCopy). IsHad owners workers copy.to) (λ (copy : RadioCopy). IsHad owners workers copy.to) _ (λ copy h e. h) _ (every_flat_map (λ (copy : RadioCopy). IsHad owners workers copy.to) (copies_by (system_of n) at.motes) (up_to (length n.motes)) (each (up_to (length n.motes))))
    where
      each : (ks : List ℕ) → Each (λ k. Each (λ (copy : RadioCopy). IsHad owners workers copy.to) (copies_by (system_of n) at.motes k)) ks
      each [] = tt
      each (k ∷ ks) = (
        every_weaker (λ (copy : RadioCopy). copy.to < length n.motes) (λ (copy : RadioCopy). IsHad owners workers copy.to) (λ copy h. some_worker (length n.motes) workers owners at.cut copy.to h) _ (receivers (system_of n) fine at.motes k),
        each ks,
      )

  pub left_is : (left : ℕ) (pairs : List Pair) → length pairs ≡ workers → ((v : ℕ) (pair : Pair) → slice_get pairs v ≡ Some pair → slice_get group.takers.items v ≡ Some pair.1)
      → sum_by (λ (one : EndedShare). one.left) ended + sum_by (λ (pair : Pair). length (gathered_by pair.1)) pairs ≡ left + sum_by (λ (pair : Pair). length (taken_by pair.1)) pairs
      → left ≡ length (coming (system_of n) fine (suc n.end) at.motes)
  left_is left pairs long takers sums =
      let all = coming (system_of n) fine (suc n.end) at.motes in
      let matches = two_sums (λ (one : EndedShare). one.left) (λ (pair : Pair). length (gathered_by pair.1)) (λ (pair : Pair). length (taken_by pair.1)) (λ v. length (filter (is_to owners v) all)) ended pairs (long ∙ sym ended_long) each in
      let count : total (λ v. length (filter (is_to owners v) all)) (length ended) ≡ length all = ap (total (λ v. length (filter (is_to owners v) all))) ended_long ∙ by_worker owners workers all all_had in
      omega arith
    where
      each : (v : ℕ) (one : EndedShare) (pair : Pair) → slice_get ended v ≡ Some one → slice_get pairs v ≡ Some pair
          → one.left + length (gathered_by pair.1) ≡ length (filter (is_to owners v) (coming (system_of n) fine (suc n.end) at.motes)) + length (taken_by pair.1)
      each v one pair e f =
          let p = piece v one e in
          let same : p.taker ≡ pair.1 = same_found group.takers.items v p.taker pair.1 p.taker_at (takers v pair f) in
          subst (λ t. one.left + length (gathered_by t) ≡ length (filter (is_to owners v) (coming (system_of n) fine (suc n.end) at.motes)) + length (taken_by t)) same
          (left_here n fine owners (suc n.end) at.motes at.led group.first_out at.first v p.share p.taker p.here one.left p.tells.rest p.tells.left p.tells.rest_is)

-- In each trace of a net the moments never go back, and the packets of each mote are numbered in order.
use Rattle.std.proofs.Common.{◌≡◌, ℕ, ◌+◌, ◌<◌, ◌≤◌, true, false, eqb, List, [], ◌∷◌, ◌++◌, length, map, refl, sym, ap, ◌∙◌, subst, inl, inr, arith, zero-le, append-nil}
use Rattle.std.specs.List.{All, range_with_len, AllByRecursion}
use Rattle.std.proofs.lemmas.Bool.{cases_eq, eq-eqb, ne_eqb}
use Rattle.std.proofs.lemmas.List.{length-append, length-map}
use Rattle.std.proofs.lemmas.List.Elements.{All-nil, All-cons, All-append, All-weaker, filter-append}
use Rattle.trace_lines.specs.declared.line.Line.{Line}
use Rattle.radio_packet.specs.declared.sent.Sent.{Sent}
use Rattle.kernel_laws.specs.Stamps.{LinesBear, AreNumberedFrom}
use Rattle.kernel_laws.proofs.Stamps.{numbered_on}
use Rattle.mote_laws.specs.Stamps.{NeverGoBack}
use Rattle.mote_laws.proofs.Rising.{rises_empty, rises_level, rises_joined}
use Rattle.mote_laws.proofs.Stamps.{turns_stamp, new_is}
use Rattle.mote_node.specs.Turn.{Node}
use Rattle.mote_node.proofs.WakeLaws.{wakes_later}
use Rattle.radio_medium.proofs.Copies.{copies_later}
use Rattle.radio_faults.proofs.Forward.{sooner_is_later, with_later}
use Rattle.serial_run.proofs.EachTurn.{each_turn}
use Rattle.mote_net.specs.Net.{NetModel}
use Rattle.window_laws.specs.System.{Turned}
use Rattle.window_laws.specs.Forward.{IsLater}
use Rattle.window_laws.specs.Agenda.{Item, moment_of, mote_of, is_left, is_from, IsLeast, up_to}
use Rattle.net_agenda.specs.NetSystem.{system_of, first_node_in, mote_at}
use Rattle.mote_net.specs.Report.{ReportModel, Packet as OfReport}
use Rattle.serial_run.specs.FaultRun.{boots_line, net_with, node_again, packet_with}
use Rattle.window_laws.specs.NetStep.{NetState, Run, Done, Turn, boot, stamped, turned_at, turn_at}
use Rattle.serial_run.specs.Stamps.{TracesNeverGoBack, sent_by, LogCountsUp}
use Rattle.window_laws.proofs.Agenda.{due_has}
use Rattle.window_laws.proofs.Ahead.{no_sooner, turn_every}
use Rattle.window_laws.proofs.Lists.{every_filter, every_weaker}
use Rattle.window_laws.proofs.Puts.{put_each, put_other, put_same}
use Rattle.radio_faults.specs.declared.fault.Fault.{Fault}

-- no line of a trace is later than this moment, no event is pending before it, and the lines so far never go back
record Rises (at : ℕ) (net : NetState Node Line) : Type 0 where
  agenda : AllByRecursion (λ item. at ≤ moment_of item) net.agenda
  lines : (k : ℕ) → All (λ l. l.at ≤ at) (net.traces k)
  rise : (k : ℕ) → NeverGoBack (net.traces k)

module _ (faults : List Fault) (n : NetModel) where
  abbrev next : (t m : ℕ) (net : NetState Node Line) → Turned Node Line
  next t m net = turned_at (net_with faults n) t m net

  lines_bear : (t m : ℕ) (net : NetState Node Line) → LinesBear t (next t m net).lines
  lines_bear t m net = each_turn faults n t m net (λ (turned : Turned Node Line). LinesBear t turned.lines)
      (λ wake later. All-nil (λ (l : Line). l.at ≡ t))
      (λ wake later. (turns_stamp t _ (net.states m)).lines)
      (λ wake later e. All-cons (λ (l : Line). l.at ≡ t) (boots_line t) _ refl (turns_stamp t _ (node_again (first_node_in n m) (net.states m))).lines)

  wake_is_later : (t m : ℕ) (net : NetState Node Line) → IsLater t (next t m net).wake
  wake_is_later t m net = each_turn faults n t m net (λ (turned : Turned Node Line). IsLater t turned.wake)
      (λ wake later. later)
      (λ wake later. sooner_is_later t _ wake (wakes_later t _ (net.states m)) later)
      (λ wake later e. sooner_is_later t _ wake (wakes_later t _ (node_again (first_node_in n m) (net.states m))) later)

  copies_are_later : (sent : Sent) → AllByRecursion (λ copy. sent.at ≤ copy.at) ((net_with faults n).copies sent)
  unfolding system_of
  copies_are_later sent =
      with_later (λ copy. sent.at ≤ copy.at) (λ copy le at more. omega arith) faults _ (every_weaker _ (λ copy. sent.at ≤ copy.at) (λ copy h. let k = h.later 0 in omega arith) _ (copies_later n.radio sent))

  agenda_later : (t m : ℕ) (net : NetState Node Line) → AllByRecursion (λ item. is_from t m item ≡ true) net.agenda → AllByRecursion (λ item. t ≤ moment_of item) (turn_at (net_with faults n) t m net).agenda
  agenda_later t m net first =
      turn_every (net_with faults n) (λ item. t ≤ moment_of item) t m net
      (every_filter _ _ (is_left t m) (λ item h e. no_sooner t m (moment_of item) (mote_of item) h) net.agenda first)
      (λ u e. let later : t < u = subst (IsLater t) e (wake_is_later t m net) in omega arith)
      (λ s. copies_are_later (stamped t m s))

  turn_rises : (at t m : ℕ) (net : NetState Node Line) → IsLeast t m net.agenda → Rises at net → Rises t (turn_at (net_with faults n) t m net)
  turn_rises at t m net least r = record { agenda = agenda_later t m net least.is_first; lines = λ k. (at_mote k).0; rise = λ k. (at_mote k).1 }
    where
      rises : at ≤ t
      rises = due_has (λ u k. at ≤ u) t m net.agenda least.is_there r.agenda

      before : (k : ℕ) → All (λ l. l.at ≤ t) (net.traces k)
      before k = All-weaker (λ l. l.at ≤ at) (λ l. l.at ≤ t) (λ l h. let le = rises in omega arith) (net.traces k) (r.lines k)

      more : List Line
      more = (next t m net).lines

      at_mote : (k : ℕ) → All (λ l. l.at ≤ t) ((turn_at (net_with faults n) t m net).traces k) × NeverGoBack ((turn_at (net_with faults n) t m net).traces k)
      at_mote =
          put_each (λ k (l : List Line). All (λ (x : Line). x.at ≤ t) l × NeverGoBack l) net.traces m (net.traces m ++ more) (
            All-append (λ l. l.at ≤ t) (net.traces m) more (before m) (All-weaker (λ l. l.at ≡ t) (λ l. l.at ≤ t) (λ l q. omega arith) more (lines_bear t m net)),
            rises_joined (λ l. l.at) t (net.traces m) more (r.rise m) (before m) (rises_level (λ l. l.at) t more (lines_bear t m net)) (All-weaker (λ l. l.at ≡ t) (λ l. t ≤ l.at) (λ l q. omega arith) more (lines_bear t m net)),
          ) (λ k ne. (before k, r.rise k))

  run_rises : {net last : NetState Node Line} → Run (net_with faults n) n.end net last → (at : ℕ) → Rises at net → (k : ℕ) → NeverGoBack (last.traces k)
  run_rises (Done h) at r = r.rise
  run_rises {net} (Turn t m least le more) at r = run_rises more t (turn_rises at t m net least r)

  boot_rises : Rises 0 (boot (net_with faults n))
  boot_rises = record { agenda = any_later (boot (net_with faults n)).agenda; lines = λ k. All-nil (λ (l : Line). l.at ≤ 0); rise = λ k. rises_empty (λ (l : Line). l.at) }
    where
      any_later : (items : List Item) → AllByRecursion (λ item. 0 ≤ moment_of item) items
      any_later [] = tt
      any_later (item ∷ items) = (zero-le, any_later items)

all_traces : (P : List Line → Type 0) (traces : ℕ → List Line) (ks : List ℕ) → ((k : ℕ) → P (traces k)) → All P (map traces ks)
all_traces P traces [] h = All-nil P
all_traces P traces (k ∷ ks) h = All-cons P (traces k) (map traces ks) (h k) (all_traces P traces ks h)

pub traces_never_go_back : TracesNeverGoBack
traces_never_go_back faults n r report =
    rw (report.matches) (all_traces NeverGoBack report.last.traces (up_to (length n.motes)) (run_rises faults n report.run 0 (boot_rises faults n)))

-- the packets

-- the packets of each mote so far are numbered in order, and the mote has counted them
record Counts (net : NetState Node Line) (k : ℕ) : Type 0 where
  numbered : AreNumberedFrom 0 (sent_by k net.log)
  counted : (net.states k).mote.state.sent ≡ length (sent_by k net.log)

own_sends : (t m : ℕ) (sends : List Sent) → sent_by m (map (stamped t m) sends) ≡ map (stamped t m) sends
own_sends t m [] = refl
own_sends t m (s ∷ sends) = let f : eqb m m ≡ true = eq-eqb m m refl in rw f (ap (λ l. stamped t m s ∷ l) (own_sends t m sends))

other_sends : (t m k : ℕ) (sends : List Sent) → (k ≡ m → ⊥) → sent_by k (map (stamped t m) sends) ≡ []
other_sends t m k [] ne = refl
other_sends t m k (s ∷ sends) ne = let f : eqb m k ≡ false = ne_eqb m k (λ e. ne (sym e)) in rw f (other_sends t m k sends ne)

same_numbers : (t m : ℕ) (sends : List Sent) → map (λ (x : Sent). x.number) (map (stamped t m) sends) ≡ map (λ (x : Sent). x.number) sends
same_numbers t m [] = refl
same_numbers t m (s ∷ sends) = ap (λ l. s.number ∷ l) (same_numbers t m sends)

stamped_numbered : (t m first : ℕ) (sends : List Sent) → AreNumberedFrom first sends → AreNumberedFrom first (map (stamped t m) sends)
stamped_numbered t m first sends h = same_numbers t m sends ∙ (h ∙ ap (range_with_len first) (sym (length-map sends (stamped t m))))

abbrev sent_of : Node → ℕ
sent_of node = node.mote.state.sent

module _ (faults : List Fault) (n : NetModel) where
  sends_numbered : (t m : ℕ) (net : NetState Node Line) → AreNumberedFrom (sent_of (net.states m)) (turned_at (net_with faults n) t m net).sends
  sends_numbered t m net = each_turn faults n t m net (λ (turned : Turned Node Line). AreNumberedFrom (sent_of (net.states m)) turned.sends)
      (λ wake later. refl)
      (λ wake later. (turns_stamp t _ (net.states m)).numbered)
      (λ wake later e. (turns_stamp t _ (node_again (first_node_in n m) (net.states m))).numbered)

  sends_counted : (t m : ℕ) (net : NetState Node Line) → sent_of (turned_at (net_with faults n) t m net).state ≡ sent_of (net.states m) + length (turned_at (net_with faults n) t m net).sends
  sends_counted t m net = each_turn faults n t m net (λ (turned : Turned Node Line). sent_of turned.state ≡ sent_of (net.states m) + length turned.sends)
      (λ wake later. omega arith)
      (λ wake later. (turns_stamp t _ (net.states m)).counted)
      (λ wake later e. (turns_stamp t _ (node_again (first_node_in n m) (net.states m))).counted)

  own_counts : (t m : ℕ) (net : NetState Node Line) → Counts net m → Counts (turn_at (net_with faults n) t m net) m
  own_counts t m net c =
      let x = turned_at (net_with faults n) t m net in
      let a = sent_by m net.log in
      let b = map (stamped t m) x.sends in
      let split : sent_by m (net.log ++ b) ≡ a ++ b = filter-append (λ (s : Sent). eqb s.sender m) net.log b ∙ ap (λ l. a ++ l) (own_sends t m x.sends) in
      let on : sent_of (net.states m) ≡ 0 + length a = c.counted ∙ omega arith in
      record {
        numbered = subst (AreNumberedFrom 0) (sym split) (numbered_on 0 a b c.numbered (subst (λ j. AreNumberedFrom j b) on (stamped_numbered t m (sent_of (net.states m)) x.sends (sends_numbered t m net))));
        counted = ap sent_of (put_same net.states m x.state) ∙ (sends_counted t m net ∙ lengths (sent_of (net.states m)) (length x.sends) (length a) (length b) (length (a ++ b)) c.counted (length-map x.sends (stamped t m)) (length-append a b) ∙ ap length (sym split));
      }
    where
      lengths : (sent new a b ab : ℕ) → sent ≡ a → b ≡ new → ab ≡ a + b → sent + new ≡ ab
      lengths sent new a b ab e f g = omega arith

  other_counts : (t m : ℕ) (net : NetState Node Line) (k : ℕ) → (k ≡ m → ⊥) → Counts net k → Counts (turn_at (net_with faults n) t m net) k
  other_counts t m net k ne c =
      let x = turned_at (net_with faults n) t m net in
      let b = map (stamped t m) x.sends in
      let same : sent_by k (net.log ++ b) ≡ sent_by k net.log = filter-append (λ (s : Sent). eqb s.sender k) net.log b ∙ (ap (λ l. sent_by k net.log ++ l) (other_sends t m k x.sends ne) ∙ append-nil (sent_by k net.log)) in
      record {
        numbered = subst (AreNumberedFrom 0) (sym same) c.numbered;
        counted = ap sent_of (put_other net.states m x.state k ne) ∙ (c.counted ∙ ap length (sym same));
      }

  turn_counts : (t m : ℕ) (net : NetState Node Line) → ((k : ℕ) → Counts net k) → (k : ℕ) → Counts (turn_at (net_with faults n) t m net) k
  turn_counts t m net c k = elim (cases_eq k m) [
    | inl e ↦ subst (Counts (turn_at (net_with faults n) t m net)) (sym e) (own_counts t m net (c m))
    | inr ne ↦ other_counts t m net k ne (c k)
  ]

  run_counts : {net last : NetState Node Line} → Run (net_with faults n) n.end net last → ((k : ℕ) → Counts net k) → (k : ℕ) → Counts last k
  run_counts (Done h) c = c
  run_counts {net} (Turn t m least le more) c = run_counts more (turn_counts t m net c)

  boot_counts : (k : ℕ) → Counts (boot (net_with faults n)) k
  unfolding system_of
  boot_counts k = let m = mote_at n.motes k in record { numbered = refl; counted = (new_is m.tree k m.queue).1 }

pub sent_packets : (faults : List Fault) (n : NetModel) (log : List Sent) → map (λ (p : OfReport). p.sent) (map (packet_with faults n.radio) log) ≡ log
sent_packets faults n [] = refl
sent_packets faults n (s ∷ log) = ap (λ l. s ∷ l) (sent_packets faults n log)

-- the log of a run, without its traces
pub run_counts_up : (faults : List Fault) (n : NetModel) {last : NetState Node Line} → Run (net_with faults n) n.end (boot (net_with faults n)) last → (mote : ℕ) → AreNumberedFrom 0 (sent_by mote last.log)
run_counts_up faults n run mote = (run_counts faults n run (boot_counts faults n) mote).numbered

pub log_counts_up : LogCountsUp
log_counts_up faults n r report mote =
    let last = report.last in
    let is : map (λ (p : OfReport). p.sent) r.log ≡ last.log = ap (λ (x : ReportModel). map (λ (p : OfReport). p.sent) x.log) report.matches ∙ sent_packets faults n last.log in
    subst (λ l. AreNumberedFrom 0 (sent_by mote l)) (sym is) (run_counts_up faults n report.run mote)

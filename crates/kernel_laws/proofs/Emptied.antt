-- A kernel run in which a poll of the radio process waits leaves no packet in the ring.
use Rattle.std.proofs.Common.{ℕ, suc, ◌≡◌, ◌+◌, ◌-◌, ◌==◌, ◌||◌, inl, inr, Bool, true, false, if◌then◌else◌, List, [], Option, refl, sym, ◌∙◌, subst, arith}
use Rattle.std.proofs.lemmas.List.Elements.{All-head, All-tail}
use Rattle.program_tree.specs.declared.event.Proc.TheVariants.{Radio}
use Rattle.program_tree.specs.declared.event.SystemEvent.TheVariants.{Poll, Exit}
use Rattle.protothread.specs.declared.answer.PtState.TheVariants.{Yielded}
use Rattle.process_kernel.specs.declared.process.ProcessState.TheVariants.{Called}
use Rattle.radio_packet.specs.declared.arrival.Arrival.{Arrival}
use Rattle.trace_lines.specs.declared.line.Line.{Line}
use Rattle.radio_packet.specs.declared.sent.Sent.{Sent}
use Rattle.process_kernel.specs.declared.kernel.Ran.TheVariants as ran
use Rattle.process_kernel.specs.State.{KernelState, Outcome, Went, Ends, Goes, ◌>>=◌, Calls, spend_of}
use Rattle.process_kernel.specs.ProcessList.{is_running, process_needs_poll, process_state, with_state, with_needs_poll}
use Rattle.process_kernel.specs.Posts.{own_event, is_system_event}
use Rattle.process_kernel.specs.Radio.{radio_process}
use Rattle.process_kernel.specs.Thread.{react_of, has_ended}
use Rattle.process_kernel.specs.Process.{answered, call_process, walk_polls, process_run}
use Rattle.process_kernel.specs.Operations.{calls_of}
use Rattle.process_kernel.specs.KernelModel.{begun_of, most_units, KernelModel, given, begun, run_given}
use Rattle.kernel_laws.specs.Own.{IsOwnProcess}
use Rattle.kernel_laws.specs.Going.{IsNote}
use Rattle.kernel_laws.specs.Poll.{PollWaits, members_before}
use Rattle.kernel_laws.specs.Due.{IsAtRest}
use Rattle.kernel_laws.specs.Ring.{RingRuns, NoneMore, Receives, Loses, Hands, Passes, RingGoes, RingHalts, RunEmptiesRing}
use Rattle.kernel_laws.proofs.InStep as tables
use Rattle.kernel_laws.proofs.Packets.{IfGoes, Empties, ring_empties}
use Rattle.kernel_laws.proofs.EachStep.{Every, Whatever, AnyProcess, Lead, AreLed, calls_led, polls_led, front_led}
use Rattle.kernel_laws.proofs.Ring as ring
use Rattle.kernel_laws.proofs.Ring.{HearsNone, run_tells_packets}
use Rattle.kernel_laws.proofs.Watch.{Watches, chain, steps}
use Rattle.kernel_laws.proofs.PollTurns.{splits, walk_splits, turn_calls, before_led, polls_are}
use Rattle.kernel_laws.proofs.Passes.{spent}
use Rattle.kernel_laws.proofs.WatchedRuns.{IsInState, unrequested, runs_now}
use Rattle.kernel_laws.proofs.Due.{through, begun_in_state}

-- if no packet arrives, an empty ring stays empty

pub empty_stays : (receiver : Option ℕ) (packets left : List Arrival) (lines : List Line) → packets ≡ [] → RingRuns receiver packets lines left → HearsNone lines → left ≡ []
empty_stays receiver packets left lines e NoneMore h = e
empty_stays receiver packets left lines e (Receives {lines = more} a room r) h = absurd (All-head (λ l. IsNote l.what → ⊥) _ more h tt)
empty_stays receiver packets left lines e (Loses {lines = more} none r) h = absurd (All-head (λ l. IsNote l.what → ⊥) _ more h tt)
empty_stays receiver packets left lines e (Hands tells r) h = absurd (cc)
empty_stays receiver packets left lines e (Passes {lines = more} apart r) h = empty_stays receiver packets left more e r (All-tail (λ l. IsNote l.what → ⊥) _ more h)

empty_by : (A : Type 0) (s t : KernelState) (a : A) (o : Outcome A) → o ≡ Goes a t → Lead RingGoes RingHalts A s o → s.ring ≡ [] → t.ring ≡ []
empty_by A s t a o e k none =
    let h : Lead RingGoes RingHalts A s (Goes a t) = subst (λ (x : Outcome A). Lead RingGoes RingHalts A s x) e k in empty_stays s.program.receiver s.ring t.ring h.leads.added none h.leads.runs h.leads.hears_none

-- a call that polls the radio process

emptied_by : (s : KernelState) (o : Went) → IfGoes (Empties s.program.receiver s.ring s) o → IfGoes (λ t. t.ring ≡ []) o
emptied_by s (Ends t) h = tt
emptied_by s (Goes a t) h = h.empty

radio_empties : (s : KernelState) → IfGoes (λ t. t.ring ≡ []) (radio_process s (own_event Poll 0))
unfolding radio_process
radio_empties s = emptied_by s _ (ring_empties s.program.receiver s.ring s refl)

answers_empty : (calls : Calls) (o : Went) → IfGoes (λ t. t.ring ≡ []) o → IfGoes (λ t. t.ring ≡ []) ((o >>= λ _ s1. Goes Yielded s1) >>= λ answer s2. answered calls s2 Radio (has_ended answer || is_system_event Exit (own_event Poll 0)))
unfolding answered with_state
answers_empty calls (Ends t) h = tt
answers_empty calls (Goes a t) h = h

call_empties : (calls : Calls) (s : KernelState) → is_running s Radio ≡ true → IfGoes (λ t. t.ring ≡ []) (call_process calls s Radio (own_event Poll 0))
unfolding call_process spend_of react_of
call_empties calls s running = rw running (by (s.units == 0))
  where
    by : (b : Bool) → IfGoes (λ t. t.ring ≡ []) (spent s b >>= λ _ s1. react_of calls (with_state s1 Radio Called) Radio (own_event Poll 0) >>= λ answer s2. answered calls s2 Radio (has_ended answer || is_system_event Exit (own_event Poll 0)))
    by true = tt
    by false = let t = with_state (record s { units = s.units - 1 }) Radio Called in answers_empty calls (radio_process t (own_event Poll 0)) (radio_empties t)

-- the properties of the calls that nest one less deep
record AreHeard (calls : Calls) : Type 0 where
  led : AreLed (Watches Radio) Whatever (chain Radio) IsOwnProcess Every calls
  kept : tables.AreKept calls
  rings : AreLed RingGoes RingHalts ring.chain AnyProcess Every calls
  empties : (s : KernelState) → is_running s Radio ≡ true → IfGoes (λ t. t.ring ≡ []) (calls.call s Radio (own_event Poll 0))

are_heard : (k : ℕ) → AreHeard (calls_of (suc k))
unfolding calls_of
are_heard k = record {
  led = calls_led (Watches Radio) Whatever (chain Radio) IsOwnProcess (steps Radio) (suc k);
  kept = tables.calls_kept (suc k);
  rings = calls_led RingGoes RingHalts ring.chain AnyProcess ring.steps (suc k);
  empties = call_empties (calls_of k);
}

all_heard : AreHeard (calls_of (most_units + 1))
all_heard = subst (λ n. AreHeard (calls_of n)) (omega arith) (are_heard most_units)

-- a kernel run

module _ (calls : Calls) (are : AreHeard calls) where
  comes : (s u : KernelState) → walk_polls calls (members_before Radio s.members) s ≡ Goes tt u → Watches Radio s u
  comes s u e = let h : Lead (Watches Radio) Whatever (Unit {0}) s (Goes tt u) = subst (λ (o : Went). Lead (Watches Radio) Whatever (Unit {0}) s o) e (before_led Radio calls are.led s.members s) in h.leads

  kept : (s u : KernelState) → walk_polls calls (members_before Radio s.members) s ≡ Goes tt u → IsInState true s → tables.Keeps s u
  kept s u e h = let k : tables.Kept (Unit {0}) s (Goes tt u) = subst (λ (o : Went). tables.Kept (Unit {0}) s o) e (tables.polls_kept calls are.kept (members_before Radio s.members) s) in k.leads.kept h.step

  cleared_runs : (u : KernelState) → is_running u Radio ≡ true → is_running (with_needs_poll u Radio false) Radio ≡ true
  unfolding with_needs_poll
  cleared_runs u h = h

  polled : (s t : KernelState) → IsInState true s → process_needs_poll s Radio ≡ true → walk_polls calls s.members s ≡ Goes tt t → t.ring ≡ []
  polled s t h needs_poll goes =
      let q = h.radio refl in
      let k = splits Radio s.members q.listed in
      let a = through _ _ _ _ _ _ (sym (walk_splits Radio calls s.members k.member k.after s k.split) ∙ goes) in
      let b = through _ _ _ _ _ _ a.second in
      let u = a.midst in
      let w = comes s u a.first in
      let i = kept s u a.first h in
      let call = sym (turn_calls Radio calls u k.member k.is_it (w.radio.there k.member k.is_it k.holds) (w.needs_poll needs_poll)) ∙ b.first in
      let running = cleared_runs u (runs_now (process_state u Radio) (w.radio.can q.can).alive (i.busy.called 2 ∙ h.idle.called 2)) in
      let none : b.midst.ring ≡ [] = subst (IfGoes (λ v. v.ring ≡ [])) call (are.empties (with_needs_poll u Radio false) running) in
      empty_by _ b.midst t tt _ b.second (polls_led RingGoes RingHalts ring.chain calls ring.run_steps.unrequested ring.run_steps.cleared (λ v q. are.rings.call v q _ (λ x. tt)) k.after b.midst) none

  run_emptied : (s t : KernelState) (n : ℕ) → IsInState true s → PollWaits Radio s → process_run calls s ≡ Goes n t → t.ring ≡ []
  unfolding process_run
  run_emptied s t n h w goes =
      let a = through _ _ _ _ _ _ goes in
      let b = through _ _ _ _ _ _ a.second in
      let none = polled (record s { poll_requested = false }) a.midst (unrequested true s h) w.needs_poll (sym (polls_are calls s w.poll_requested) ∙ a.first) in
      let last : b.midst.ring ≡ t.ring = cc in
      sym last ∙ empty_by _ a.midst b.midst tt _ b.first (front_led RingGoes RingHalts ring.chain calls ring.run_steps (λ v q e. are.rings.call v q e (λ x. tt)) a.midst.queue.events a.midst) none

given_emptied : (moment : ℕ) (m : KernelModel) (lines : List Line) (sends : List Sent) (o : Outcome ℕ) → IsAtRest m.state → PollWaits Radio m.state → process_run (calls_of (most_units + 1)) (begun m moment lines sends) ≡ o → (given o).mote.halted ≡ false → (given o).mote.state.ring ≡ []
unfolding begun_of
given_emptied moment m lines sends (Ends t) rest w e h = absurd (cc)
given_emptied moment m lines sends (Goes n t) rest w e h =
    run_emptied (calls_of (most_units + 1)) all_heard (begun m moment lines sends) t n (begun_in_state m moment lines sends rest) (record { needs_poll = w.needs_poll; poll_requested = w.poll_requested }) e

polled_emptied : (moment : ℕ) (m : KernelModel) (lines : List Line) (sends : List Sent) → m.halted ≡ false → IsAtRest m.state → PollWaits Radio m.state → let g = run_given moment m lines sends in g.mote.halted ≡ false → g.mote.state.ring ≡ []
unfolding run_given
polled_emptied moment m lines sends running rest w = rw running (λ h. given_emptied moment m lines sends _ rest w refl h)

still_running : (moment : ℕ) (m : KernelModel) (lines : List Line) (sends : List Sent) → (run_given moment m lines sends).mote.halted ≡ false → m.halted ≡ false
unfolding run_given
still_running moment m lines sends = by m.halted refl
  where
    by : (b : Bool) → m.halted ≡ b → (if b then record { ran = ran.Halted; mote = m; lines = lines; sends = sends } else given (process_run (calls_of (most_units + 1)) (begun m moment lines sends))).mote.halted ≡ false → m.halted ≡ false
    by true e h = h
    by false e h = e

pub run_empties_ring : RunEmptiesRing
run_empties_ring moment m lines sends rest (inl none) h =
    let k = run_tells_packets moment m lines sends in k.holds h ∙ empty_stays m.state.program.receiver m.state.ring k.left k.added none k.runs k.hears_none
run_empties_ring moment m lines sends rest (inr w) h = polled_emptied moment m lines sends (still_running moment m lines sends h) rest w h

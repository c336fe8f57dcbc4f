-- Each small step of the kernel leaves the ring unchanged, except for the radio's poll, which writes a line for each
-- packet in the ring.
use Rattle.std.proofs.Common.{ℕ, ◌≡◌, ◌+◌, List, [], ◌∷◌, ◌++◌, Option, Some, None, refl, sym, ap, ◌∙◌, subst, append-nil}
use Rattle.program_tree.specs.declared.event.Proc.{Proc}
use Rattle.program_tree.specs.declared.event.Proc.TheVariants.{Own, Etimer}
use Rattle.mote_timers.specs.TimerLists.{TimerLists}
use Rattle.radio_packet.specs.declared.arrival.Arrival.{Arrival}
use Rattle.trace_lines.specs.declared.line.Line.{Line}
use Rattle.radio_packet.specs.declared.sent.Sent.{Sent}
use Rattle.trace_lines.specs.declared.line.What.{What}
use Rattle.trace_lines.specs.declared.line.What.TheVariants as what
use Rattle.process_kernel.specs.State.{KernelState, Outcome, Ends, Goes, with_line, halted_of}
use Rattle.process_kernel.specs.ProcessList.{with_state, with_exiting, with_needs_poll, put_remainder, exiting_of, unlisted_of}
use Rattle.process_kernel.specs.Posts.{process_poll}
use Rattle.process_kernel.specs.Etimer.{add_timer}
use Rattle.process_kernel.specs.KernelModel.{begun_of, most_units, KernelModel, given, begun, unless_halted, boot_given, run_given}
use Rattle.std.specs.List.{All}
use Rattle.std.proofs.lemmas.List.Elements.{All-nil, All-cons, All-append}
use Rattle.kernel_laws.specs.Going.{IsNote}
use Rattle.kernel_laws.specs.Polled.{Accepted, Refused, TellsPacket}
use Rattle.kernel_laws.specs.Ring.{IsApart, RingRuns, NoneMore, Receives, Loses, Hands, Passes, RingGoes, RingHalts, RingLeads, GivesPackets, CallsTellPackets, BootTellsPackets, RunTellsPackets}
use Rattle.kernel_laws.proofs.Steps.{lines_joined}
use Rattle.kernel_laws.proofs.EachStep.{Every, AnyProcess, Lead, AreJoined, AreSteps, AreRunSteps, keeps_poll, keeps_set, brackets_of, calls_led, runs_led, boots_led, unless_halts}

pub ring_runs_on : (receiver : Option ℕ) (a b c : List Arrival) (xs ys : List Line) → RingRuns receiver a xs b → RingRuns receiver b ys c → RingRuns receiver a (xs ++ ys) c
ring_runs_on receiver a b c xs ys NoneMore r = r
ring_runs_on receiver a b c xs ys (Receives a1 room l) r = Receives a1 room (ring_runs_on receiver _ b c _ ys l r)
ring_runs_on receiver a b c xs ys (Loses none l) r = Loses none (ring_runs_on receiver a b c _ ys l r)
ring_runs_on receiver a b c xs ys (Hands tells l) r = Hands tells (ring_runs_on receiver _ b c _ ys l r)
ring_runs_on receiver a b c xs ys (Passes apart l) r = Passes apart (ring_runs_on receiver a b c _ ys l r)

-- lines that are not about arriving packets

abbrev pub HearsNone : List Line → Type 0
HearsNone lines = All (λ l. IsNote l.what → ⊥) lines

none_heard : HearsNone []
none_heard = All-nil (λ l. IsNote l.what → ⊥)

one_unheard : (moment : ℕ) (w : What) → (IsNote w → ⊥) → HearsNone (record { at = moment; what = w } ∷ [])
one_unheard moment w n = All-cons (λ l. IsNote l.what → ⊥) (record { at = moment; what = w }) [] n none_heard

both_unheard : (xs ys : List Line) → HearsNone xs → HearsNone ys → HearsNone (xs ++ ys)
both_unheard xs ys h i = All-append (λ l. IsNote l.what → ⊥) xs ys h i

ring_same : (s : KernelState) → RingGoes s s
ring_same s = record { added = []; wrote = sym (append-nil s.lines); runs = NoneMore; hears_none = none_heard; program = refl }

ring_joined : (a b c : KernelState) → RingGoes a b → RingGoes b c → RingGoes a c
ring_joined a b c h i = record {
  added = h.added ++ i.added;
  wrote = lines_joined a.lines b.lines c.lines h.added i.added h.wrote i.wrote;
  runs = ring_runs_on a.program.receiver a.ring b.ring c.ring h.added i.added h.runs (subst (λ p. RingRuns p.receiver b.ring i.added c.ring) h.program i.runs);
  hears_none = both_unheard h.added i.added h.hears_none i.hears_none;
  program = i.program ∙ h.program;
}

ring_ended : (a b c : KernelState) → RingGoes a b → RingHalts b c → RingHalts a c
ring_ended a b c h i = record {
  added = h.added ++ i.added;
  wrote = lines_joined a.lines b.lines c.lines h.added i.added h.wrote i.wrote;
  left = i.left;
  runs = ring_runs_on a.program.receiver a.ring b.ring i.left h.added i.added h.runs (subst (λ p. RingRuns p.receiver b.ring i.added i.left) h.program i.runs);
  hears_none = both_unheard h.added i.added h.hears_none i.hears_none;
  program = i.program ∙ h.program;
}

pub chain : AreJoined RingGoes RingHalts
chain = record { same = ring_same; joined = ring_joined; ended = ring_ended }

-- no line is written, and the ring is unchanged
record IsStill (s t : KernelState) : Type 0 where
  lines : t.lines ≡ s.lines
  ring : t.ring ≡ s.ring
  program : t.program ≡ s.program

goes_still : (s t : KernelState) → IsStill s t → RingGoes s t
goes_still s t q = record {
  added = [];
  wrote = q.lines ∙ sym (append-nil s.lines);
  runs = subst (λ r. RingRuns s.program.receiver s.ring [] r) (sym q.ring) NoneMore;
  hears_none = none_heard;
  program = q.program;
}

-- a line that is not about a packet
goes_apart : (s u : KernelState) (w : What) → IsStill s u → IsApart w → (IsNote w → ⊥) → RingGoes s (with_line u w)
goes_apart s u w q apart n = record {
  added = record { at = u.moment; what = w } ∷ [];
  wrote = ap (λ l. l ++ record { at = u.moment; what = w } ∷ []) q.lines;
  runs = Passes apart (subst (λ r. RingRuns s.program.receiver s.ring [] r) (sym q.ring) NoneMore);
  hears_none = one_unheard u.moment w n;
  program = q.program;
}

line_apart : (s : KernelState) (w : What) → IsApart w → (IsNote w → ⊥) → RingGoes s (with_line s w)
line_apart s w apart n = goes_apart s s w (record { lines = refl; ring = refl; program = refl }) apart n

-- a halt leaves the waiting packets without a line
halts_from : (s u : KernelState) → u.lines ≡ s.lines → u.program ≡ s.program → RingHalts s (halted_of u)
unfolding halted_of
halts_from s u lines program = record {
  added = record { at = u.moment; what = what.Halt } ∷ [];
  wrote = ap (λ l. l ++ record { at = u.moment; what = what.Halt } ∷ []) lines;
  left = s.ring;
  runs = Passes tt NoneMore;
  hears_none = one_unheard u.moment what.Halt (λ h. h);
  program = program;
}

polls_still : (s : KernelState) (p : Proc) → RingGoes s (process_poll s p)
unfolding with_needs_poll
polls_still s p = keeps_poll RingGoes RingHalts chain s p (goes_still s _ (record { lines = refl; ring = refl; program = refl }))

sets_still : (s : KernelState) (timers : TimerLists) (timer : ℕ) → RingGoes s (add_timer (record s { timers = timers }) timer)
sets_still s timers timer = keeps_set RingGoes RingHalts chain s timers timer (λ callbacks. goes_still s _ (record { lines = refl; ring = refl; program = refl })) (λ t. polls_still t Etimer)

-- the radio's poll

-- the packet in front leaves the ring, and its line is written
hands_front : (receiver : Option ℕ) (a : Arrival) (later : List Arrival) (s u : KernelState) (w : What) → s.ring ≡ a ∷ later → s.program.receiver ≡ receiver → u.lines ≡ s.lines → u.ring ≡ later → u.program ≡ s.program → TellsPacket receiver a w → (IsNote w → ⊥) → RingGoes s (with_line u w)
hands_front receiver a later s u w ring r lines rest program tells n = record {
  added = record { at = u.moment; what = w } ∷ [];
  wrote = ap (λ l. l ++ record { at = u.moment; what = w } ∷ []) lines;
  runs = rw (ring, r, rest) (Hands tells NoneMore);
  hears_none = one_unheard u.moment w n;
  program = program;
}

-- the ring changes along the lines of each small step, whichever process is exited

pub steps : AreSteps RingGoes RingHalts chain AnyProcess Every
unfolding put_remainder with_state exiting_of with_exiting unlisted_of
steps = record {
  own = λ p own. tt;
  brackets = brackets_of RingGoes RingHalts chain AnyProcess Every
      (λ s p o. goes_still s _ (record { lines = refl; ring = refl; program = refl })) (λ s p o. goes_still s _ (record { lines = refl; ring = refl; program = refl }))
      (λ s p o l. goes_still s _ (record { lines = refl; ring = refl; program = refl })) (λ s p o l. goes_apart s _ (what.Leave p) (record { lines = refl; ring = refl; program = refl }) tt (λ h. h));
  halts = λ s. halts_from s s refl refl;
  units = λ s n l. goes_still s _ (record { lines = refl; ring = refl; program = refl });
  busy = λ s p. line_apart s (what.Busy p) tt (λ h. h);
  prints = λ s p v o. line_apart s (what.Print (Own p) v) tt (λ h. h);
  polled = polls_still;
  remainder = λ s p r o. goes_still s _ (record { lines = refl; ring = refl; program = refl });
  fresh = λ s p o. goes_still s _ (record { lines = refl; ring = refl; program = refl });
  variables = λ s p vs n o l. goes_still s _ (record { lines = refl; ring = refl; program = refl });
  sets = λ s t start interval owner there. sets_still s _ t;
  stops = λ s t. goes_still s _ (record { lines = refl; ring = refl; program = refl });
  purges = λ s p. goes_still s _ (record { lines = refl; ring = refl; program = refl });
  callbacks = λ s ts. goes_still s _ (record { lines = refl; ring = refl; program = refl });
  semaphores = λ s ns. goes_still s _ (record { lines = refl; ring = refl; program = refl });
  full = λ s t e. line_apart s (what.Full t e.number e.word) tt (λ h. h);
  posts = λ s t e f. goes_apart s _ (what.Post s.queue.accepted t e.number e.word) (record { lines = refl; ring = refl; program = refl }) tt (λ h. h);
  sends = λ s v. goes_apart s _ (what.Send s.sent v) (record { lines = refl; ring = refl; program = refl }) tt (λ h. h);
  starts = λ s p o b h l. goes_apart s _ (what.Start p) (record { lines = refl; ring = refl; program = refl }) tt (λ h. h);
  ring = record {
    accepted = λ s a later p i r. hands_front (Some p) a later s _ _ i r refl refl refl Accepted (λ h. h);
    refused = λ s a later p i r. hands_front (Some p) a later s (record s { ring = later }) _ i r refl refl refl Refused (λ h. h);
    deaf = λ s a later i r. hands_front None a later s (record s { ring = later }) _ i r refl refl refl refl (λ h. h);
    halts = λ s later. halts_from s (record s { ring = later }) refl refl;
  };
}

pub run_steps : AreRunSteps RingGoes RingHalts chain
unfolding with_needs_poll
run_steps = record {
  unrequested = λ s. goes_still s _ (record { lines = refl; ring = refl; program = refl });
  cleared = λ s p. goes_still s _ (record { lines = refl; ring = refl; program = refl });
  front = λ s. goes_still s _ (record { lines = refl; ring = refl; program = refl });
  takes = λ s n p. line_apart s (what.Take n p) tt (λ h. h);
  drops = λ s n p. line_apart s (what.Drop n p) tt (λ h. h);
}

abbrev Rings : (A : Type 0) → KernelState → Outcome A → Type 0
Rings A s o = Lead RingGoes RingHalts A s o

leads_of : (A : Type 0) (s : KernelState) (o : Outcome A) → Rings A s o → RingLeads s o
leads_of A s (Ends t) h = h.leads
leads_of A s (Goes a t) h = h.leads

pub calls_tell_packets : CallsTellPackets
calls_tell_packets depth s p e = leads_of _ s _ ((calls_led RingGoes RingHalts chain AnyProcess steps depth).call s p e (λ q. tt))

-- boots and kernel runs

given_packets : (moment : ℕ) (m : KernelModel) (lines : List Line) (sends : List Sent) (o : Outcome ℕ) → Rings ℕ (begun m moment lines sends) o → GivesPackets m lines (given o)
unfolding begun_of
given_packets moment m lines sends (Ends t) h = let k = h.leads in record {
  added = k.added;
  wrote = k.wrote;
  left = k.left;
  runs = k.runs;
  hears_none = k.hears_none;
  holds = λ q. absurd (cc);
  program = k.program;
}
given_packets moment m lines sends (Goes a t) h = let k = h.leads in record {
  added = k.added;
  wrote = k.wrote;
  left = t.ring;
  runs = k.runs;
  hears_none = k.hears_none;
  holds = λ q. refl;
  program = k.program;
}

unless_packets : (moment : ℕ) (m : KernelModel) (lines : List Line) (sends : List Sent) (o : Outcome ℕ) → Rings ℕ (begun m moment lines sends) o → GivesPackets m lines (unless_halted m lines sends (given o))
unless_packets moment m lines sends o h =
    unless_halts (GivesPackets m lines) m lines sends (given o) (λ e. record { added = []; wrote = sym (append-nil lines); left = m.state.ring; runs = NoneMore; hears_none = none_heard; holds = λ q. refl; program = refl }) (λ e. given_packets moment m lines sends o h)

pub boot_tells_packets : BootTellsPackets
unfolding boot_given
boot_tells_packets moment m lines sends =
    unless_packets moment m lines sends _ (boots_led RingGoes RingHalts chain steps run_steps (most_units + 1) (begun m moment lines sends))

pub run_tells_packets : RunTellsPackets
unfolding run_given
run_tells_packets moment m lines sends =
    unless_packets moment m lines sends _ (runs_led RingGoes RingHalts chain steps run_steps (most_units + 1) (begun m moment lines sends))

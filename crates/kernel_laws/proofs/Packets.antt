-- The radio's poll: each packet of the ring gets its line, in order.
use Rattle.std.proofs.Common.{ℕ, ◌≡◌, ◌^◌, nat_le, length, Bool, true, false, if◌then◌else◌, List, [], ◌∷◌, ◌++◌, Option, Some, None, refl, sym, subst, ◌∙◌, append_assoc, append-nil}
use Rattle.program_tree.specs.declared.event.Proc.TheVariants.{Own}
use Rattle.program_tree.specs.declared.event.Target.{Target}
use Rattle.program_tree.specs.declared.event.Target.TheVariants.{One}
use Rattle.program_tree.specs.declared.event.Event.{Event}
use Rattle.program_tree.specs.declared.event.SystemEvent.TheVariants.{Poll, Packet}
use Rattle.program_tree.specs.Events.{system_number}
use Rattle.radio_packet.specs.declared.arrival.Arrival.{Arrival}
use Rattle.trace_lines.specs.declared.line.What.{What}
use Rattle.trace_lines.specs.declared.line.What.TheVariants as what
use Rattle.process_kernel.specs.State.{KernelState, Outcome, Went, Ends, Goes, ◌>>=◌, write_of}
use Rattle.process_kernel.specs.Posts.{is_system_event, process_post}
use Rattle.process_kernel.specs.Radio.{packet_of, hand_to, empty_ring, radio_process}
use Rattle.kernel_laws.specs.Polled.{TellsPost, Accepted, Refused, TellsPacket, TellEach, NoneLeft, TellsNext, lines_at, PacketsAreHanded}

-- one line was written, and otherwise only the queue and the ring may have changed
pub record WritesOne (s t : KernelState) : Type 0 where
  pub telling : What
  pub wrote : t.lines ≡ s.lines ++ record { at = s.moment; what = telling } ∷ []
  pub moment : t.moment ≡ s.moment
  pub program : t.program ≡ s.program
  pub ring : t.ring ≡ s.ring
  pub timers : t.timers ≡ s.timers

abbrev pub Offered : Target → (number word : ℕ) → KernelState → KernelState → Type 0
Offered target number word s t = (w : WritesOne s t) × TellsPost target number word w.telling

-- a property of an outcome that continues
abbrev pub IfGoes : {A : Type 0} → (KernelState → Type 0) → Outcome A → Type 0
IfGoes P (Ends t) = Unit {0}
IfGoes P (Goes a t) = P t

pub goes_if : (A : Type 0) (P : KernelState → Type 0) (b : Bool) (o p : Outcome A) → IfGoes P o → IfGoes P p → IfGoes P (if b then o else p)
goes_if A P true o p h i = h
goes_if A P false o p h i = i

pub post_offers : (s : KernelState) (target : Target) (e : Event) → IfGoes (Offered target e.number e.word s) (process_post s target e)
unfolding process_post write_of
post_offers s target e =
    goes_if Bool (Offered target e.number e.word s) (nat_le (2 ^ 62) s.queue.accepted) _ _ tt
    (goes_if Bool (Offered target e.number e.word s) (nat_le s.queue.capacity (length s.queue.events)) _ _
    (record { telling = what.Full target e.number e.word; wrote = refl; moment = refl; program = refl; ring = refl; timers = refl }, Refused)
    (record { telling = what.Post s.queue.accepted target e.number e.word; wrote = refl; moment = refl; program = refl; ring = refl; timers = refl }, Accepted))

abbrev pub Handed : (receiver : Option ℕ) → KernelState → Arrival → KernelState → Type 0
Handed receiver s a t = (w : WritesOne s t) × TellsPacket receiver a w.telling

pub goes_bind : (A B : Type 0) (P Q : KernelState → Type 0) (o : Outcome A) (f : A → KernelState → Outcome B) → IfGoes P o → ((a : A) (t : KernelState) → P t → IfGoes Q (f a t)) → IfGoes Q (o >>= f)
goes_bind A B P Q (Ends t) f h go = tt
goes_bind A B P Q (Goes a t) f h go = go a t h

pub hand_tells : (receiver : Option ℕ) (s : KernelState) (a : Arrival) → IfGoes (Handed receiver s a) (hand_to receiver s a)
unfolding hand_to write_of
hand_tells (Some p) s a =
    goes_bind Bool (Unit {0}) (Offered (One (Own p)) (system_number Packet) a.value s) (Handed (Some p) s a) (process_post s (One (Own p)) (packet_of a)) _ (post_offers s (One (Own p)) (packet_of a)) (λ full t h. h)
hand_tells None s a = (record { telling = what.Deaf a.sender a.number; wrote = refl; moment = refl; program = refl; ring = refl; timers = refl }, refl)

-- the ring of the first state holds these packets
pub record Empties (receiver : Option ℕ) (packets : List Arrival) (s t : KernelState) : Type 0 where
  pub empty : t.ring ≡ []
  pub tellings : List What
  pub each : TellEach receiver packets tellings
  pub wrote : t.lines ≡ s.lines ++ lines_at s.moment tellings

empties_next : (receiver : Option ℕ) (a : Arrival) (later : List Arrival) (s u t : KernelState) → Handed receiver (record s { ring = later }) a u → Empties receiver later u t → Empties receiver (a ∷ later) s t
empties_next receiver a later s u t h e = record {
  empty = e.empty;
  tellings = h.0.telling ∷ e.tellings;
  each = TellsNext h.1 e.each;
  wrote = e.wrote ∙ (rw (h.0.wrote, h.0.moment) (append_assoc s.lines (record { at = s.moment; what = h.0.telling } ∷ []) (lines_at s.moment e.tellings)));
}

pub ring_empties : (receiver : Option ℕ) (packets : List Arrival) (s : KernelState) → s.ring ≡ packets → IfGoes (Empties receiver packets s) (empty_ring receiver packets s)
ring_empties receiver [] s r = record { empty = r; tellings = []; each = NoneLeft; wrote = sym (append-nil s.lines) }
ring_empties receiver (a ∷ later) s r =
    goes_bind (Unit {0}) (Unit {0}) (Handed receiver (record s { ring = later }) a) (Empties receiver (a ∷ later) s) (hand_to receiver (record s { ring = later }) a) _ (hand_tells receiver (record s { ring = later }) a)
    (λ u t h. goes_on receiver a later s t h (empty_ring receiver later t) (ring_empties receiver later t h.0.ring))
  where
    goes_on : (receiver : Option ℕ) (a : Arrival) (later : List Arrival) (s t : KernelState) → Handed receiver (record s { ring = later }) a t → (o : Went) → IfGoes (Empties receiver later t) o → IfGoes (Empties receiver (a ∷ later) s) o
    goes_on receiver a later s t h (Ends u) e = tt
    goes_on receiver a later s t h (Goes x u) e = empties_next receiver a later s t u h e

polled : (s t : KernelState) (e : Event) → is_system_event Poll e ≡ true → radio_process s e ≡ Goes tt t → empty_ring s.program.receiver s.ring s ≡ Goes tt t
unfolding radio_process
polled s t e poll goes = sym (rw poll refl) ∙ goes

pub packets_are_handed : PacketsAreHanded
packets_are_handed s t e poll goes =
    let h : Empties s.program.receiver s.ring s t = subst (IfGoes (Empties s.program.receiver s.ring s)) (polled s t e poll goes) (ring_empties s.program.receiver s.ring s refl) in
    record { empty = h.empty; tellings = h.tellings; each = h.each; wrote = h.wrote }

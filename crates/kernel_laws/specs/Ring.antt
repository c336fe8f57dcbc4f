-- The receive ring of a mote and its lines: the waiting packets, and the line that each of them gets.
use Rattle.std.specs.Prelude.{ℕ, ◌≡◌, ◌⊎◌, ◌<◌, ◌≤◌, false, List, [], ◌∷◌, ◌++◌, length, Option}
use Rattle.std.specs.List.{All}
use Rattle.program_tree.specs.declared.event.Proc.{Proc}
use Rattle.program_tree.specs.declared.event.Proc.TheVariants.{Radio}
use Rattle.program_tree.specs.declared.event.Event.{Event}
use Rattle.radio_packet.specs.declared.arrival.Arrival.{Arrival}
use Rattle.trace_lines.specs.declared.line.Line.{Line}
use Rattle.radio_packet.specs.declared.sent.Sent.{Sent}
use Rattle.trace_lines.specs.declared.line.What.{What}
use Rattle.trace_lines.specs.declared.line.What.TheVariants as what
use Rattle.process_kernel.specs.State.{KernelState, Outcome, Ends, Goes}
use Rattle.process_kernel.specs.Operations.{calls_of}
use Rattle.process_kernel.specs.KernelModel.{KernelModel, Given, boot_given, run_given}
use Rattle.kernel_laws.specs.Due.{IsAtRest}
use Rattle.kernel_laws.specs.Going.{IsNote}
use Rattle.kernel_laws.specs.Poll.{PollWaits}
use Rattle.kernel_laws.specs.Polled.{TellsPacket}

-- a line about anything except a packet that was received, lost at the ring, or heard by nobody
abbrev pub IsApart : What → Type 0
IsApart (what.Recv f n v) = ⊥
IsApart (what.Lost f n) = ⊥
IsApart (what.Deaf f n) = ⊥
IsApart w = Unit {0}

-- Along these lines, in order, the ring changes from its first packets to the packets that are left, the oldest in
-- front. A packet that is received is appended to the ring if the ring of 8 has room. A packet is lost only if the
-- ring has no room. A packet leaves from the front with its line: it was posted to the receiver, the receiver's queue
-- was full, or nobody hears it. Each line about a received, a lost or an unheard packet is one of these lines.
pub data RingRuns (receiver : Option ℕ) : List Arrival → List Line → List Arrival → Type 0 where
  NoneMore : {ring : List Arrival} → RingRuns receiver ring [] ring
  Receives : {ring left : List Arrival} {lines : List Line} {moment : ℕ} (a : Arrival)
      → length ring < 8 → RingRuns receiver (ring ++ a ∷ []) lines left
      → RingRuns receiver ring (record { at = moment; what = what.Recv a.sender a.number a.value } ∷ lines) left
  Loses : {ring left : List Arrival} {lines : List Line} {moment sender number : ℕ}
      → 8 ≤ length ring → RingRuns receiver ring lines left
      → RingRuns receiver ring (record { at = moment; what = what.Lost sender number } ∷ lines) left
  Hands : {a : Arrival} {later left : List Arrival} {lines : List Line} {moment : ℕ} {w : What}
      → TellsPacket receiver a w → RingRuns receiver later lines left
      → RingRuns receiver (a ∷ later) (record { at = moment; what = w } ∷ lines) left
  Passes : {ring left : List Arrival} {lines : List Line} {moment : ℕ} {w : What}
      → IsApart w → RingRuns receiver ring lines left
      → RingRuns receiver ring (record { at = moment; what = w } ∷ lines) left

-- lines were added from one state to a later one; along these lines the ring changes from its old contents to its new
-- contents, and none of the lines is about an arriving packet
pub record RingGoes (s t : KernelState) : Type 0 where
  pub added : List Line
  pub wrote : t.lines ≡ s.lines ++ added
  pub runs : RingRuns s.program.receiver s.ring added t.ring
  pub hears_none : All (λ l. IsNote l.what → ⊥) added
  pub program : t.program ≡ s.program

-- if the mote halts, some packets may be left without a line
pub record RingHalts (s t : KernelState) : Type 0 where
  pub added : List Line
  pub wrote : t.lines ≡ s.lines ++ added
  pub left : List Arrival
  pub runs : RingRuns s.program.receiver s.ring added left
  pub hears_none : All (λ l. IsNote l.what → ⊥) added
  pub program : t.program ≡ s.program

-- the ring and the lines from a state to the outcome of a step
abbrev pub RingLeads : {A : Type 0} → KernelState → Outcome A → Type 0
RingLeads s (Ends t) = RingHalts s t
RingLeads s (Goes a t) = RingGoes s t

-- whatever a call does, each packet that leaves the ring has its line, in order
abbrev pub CallsTellPackets : Type 0
CallsTellPackets = (depth : ℕ) (s : KernelState) (p : Proc) (e : Event) → RingLeads s ((calls_of depth).call s p e)

-- along the lines that a boot or a run adds, the ring changes from its old contents to its new contents, unless the
-- mote has halted; none of the lines is about an arriving packet
pub record GivesPackets (m : KernelModel) (lines : List Line) (g : Given) : Type 0 where
  pub added : List Line
  pub wrote : g.lines ≡ lines ++ added
  pub left : List Arrival
  pub runs : RingRuns m.state.program.receiver m.state.ring added left
  pub hears_none : All (λ l. IsNote l.what → ⊥) added
  pub holds : g.mote.halted ≡ false → g.mote.state.ring ≡ left
  pub program : g.mote.state.program ≡ m.state.program

-- the same is true of a boot and of a kernel run
abbrev pub BootTellsPackets : Type 0
BootTellsPackets = (moment : ℕ) (m : KernelModel) (lines : List Line) (sends : List Sent)
    → GivesPackets m lines (boot_given moment m lines sends)

abbrev pub RunTellsPackets : Type 0
RunTellsPackets = (moment : ℕ) (m : KernelModel) (lines : List Line) (sends : List Sent)
    → GivesPackets m lines (run_given moment m lines sends)

-- A kernel run of a mote at rest leaves the ring empty if the ring was empty before, or if a poll of the radio process
-- waited, unless the mote halts.
abbrev pub RunEmptiesRing : Type 0
RunEmptiesRing =
    (moment : ℕ) (m : KernelModel) (lines : List Line) (sends : List Sent) → IsAtRest m.state → (m.state.ring ≡ [])
    ⊎ PollWaits Radio m.state → let g = run_given moment m lines sends in
    g.mote.halted ≡ false → g.mote.state.ring ≡ []

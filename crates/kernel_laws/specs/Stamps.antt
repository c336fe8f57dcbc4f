-- Lines and packets are stamped with their moments, and packets are numbered in order.
use Rattle.std.specs.Prelude.{ℕ, ◌≡◌, ◌+◌, List, ◌++◌, length, map, All}
use Rattle.std.specs.List.{range_with_len}
use Rattle.trace_lines.specs.declared.line.Line.{Line}
use Rattle.radio_packet.specs.declared.sent.Sent.{Sent}
use Rattle.process_kernel.specs.State.{KernelState, Outcome, Ends, Goes}
use Rattle.process_kernel.specs.KernelModel.{KernelModel, Given}

-- each of these lines is stamped with the moment
abbrev pub LinesBear : (moment : ℕ) → List Line → Type 0
LinesBear moment lines = All (λ l. l.at ≡ moment) lines

-- each of these packets is stamped with the moment and the mote that sent it
abbrev pub PacketsBear : (moment mote : ℕ) → List Sent → Type 0
PacketsBear moment mote sends = All (λ x. (x.at ≡ moment) × (x.sender ≡ mote)) sends

-- the numbers of these packets are `first`, the next number, and so on, in order
abbrev pub AreNumberedFrom : (first : ℕ) → List Sent → Type 0
AreNumberedFrom first sends = map (λ x. x.number) sends ≡ range_with_len first (length sends)

-- From one state to a later one, each line that was written is stamped with the moment, and each packet with the
-- moment and the mote. The numbers of the packets continue from the number of packets sent before, and the mote counts
-- the packets. The mote's number and program don't change.
pub record Stamped (moment : ℕ) (s t : KernelState) : Type 0 where
  pub lines : List Line
  pub wrote : t.lines ≡ s.lines ++ lines
  pub lines_bear : LinesBear moment lines
  pub sends : List Sent
  pub sent_on : t.sends ≡ s.sends ++ sends
  pub packets_bear : PacketsBear moment s.mote sends
  pub numbered : AreNumberedFrom s.sent sends
  pub counted : t.sent ≡ s.sent + length sends
  pub mote : t.mote ≡ s.mote
  pub program : t.program ≡ s.program

-- the state in which a step ends or continues
abbrev pub state_after : {A : Type 0} → Outcome A → KernelState
state_after (Ends t) = t
state_after (Goes a t) = t

-- the state of a mote with these lines and packets written
abbrev pub with_output : KernelModel → List Line → List Sent → KernelState
with_output m lines sends = record m.state { lines = lines; sends = sends }

-- the outcome of a boot or a run at this moment, if these lines and packets were written before
abbrev pub GivesStamped : (moment : ℕ) → KernelModel → List Line → List Sent → Given → Type 0
GivesStamped moment m lines sends g = Stamped moment (with_output m lines sends) (with_output g.mote g.lines g.sends)

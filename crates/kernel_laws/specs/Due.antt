-- Timers that are due, and the poll of etimer that posts their events.
use Rattle.std.specs.Prelude.{ℕ, ◌≡◌, ◌⊎◌, ◌+◌, true, false, List, ◌∷◌, ◌++◌, Some, IsSome}
use Rattle.program_tree.specs.declared.event.Proc.{Proc}
use Rattle.program_tree.specs.declared.event.Proc.TheVariants.{Etimer, Radio}
use Rattle.program_tree.specs.declared.event.Target.{Target}
use Rattle.program_tree.specs.declared.event.Target.TheVariants.{One}
use Rattle.program_tree.specs.declared.event.Event.{Event}
use Rattle.program_tree.specs.declared.event.SystemEvent.TheVariants.{Timer}
use Rattle.program_tree.specs.Events.{system_number}
use Rattle.program_tree.specs.Code.{Tree}
use Rattle.mote_timers.specs.Numbers.{is_member}
use Rattle.mote_timers.specs.Timer.{is_due}
use Rattle.mote_timers.specs.TimerLists.{TimerLists, timer_at}
use Rattle.trace_lines.specs.declared.line.Line.{Line}
use Rattle.radio_packet.specs.declared.sent.Sent.{Sent}
use Rattle.trace_lines.specs.declared.line.What.{What}
use Rattle.process_kernel.specs.KernelModel.{most_units, KernelModel, unbooted, begun, boot_given, run_given}
use Rattle.process_kernel.specs.State.{KernelState, Goes}
use Rattle.process_kernel.specs.ProcessList.{is_listed}
use Rattle.process_kernel.specs.Operations.{calls_of}
use Rattle.kernel_laws.specs.Going.{SystemStays}
use Rattle.kernel_laws.specs.InStep.{IsInStep, IsIdle}
use Rattle.kernel_laws.specs.Own.{FitsTarget}
use Rattle.kernel_laws.specs.Poll.{PollWaits, CanBePolled, polls_before}
use Rattle.kernel_laws.specs.Polled.{TellsPost}

-- the timer is on the timer list, it is due at this moment, and this process is its owner
pub record IsDueFor (moment : ℕ) (l : TimerLists) (timer : ℕ) (owner : Proc) : Type 0 where
  pub listed : is_member timer l.listed ≡ true
  pub due : is_due moment (timer_at l.timers timer) ≡ true
  pub owned : (timer_at l.timers timer).owner ≡ Some owner

-- no timer is due at this moment
abbrev pub NoneIsDue : (moment : ℕ) → TimerLists → Type 0
NoneIsDue moment l = (timer : ℕ) (owner : Proc) → IsDueFor moment l timer owner → ⊥

-- each timer on the list has an owner
abbrev pub HaveOwners : TimerLists → Type 0
HaveOwners l = (timer : ℕ) → is_member timer l.listed ≡ true → IsSome (timer_at l.timers timer).owner

-- no timer is forgotten: no timer is due, or a poll of etimer waits
abbrev pub ForgetsNone : (moment : ℕ) → KernelState → Type 0
ForgetsNone moment s = NoneIsDue moment s.timers ⊎ PollWaits Etimer s

-- a property of a kernel between its runs: etimer and the radio process are listed and can be polled, and no waiting
-- event can make them leave; the process list and the states are in step; and no process is called or being exited
pub record IsAtRest (s : KernelState) : Type 0 where
  pub sound : SystemStays s
  pub step : IsInStep s
  pub idle : IsIdle s
  pub can : CanBePolled Etimer s
  pub radio : CanBePolled Radio s
  pub radio_stays : is_listed s Radio ≡ true

-- one of these lines is about this post at this moment
pub record HasTelling (moment : ℕ) (lines : List Line) (target : Target) (number word : ℕ) : Type 0 where
  pub telling : What
  pub tells : TellsPost target number word telling
  pub before : List Line
  pub after : List Line
  pub split : lines ≡ before ++ record { at = moment; what = telling } ∷ after

-- A call forgets no timer: if none was forgotten before it, none is forgotten after it, unless the mote halts, if
-- etimer can be polled before the call and the event isn't EXIT for a system process.
abbrev pub CallsForgetNone : Type 0
CallsForgetNone =
    (depth : ℕ) (s t : KernelState) (p : Proc) (e : Event) → FitsTarget (One p) e.number → CanBePolled Etimer s
    → ForgetsNone s.moment s → (calls_of depth).call s p e ≡ Goes tt t
    → ForgetsNone t.moment t

-- after its boot, a mote that has not halted is at rest, and no timer is forgotten
abbrev pub BootForgetsNone : Type 0
BootForgetsNone =
    (program : Tree) (mote queue moment : ℕ) (lines : List Line) (sends : List Sent)
    → let m = (boot_given moment (unbooted program mote queue) lines sends).mote in
    m.halted ≡ false → IsAtRest m.state × ForgetsNone moment m.state

-- if a mote is at rest and no timer is forgotten at the moment of a kernel run, the same is true after the run, unless
-- the mote halts
abbrev pub RunForgetsNone : Type 0
RunForgetsNone =
    (moment : ℕ) (m : KernelModel) (lines : List Line) (sends : List Sent) → IsAtRest m.state
    → ForgetsNone moment m.state
    → let after = (run_given moment m lines sends).mote in
    after.halted ≡ false → IsAtRest after.state × ForgetsNone moment after.state

-- after boots and kernel runs each timer on the list still has an owner, even if the mote halts
abbrev pub BootKeepsOwners : Type 0
BootKeepsOwners = (moment : ℕ) (m : KernelModel) (lines : List Line) (sends : List Sent) → HaveOwners m.state.timers
    → HaveOwners (boot_given moment m lines sends).mote.state.timers

abbrev pub RunKeepsOwners : Type 0
RunKeepsOwners = (moment : ℕ) (m : KernelModel) (lines : List Line) (sends : List Sent) → HaveOwners m.state.timers
    → HaveOwners (run_given moment m lines sends).mote.state.timers

-- Lines that a run appended: for each timer that is due in this state, one of these lines is about the timer.
pub record TellsDue (moment : ℕ) (u : KernelState) (lines after : List Line) : Type 0 where
  pub added : List Line
  pub wrote : after ≡ lines ++ added
  pub each : (timer : ℕ) (owner : Proc) → IsDueFor moment u.timers timer owner
      → HasTelling moment added (One owner) (system_number Timer) timer

-- the polls of a run that begins in this state reach the turn of etimer, and each timer that is due then has its line
pub record PollsEtimer (moment : ℕ) (s : KernelState) (lines after : List Line) : Type 0 where
  pub at_turn : KernelState
  pub comes : polls_before Etimer (calls_of (most_units + 1)) s ≡ Goes tt at_turn
  pub tells : TellsDue moment at_turn lines after

-- if a mote is at rest and a poll of etimer waits, a kernel run polls etimer, and each timer that is due then gets its
-- line, unless the mote halts
abbrev pub RunTellsDue : Type 0
RunTellsDue =
    (moment : ℕ) (m : KernelModel) (lines : List Line) (sends : List Sent) → m.halted ≡ false → IsAtRest m.state
    → PollWaits Etimer m.state → let g = run_given moment m lines sends in
    g.mote.halted ≡ false → PollsEtimer moment (begun m moment lines sends) lines g.lines

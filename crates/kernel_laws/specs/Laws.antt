-- The laws of a kernel's lines.
use Rattle.std.specs.Prelude.{ℕ, ◌≡◌, ◌+◌, true, false, List, [], ◌∷◌, ◌++◌}
use Rattle.program_tree.specs.declared.event.Proc.{Proc}
use Rattle.program_tree.specs.declared.event.Event.{Event}
use Rattle.program_tree.specs.Code.{Tree}
use Rattle.radio_packet.specs.declared.arrival.Arrival.{Arrival}
use Rattle.trace_lines.specs.declared.line.Line.{Line}
use Rattle.radio_packet.specs.declared.sent.Sent.{Sent}
use Rattle.process_kernel.specs.State.{KernelState, Goes}
use Rattle.process_kernel.specs.ProcessList.{is_running, is_listed}
use Rattle.process_kernel.specs.Operations.{calls_of}
use Rattle.process_kernel.specs.KernelModel.{KernelModel, unbooted, with_packet, with_poll, boot_given, run_given}
use Rattle.kernel_laws.specs.Going.{GoesWith, AppendsLines, IsNote, IsInOrder}
use Rattle.kernel_laws.specs.InStep.{IsInStep, IsAsBusy}
use Rattle.kernel_laws.specs.Stamps.{Stamped, state_after, GivesStamped}
use Rattle.kernel_laws.specs.Traces.{KernelCall, traced_after_calls, booted_at, trace_of}

-- the lines of a kernel are in order, whatever its program is and whatever calls follow the boot
abbrev pub KernelsHandOn : Type 0
KernelsHandOn = (program : Tree) (mote queue moment : ℕ) (calls : List KernelCall)
    → IsInOrder (trace_of program mote queue moment calls)

-- Lines that agree with a mote are in order, and after each call of the mote's kernel the lines still agree with the
-- mote.

-- lines that agree with a mote are in order
abbrev pub GoingIsInOrder : Type 0
GoingIsInOrder = (lines : List Line) (m : KernelModel) → GoesWith lines m → IsInOrder lines

-- the empty list of lines agrees with a mote that was not booted
abbrev pub NoLinesGoFirst : Type 0
NoLinesGoFirst = (program : Tree) (mote queue : ℕ) → GoesWith [] (unbooted program mote queue)

-- a boot of a mote that was not booted keeps the agreement, and a run of a mote that was booted does
abbrev pub BootAddsItsLines : Type 0
BootAddsItsLines =
    (lines : List Line) (m : KernelModel) (moment : ℕ) (before : List Line) (sends : List Sent) → m.booted ≡ false
    → GoesWith lines m → AppendsLines lines before (boot_given moment m before sends)

abbrev pub RunAddsItsLines : Type 0
RunAddsItsLines =
    (lines : List Line) (m : KernelModel) (moment : ℕ) (before : List Line) (sends : List Sent) → m.booted ≡ true
    → GoesWith lines m → AppendsLines lines before (run_given moment m before sends)

-- the request of a poll keeps the agreement, and so do a packet for the ring and, unless the mote has halted, a line
-- about an arriving packet
abbrev pub PollKeeps : Type 0
PollKeeps = (lines : List Line) (m : KernelModel) (p : Proc) → GoesWith lines m → GoesWith lines (with_poll m p)

abbrev pub PacketKeeps : Type 0
PacketKeeps = (lines : List Line) (m : KernelModel) (a : Arrival) → GoesWith lines m → GoesWith lines (with_packet m a)

abbrev pub NoteKeeps : Type 0
NoteKeeps = (lines : List Line) (m : KernelModel) (l : Line) → m.halted ≡ false → IsNote l.what → GoesWith lines m
    → GoesWith (lines ++ l ∷ []) m

-- Processes are called only while they are running, and the processes that are running or called are on the process
-- list.

-- calling a process that is not running has no effect
abbrev pub OnlyTheRunningAreCalled : Type 0
OnlyTheRunningAreCalled = (depth : ℕ) (s : KernelState) (p : Proc) (e : Event) → is_running s p ≡ false
    → (calls_of (depth + 1)).call s p e ≡ Goes tt s

-- whatever a call does, the process list and the states stay in step, and the same processes are busy after it, unless
-- the mote halts
abbrev pub CallsKeepStep : Type 0
CallsKeepStep = (depth : ℕ) (s t : KernelState) (p : Proc) (e : Event) → IsInStep s
    → (calls_of depth).call s p e ≡ Goes tt t
    → IsInStep t × IsAsBusy s t

-- between the calls of a kernel that has not halted, exactly the processes on the list are running
abbrev pub ListedAreRunning : Type 0
ListedAreRunning =
    (program : Tree) (mote queue moment : ℕ) (calls : List KernelCall)
    → let m = (traced_after_calls (booted_at program mote queue moment) calls).mote in
    m.halted ≡ false → (p : Proc) → is_running m.state p ≡ is_listed m.state p

-- Everything that is written is stamped with the moment of the boot or the run, even if the mote halts.

-- whatever a call does, the moment doesn't change, and each line and packet is stamped with it
abbrev pub CallsStamp : Type 0
CallsStamp =
    (depth : ℕ) (s : KernelState) (p : Proc) (e : Event) → let t = state_after ((calls_of depth).call s p e) in
    Stamped s.moment s t × (t.moment ≡ s.moment)

-- each line and packet of a boot or a kernel run is stamped with its moment
abbrev pub BootStamps : Type 0
BootStamps = (moment : ℕ) (m : KernelModel) (lines : List Line) (sends : List Sent)
    → GivesStamped moment m lines sends (boot_given moment m lines sends)

abbrev pub RunStamps : Type 0
RunStamps = (moment : ℕ) (m : KernelModel) (lines : List Line) (sends : List Sent)
    → GivesStamped moment m lines sends (run_given moment m lines sends)

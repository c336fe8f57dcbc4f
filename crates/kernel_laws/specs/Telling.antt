-- The relation between the lines about a process's lives and the statements that the process has yet to execute. (Each
-- start of the process begins a life.) Each call of the kernel keeps this relation.
use Rattle.std.specs.Prelude.{ℕ, ◌≡◌, ◌⊎◌, Bool, true, false, nat_lt, List, [], ◌∷◌, ◌++◌, length, Option, Some}
use Rattle.std.specs.Prelude.{slice_get}
use Rattle.program_tree.specs.declared.event.Proc.{Proc}
use Rattle.program_tree.specs.declared.event.Proc.TheVariants.{Own}
use Rattle.program_tree.specs.declared.event.Event.{Event}
use Rattle.program_tree.specs.declared.event.SystemEvent.TheVariants.{Init}
use Rattle.program_tree.specs.Code.{Code, Tree}
use Rattle.protothread.specs.Remainder.{Remainder}
use Rattle.protothread.specs.Reading.{Sight, Happening, Completion}
use Rattle.protothread.specs.Runs.{Runs}
use Rattle.radio_packet.specs.declared.arrival.Arrival.{Arrival}
use Rattle.trace_lines.specs.declared.line.Line.{Line}
use Rattle.radio_packet.specs.declared.sent.Sent.{Sent}
use Rattle.process_kernel.specs.declared.process.ProcessState.{ProcessState}
use Rattle.process_kernel.specs.declared.process.ProcessState.TheVariants.{Off, Running}
use Rattle.process_kernel.specs.ProcessList.{place_of, process_state, at_process, has_process, is_listed}
use Rattle.process_kernel.specs.State.{KernelState}
use Rattle.process_kernel.specs.Posts.{own_event}
use Rattle.process_kernel.specs.KernelModel.{KernelModel, unbooted, with_packet, with_poll, boot_given, run_given}
use Rattle.kernel_laws.specs.Going.{IsNote}
use Rattle.kernel_laws.specs.Printed.{IsQuietApart, starts_and_prints, prints, AreShown, Life, lines_of_life, Lives}
use Rattle.kernel_laws.specs.Printed.{LivesSoFar, TellsLives}

-- the next sight of the process: INIT at its start, at this moment; the same event at the same moment, with this
-- answer; or any sight
pub data Next : Type 0 where
  AtStart : (moment : ℕ) → Next
  InCall : (answer : ℕ) → Event → (moment : ℕ) → Next
  AtCall : Next

-- the next sight can have this event and this moment; and it can have this answer
abbrev pub CanCome : Next → Event → (moment : ℕ) → Type 0
CanCome (AtStart m) event moment = (event ≡ own_event Init 0) × (moment ≡ m)
CanCome (InCall answer e m) event moment = (event ≡ e) × (moment ≡ m)
CanCome AtCall event moment = Unit {0}

abbrev pub IsAnswered : Next → (answer : ℕ) → Type 0
IsAnswered (InCall a e m) answer = answer ≡ a
IsAnswered next answer = Unit {0}

-- a life with these lines
pub record HasLife (p : ℕ) (code : Code) (mote : ℕ) (start : List ℕ) (lines : List Line)
    (became : Completion) : Type 0 where
  pub life : Life code mote start
  pub became_so : life.became ≡ became
  pub has_lines : lines_of_life (Own p) life ≡ lines

-- These are the lines so far of a life. Whatever the process does from now on, in a sight that can come, belongs to
-- the same life.
pub record ComesTo (p : ℕ) (code : Code) (mote : ℕ) (start : List ℕ) (lines : List Line) (next : Next) (r : Remainder)
    (vars : List ℕ) : Type 0 where
  pub on : (now : Sight) (later : List Sight) (more : List Happening) (out : Completion)
      → CanCome next now.event now.looks.moment → IsAnswered next now.answer → AreShown mote (now ∷ later) more
      → Runs code r vars now later more out → HasLife p code mote start (lines
      ++ prints (Own p) (now ∷ later) more) out

-- In the life that began with its last start, the process has reached this point.
pub record ComesHere (p : ℕ) (code : Code) (mote : ℕ) (lines_so_far : List Line) (next : Next) (r : Remainder)
    (vars : List ℕ) : Type 0 where
  pub before : List Line
  pub start : List ℕ
  pub lived : Lives code (Own p) mote code.starts before start
  pub lines : List Line
  pub comes : ComesTo p code mote start lines next r vars
  pub is_traced : lines_so_far ≡ before ++ lines

-- A process in the state of a mote: the program, the mote and the moment; whether the tables have room for the
-- process; its state, whether it is being exited, and whether it is on the process list; the remainder of its body,
-- its variables, and the lines about it in the current run.
pub record ProcessInMote : Type 0 where
  pub program : Tree
  pub mote : ℕ
  pub moment : ℕ
  pub has : Bool
  pub room : Bool
  pub state : ProcessState
  pub exiting : Bool
  pub listed : Bool
  pub rest : Option Remainder
  pub vars : Option (List ℕ)
  pub lines_so_far : List Line

abbrev pub process_in_mote : (p : ℕ) → KernelState → ProcessInMote
process_in_mote p s = record {
  program = s.program;
  mote = s.mote;
  moment = s.moment;
  has = has_process s (Own p);
  room = nat_lt (place_of (Own p)) (length s.exiting);
  state = process_state s (Own p);
  exiting = at_process s.exiting (Own p);
  listed = is_listed s (Own p);
  rest = slice_get s.remainders p;
  vars = slice_get s.variables p;
  lines_so_far = starts_and_prints (Own p) s.lines;
}

-- the process is not on the process list; or it is on the list, in a life that has reached this point
pub record IsOut (v : ProcessInMote) : Type 0 where
  pub state : v.state ≡ Off
  pub listed : v.listed ≡ false

pub record IsIn (p : ℕ) (code : Code) (mote : ℕ) (lines_so_far : List Line) (next : Next) (v : ProcessInMote)
    (r : Remainder)
    (vars : List ℕ) : Type 0 where
  pub has : v.has ≡ true
  pub state : v.state ≡ Running
  pub listed : v.listed ≡ true
  pub comes : ComesHere p code mote lines_so_far next r vars

-- The process is at rest. The lines about the process are those of its lives. After these lives it has its current
-- variables.
pub record RestsAsTraced (program : Tree) (mote p : ℕ) (code : Code) (lines_so_far : List Line) (v : ProcessInMote)
    : Type 0 where
  pub of_program : v.program ≡ program
  pub of_mote : v.mote ≡ mote
  pub tables : v.room ≡ v.has
  pub free : v.exiting ≡ false
  pub still : Remainder
  pub rest : v.rest ≡ Some still
  pub left : List ℕ
  pub vars : v.vars ≡ Some left
  pub lived : Lives code (Own p) mote code.starts lines_so_far left
  pub where_it_is : IsOut v ⊎ IsIn p code mote lines_so_far AtCall v still left

-- The lines so far of a mote are about the lives of the process, up to its current state or up to the mote's halt.
pub record TellsSoFar (program : Tree) (mote p : ℕ) (code : Code) (lines : List Line) (m : KernelModel) : Type 0 where
  pub going : m.halted ≡ false → RestsAsTraced program mote p code (starts_and_prints (Own p) lines)
      (process_in_mote p m.state)
  pub halted : m.halted ≡ true → LivesSoFar code (Own p) mote code.starts (starts_and_prints (Own p) lines)

-- a process with this number and this code that is quiet apart from its body
pub record IsProcess (program : Tree) (p : ℕ) (code : Code) : Type 0 where
  pub is_code : slice_get program.codes p ≡ Some code
  pub quiet : IsQuietApart code

-- a consequence of `TellsSoFar`: the lines are those of lives of the process

abbrev pub TellingIsOfLives : Type 0
TellingIsOfLives =
    (program : Tree) (mote p : ℕ) (code : Code) (lines : List Line) (m : KernelModel)
    → TellsSoFar program mote p code lines m
    → m.halted ≡ false → TellsLives code p mote lines (slice_get m.state.variables p)

abbrev pub TellingIsOfLivesSoFar : Type 0
TellingIsOfLivesSoFar =
    (program : Tree) (mote p : ℕ) (code : Code) (lines : List Line) (m : KernelModel)
    → TellsSoFar program mote p code lines m
    → LivesSoFar code (Own p) mote code.starts (starts_and_prints (Own p) lines)

-- A mote that was not booted has no lines. Each call of its kernel keeps `TellsSoFar`, whatever was written before.

abbrev pub NoLinesTellFirst : Type 0
NoLinesTellFirst = (program : Tree) (mote p : ℕ) (code : Code) (queue : ℕ) → IsProcess program p code
    → TellsSoFar program mote p code [] (unbooted program mote queue)

abbrev pub BootTells : Type 0
BootTells =
    (program : Tree) (mote p : ℕ) (code : Code) (earlier : List Line) (m : KernelModel) (moment : ℕ)
    (before : List Line)
    (sends : List Sent) → IsProcess program p code → TellsSoFar program mote p code (earlier ++ before) m
    → let g = boot_given moment m before sends in TellsSoFar program mote p code (earlier ++ g.lines) g.mote

abbrev pub RunTells : Type 0
RunTells =
    (program : Tree) (mote p : ℕ) (code : Code) (earlier : List Line) (m : KernelModel) (moment : ℕ)
    (before : List Line)
    (sends : List Sent) → IsProcess program p code → TellsSoFar program mote p code (earlier ++ before) m
    → let g = run_given moment m before sends in TellsSoFar program mote p code (earlier ++ g.lines) g.mote

abbrev pub PollTells : Type 0
PollTells = (program : Tree) (mote p : ℕ) (code : Code) (lines : List Line) (m : KernelModel) (q : Proc)
    → TellsSoFar program mote p code lines m → TellsSoFar program mote p code lines (with_poll m q)

abbrev pub PacketTells : Type 0
PacketTells = (program : Tree) (mote p : ℕ) (code : Code) (lines : List Line) (m : KernelModel) (a : Arrival)
    → TellsSoFar program mote p code lines m → TellsSoFar program mote p code lines (with_packet m a)

abbrev pub NoteTells : Type 0
NoteTells = (program : Tree) (mote p : ℕ) (code : Code) (lines : List Line) (m : KernelModel) (l : Line)
    → IsNote l.what
    → TellsSoFar program mote p code lines m → TellsSoFar program mote p code (lines ++ l ∷ []) m

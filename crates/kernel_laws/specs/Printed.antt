-- The lines that a process prints, and the meaning of its body.
use Rattle.std.specs.Prelude.{ℕ, ◌≡◌, ◌&&◌, ◌<◌, Bool, true, false, List, [], ◌∷◌, ◌++◌, Option, None, Some, slice_get}
use Rattle.std.specs.List.{filter}
use Rattle.program_tree.specs.declared.event.Proc.{Proc}
use Rattle.program_tree.specs.declared.event.Proc.TheVariants.{Own}
use Rattle.program_tree.specs.declared.event.SystemEvent.TheVariants.{Init}
use Rattle.program_tree.specs.Tree.{Action, assign, print, spawn, post, broadcast, Statement, does, branch, while}
use Rattle.program_tree.specs.Tree.{Body}
use Rattle.program_tree.specs.Tree.{end, next, Otherwise, nothing, otherwise, listed}
use Rattle.program_tree.specs.Code.{Code, Tree}
use Rattle.protothread.specs.declared.answer.PtState.TheVariants.{Yielded}
use Rattle.protothread.specs.declared.step.Op.TheVariants as op
use Rattle.protothread.specs.Reading.{Sight, Happening, operates, gives_up, Completion, done, restarts, exits}
use Rattle.protothread.specs.Reading.{in_state}
use Rattle.protothread.specs.Reading.{ReadsThread}
use Rattle.trace_lines.specs.declared.line.Line.{Line}
use Rattle.trace_lines.specs.declared.line.What.{What}
use Rattle.trace_lines.specs.declared.line.What.TheVariants as what
use Rattle.process_kernel.specs.ProcessList.{is_same}
use Rattle.process_kernel.specs.Posts.{own_event}
use Rattle.kernel_laws.specs.Traces.{KernelCall, traced_after_calls, booted_at}

-- A quiet statement or block: it prints nothing, sets no variable and spawns no thread.

abbrev pub is_quiet_action : Action ℕ → Bool
is_quiet_action (print e) = false
is_quiet_action (assign i e) = false
is_quiet_action (spawn t) = false
is_quiet_action (post q e w (Some i)) = false
is_quiet_action (broadcast e w (Some i)) = false
is_quiet_action a = true

abbrev mutual
  pub is_quiet : Body ℕ → Bool
  is_quiet end = true
  is_quiet (next s b) = is_quiet_statement s && is_quiet b

  pub is_quiet_statement : Statement ℕ → Bool
  is_quiet_statement (does a) = is_quiet_action a
  is_quiet_statement (branch c a o) = is_quiet a && is_quiet_other o
  is_quiet_statement (while c a) = is_quiet a

  pub is_quiet_other : Otherwise ℕ → Bool
  is_quiet_other nothing = true
  is_quiet_other (otherwise b) = is_quiet b

abbrev pub are_quiet : List (Body ℕ) → Bool
are_quiet [] = true
are_quiet (b ∷ bs) = is_quiet b && are_quiet bs

abbrev pub is_quiet_block : Option (Body ℕ) → Bool
is_quiet_block None = true
is_quiet_block (Some b) = is_quiet b

-- Apart from its body, a process is quiet: in the blocks that are run at POLL and at EXIT, and in the blocks of its
-- callback timers. Otherwise these blocks would also print on behalf of the process, and change its variables between
-- the calls of its body.
pub record IsQuietApart (code : Code) : Type 0 where
  pub at_poll : is_quiet_block code.on_poll ≡ true
  pub at_exit : is_quiet_block code.on_exit ≡ true
  pub in_callbacks : are_quiet code.callbacks ≡ true

-- a line about the start of this process, or a line that this process prints
abbrev pub starts_or_prints : Proc → What → Bool
starts_or_prints p (what.Start q) = is_same q p
starts_or_prints p (what.Print q v) = is_same q p
starts_or_prints p w = false

-- the lines of the starts and the prints of a process
abbrev pub starts_and_prints : Proc → List Line → List Line
starts_and_prints p lines = filter (λ l. starts_or_prints p l.what) lines

-- the lines that a process prints when it gets these sights and performs these actions: one line for each print, at
-- the moment of its sight
abbrev pub printed : Proc → Sight → Happening → List Line
printed p now (operates (op.Print v)) = record { at = now.looks.moment; what = what.Print p v } ∷ []
printed p now h = []

-- the lines of all these actions, each in its own sight
abbrev pub prints : Proc → List Sight → List Happening → List Line
prints p [] did = []
prints p (now ∷ later) [] = []
prints p (now ∷ later) (h ∷ did) = printed p now h ++ prints p later did

-- After an operation a process gets a sight with the same event and the same moment, because it is still in the same
-- call. The sight's answer is 0, or 1 if the queue was full.
pub record IsSameCall (now then : Sight) : Type 0 where
  pub event : then.event ≡ now.event
  pub moment : then.looks.moment ≡ now.looks.moment
  pub answer : then.answer < 2

-- after this action in the sight `now`, the next sight may be `then`
abbrev pub IsShownThen : Happening → Sight → Sight → Type 0
IsShownThen (operates o) now then = IsSameCall now then
IsShownThen (gives_up a) now then = Unit {0}

-- sights of this mote, each of which may follow the sight before it
abbrev pub AreShown : (mote : ℕ) → List Sight → List Happening → Type 0
AreShown mote [] did = Unit {0}
AreShown mote (now ∷ []) did = now.looks.mote ≡ mote
AreShown mote (now ∷ then ∷ later) [] = ⊥
AreShown mote (now ∷ then ∷ later) (h ∷ did) = (now.looks.mote ≡ mote) × IsShownThen h now then
    × AreShown mote (then ∷ later) did

-- the variables at the end of a reading
abbrev pub left_by : Completion → List ℕ
left_by (done now later variables) = variables
left_by (restarts now later variables) = variables
left_by (exits now later variables) = variables
left_by (in_state variables) = variables

-- One life of a process that starts with these variables. The process gets these sights, INIT first. Its actions are a
-- reading of its body, which follows the structure of the body.
pub record Life (code : Code) (mote : ℕ) (variables : List ℕ) : Type 0 where
  pub now : Sight
  pub later : List Sight
  pub did : List Happening
  pub became : Completion
  pub init : now.event ≡ own_event Init 0
  pub shown : AreShown mote (now ∷ later) did
  pub reads : ReadsThread code Yielded (listed code.body) now later variables did became

-- the lines of a life: its start and its prints
abbrev pub lines_of_life : {code : Code} {mote : ℕ} {variables : List ℕ} → Proc → Life code mote variables → List Line
lines_of_life p life = record { at = life.now.looks.moment; what = what.Start p } ∷ prints p
    (life.now ∷ life.later) life.did

-- The lives of a process one after another, and their lines. Each life begins with the variables that the previous one
-- left.
pub data Lives (code : Code) (p : Proc) (mote : ℕ) (variables : List ℕ) : List Line → (left : List ℕ) → Type 0 where
  Unborn : Lives code p mote variables [] variables
  LivesAgain : {lines : List Line} {left : List ℕ}
      → Lives code p mote variables lines left → (life : Life code mote left)
      → Lives code p mote variables (lines ++ lines_of_life p life) (left_by life.became)

-- The lines about a process at any time: the lines of its lives, the last of which may not have ended; or these lines
-- and one more start, after which the process has not done anything yet.
pub data LivesSoFar (code : Code) (p : Proc) (mote : ℕ) (variables : List ℕ) : List Line → Type 0 where
  OnRecord : {lines : List Line} {left : List ℕ} → Lives code p mote variables lines left
      → LivesSoFar code p mote variables lines
  HasStarted : {lines : List Line} {left : List ℕ} → Lives code p mote variables lines left → (moment : ℕ)
      → LivesSoFar code p mote variables (lines ++ record { at = moment; what = what.Start p } ∷ [])

-- the starts and the prints among these lines are those of lives of the process; after these lives the process has
-- these variables
abbrev pub TellsLives : Code → (p mote : ℕ) → List Line → (variables : Option (List ℕ)) → Type 0
TellsLives code p mote lines variables = (left : List ℕ) × (variables ≡ Some left)
    × Lives code (Own p) mote code.starts (starts_and_prints (Own p) lines) left

-- A process that is quiet apart from its body prints, from each of its starts on, the lines of a reading of its body,
-- whatever other processes do, and whatever calls follow the boot, as long as the mote doesn't halt.
abbrev pub PrintsAreTheReading : Type 0
PrintsAreTheReading =
    (program : Tree) (p : ℕ) (code : Code) (mote queue moment : ℕ) (calls : List KernelCall)
    → slice_get program.codes p ≡ Some code → IsQuietApart code →
    let t = traced_after_calls (booted_at program mote queue moment) calls in
    t.mote.halted ≡ false → TellsLives code p mote t.lines (slice_get t.mote.state.variables p)

-- the same up to the line about a halt, if the mote halts: the lines that the process has printed in its last life are
-- those of a reading
abbrev pub PrintsSoFarAreTheReading : Type 0
PrintsSoFarAreTheReading =
    (program : Tree) (p : ℕ) (code : Code) (mote queue moment : ℕ) (calls : List KernelCall)
    → slice_get program.codes p ≡ Some code → IsQuietApart code →
    let t = traced_after_calls (booted_at program mote queue moment) calls in
    LivesSoFar code (Own p) mote code.starts (starts_and_prints (Own p) t.lines)

-- The tables of the grammar: the operands after each keyword of a statement or an expression.
use Rattle.std.specs.Prelude.{Bool, true, false}
use Rattle.program_tree.specs.Tree.{Class, a_semaphore, a_process, a_timer, a_thread}
use Rattle.program_tree.specs.declared.keyword.Keyword.{Keyword}
use Rattle.program_tree.specs.declared.keyword.Keyword.TheVariants.{Print, Send, If, Else, While, WaitUntil, WaitWhile}
use Rattle.program_tree.specs.declared.keyword.Keyword.TheVariants.{Yield, YieldUntil, Spawn, Restart, Exit, Pause}
use Rattle.program_tree.specs.declared.keyword.Keyword.TheVariants.{Acquire, Signal, Post, Broadcast, Synch, Poll}
use Rattle.program_tree.specs.declared.keyword.Keyword.TheVariants.{Start, Kill, Set, Reset, RestartTimer, Stop, Data}
use Rattle.program_tree.specs.declared.keyword.Keyword.TheVariants.{From, Now, Own, Is, Fired, Expired, Gone, Running}
use Rattle.program_tree.specs.declared.keyword.Keyword.TheVariants.{Count}

-- One token: a name of a class, or an event. `cast` is an event that may be broadcast, `sent` is an event that may be
-- sent to a process, and `any` is an event that a process may get.
pub data Operand : Type 0 where
  name : Class → Operand
  cast : Operand
  sent : Operand
  any : Operand

-- the operands after the keyword of a statement
pub data Form : Type 0 where
  -- `;`
  ends : Form
  -- `;`, or `into`, a variable and `;`
  tells : Form
  takes : Operand → Form → Form
  -- an expression, and the operands after it
  values : Form → Form

-- the role of a keyword at the beginning of a statement
pub data Beginning : Type 0 where
  no_statement : Beginning
  action : Form → Beginning
  -- `if`, `while`, and `else`, which continues an `if`
  branches : Beginning
  loops : Beginning
  goes_on : Beginning

abbrev pub beginning : Keyword → Beginning
beginning Print = action (values ends)
beginning Send = action (values ends)
beginning If = branches
beginning Else = goes_on
beginning While = loops
beginning WaitUntil = action (values ends)
beginning WaitWhile = action (values ends)
beginning Yield = action ends
beginning YieldUntil = action (values ends)
beginning Spawn = action (takes (name a_thread) ends)
beginning Restart = action ends
beginning Exit = action ends
beginning Pause = action ends
beginning Acquire = action (takes (name a_semaphore) ends)
beginning Signal = action (takes (name a_semaphore) ends)
beginning Post = action (takes (name a_process) (takes sent (values tells)))
beginning Broadcast = action (takes cast (values tells))
beginning Synch = action (takes (name a_process) (takes sent (values ends)))
beginning Poll = action (takes (name a_process) ends)
beginning Start = action (takes (name a_process) ends)
beginning Kill = action (takes (name a_process) ends)
beginning Set = action (takes (name a_timer) (values ends))
beginning Reset = action (takes (name a_timer) ends)
beginning RestartTimer = action (takes (name a_timer) ends)
beginning Stop = action (takes (name a_timer) ends)
beginning k = no_statement

-- the statements that are not allowed in a simple block
abbrev pub waits : Keyword → Bool
waits WaitUntil = true
waits WaitWhile = true
waits Yield = true
waits YieldUntil = true
waits Spawn = true
waits Restart = true
waits Exit = true
waits Pause = true
waits Acquire = true
waits k = false

-- the role of a keyword in an expression: none, a value by itself, or a question about the thing in parentheses
pub data Word : Type 0 where
  no_value : Word
  alone : Word
  tells_of : Operand → Word

abbrev pub word_of : Keyword → Word
word_of Data = alone
word_of From = alone
word_of Now = alone
word_of Own = alone
word_of Is = tells_of any
word_of Fired = tells_of (name a_timer)
word_of Expired = tells_of (name a_timer)
word_of Gone = tells_of (name a_process)
word_of Running = tells_of (name a_process)
word_of Count = tells_of (name a_semaphore)
word_of k = no_value

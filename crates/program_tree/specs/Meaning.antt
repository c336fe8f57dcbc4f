-- The meaning of the types in `src`: the trees that they represent.
use Rattle.std.specs.Prelude.{ℕ, List, [], ◌∷◌, map, Option, Some, None}
use Rattle.program_tree.specs.declared.event_name.BroadcastEvent.{BroadcastEvent as CastRead}
use Rattle.program_tree.specs.declared.event_name.BroadcastEvent.TheVariants as cast_read
use Rattle.program_tree.specs.declared.event_name.PostedEvent.{PostedEvent as SentRead}
use Rattle.program_tree.specs.declared.event_name.PostedEvent.TheVariants as sent_read
use Rattle.program_tree.specs.declared.event_name.TestedEvent.{TestedEvent as AnyRead}
use Rattle.program_tree.specs.declared.event_name.TestedEvent.TheVariants as any_read
use Rattle.program_tree.specs.EventNames.{BroadcastEvent, continue, msg, «com», packet, declared}
use Rattle.program_tree.specs.EventNames.{PostedEvent, cast, exit}
use Rattle.program_tree.specs.EventNames.{TestedEvent, sent, init, poll, exited, timer}
use Rattle.program_tree.specs.declared.tree.Expr.{Expr, Number, Variable, Word, Sender, Moment, Mote, Is, Fired}
use Rattle.program_tree.specs.declared.tree.Expr.{Expired, Gone, Running, Count, Not', Binary'}
use Rattle.program_tree.specs.declared.tree.Action.{Action as ActionRead}
use Rattle.program_tree.specs.declared.tree.Action.TheVariants as read
use Rattle.program_tree.specs.declared.tree.Stmt.{Stmt}
use Rattle.program_tree.specs.declared.tree.Stmt.TheOpen as open_stmt
use Rattle.program_tree.specs.declared.tree.Stmt.TheOpen.{Stmt-F, Block-F}
use Rattle.program_tree.specs.declared.tree.Stmt.TheFolds.{fold-Stmt}
use Rattle.program_tree.specs.declared.tree.Block.{Block}
use Rattle.program_tree.specs.Tree.{Expression, number, variable, word, sender, moment, mote, is, fired, expired, gone}
use Rattle.program_tree.specs.Tree.{running, count, negation, binary, Action, assign, print, send, wait_until}
use Rattle.program_tree.specs.Tree.{wait_while, yield, yield_until, spawn, restart, exit, pause, acquire, signal, post}
use Rattle.program_tree.specs.Tree.{broadcast, synch, poll, start, kill, set, reset, restart_timer, stop, Statement}
use Rattle.program_tree.specs.Tree.{does, branch, while, Body, end, next, Otherwise, nothing, otherwise}

-- the meaning of the types of `src/event_name.rt`
abbrev pub cast_of : CastRead → BroadcastEvent ℕ
cast_of cast_read.Continue = continue
cast_of cast_read.Msg = msg
cast_of cast_read.Com = «com»
cast_of cast_read.Packet = packet
cast_of (cast_read.Declared e) = declared e.place

abbrev pub sent_of : SentRead → PostedEvent ℕ
sent_of (sent_read.Cast e) = cast (cast_of e)
sent_of sent_read.Exit = exit

abbrev pub any_of : AnyRead → TestedEvent ℕ
any_of (any_read.Sent e) = sent (sent_of e)
any_of any_read.Init = init
any_of any_read.Poll = poll
any_of any_read.Exited = exited
any_of any_read.Timer = timer

abbrev pub body_of : {N : Type 0} → List (Statement N) → Body N
body_of [] = end
body_of (s ∷ ss) = next s (body_of ss)

-- the meaning of the types of `src/tree.rt`
abbrev pub expression_of : Expr → Expression ℕ
expression_of (Number n) = number n
expression_of (Variable i) = variable i
expression_of Word = word
expression_of Sender = sender
expression_of Moment = moment
expression_of Mote = mote
expression_of (Is e) = is (any_of e)
expression_of (Fired t) = fired t
expression_of (Expired t) = expired t
expression_of (Gone p) = gone p
expression_of (Running p) = running p
expression_of (Count s) = count s
expression_of (Not' p e) = negation (expression_of e)
expression_of (Binary' o p a q b) = binary o (expression_of a) (expression_of b)

abbrev pub action_of : ActionRead → Action ℕ
action_of (read.Assign i e) = assign i (expression_of e)
action_of (read.Print e) = print (expression_of e)
action_of (read.Send e) = send (expression_of e)
action_of (read.WaitUntil e) = wait_until (expression_of e)
action_of (read.WaitWhile e) = wait_while (expression_of e)
action_of read.Yield = yield
action_of (read.YieldUntil e) = yield_until (expression_of e)
action_of (read.Spawn t) = spawn t
action_of read.Restart = restart
action_of read.Exit = exit
action_of read.Pause = pause
action_of (read.Acquire s) = acquire s
action_of (read.Signal s) = signal s
action_of (read.Post p e w i) = post p (sent_of e) (expression_of w) i
action_of (read.Broadcast e w i) = broadcast (cast_of e) (expression_of w) i
action_of (read.Synch p e w) = synch p (sent_of e) (expression_of w)
action_of (read.Poll p) = poll p
action_of (read.Start p) = start p
action_of (read.Kill p) = kill p
action_of (read.Set t e) = set t (expression_of e)
action_of (read.Reset t) = reset t
action_of (read.RestartTimer t) = restart_timer t
action_of (read.Stop t) = stop t

abbrev pub otherwise_of : {N : Type 0} → Option (Body N) → Otherwise N
otherwise_of None = nothing
otherwise_of (Some b) = otherwise b

-- one layer of a statement or a block, with each inner statement or block replaced by its meaning
abbrev pub statement_layer : Stmt-F (Statement ℕ) (Body ℕ) → Statement ℕ
statement_layer (open_stmt.Do a) = does (action_of a)
statement_layer (open_stmt.If e a b) = branch (expression_of e) a (otherwise_of b)
statement_layer (open_stmt.While e a) = while (expression_of e) a

abbrev pub block_layer : Block-F (Statement ℕ) (Body ℕ) → Body ℕ
block_layer b = body_of b.statements.items

abbrev pub statement_of : Stmt → Statement ℕ
statement_of = fold-Stmt (Statement ℕ) (Body ℕ) statement_layer block_layer

abbrev pub block_of : Block → Body ℕ
block_of b = body_of (map statement_of b.statements.items)

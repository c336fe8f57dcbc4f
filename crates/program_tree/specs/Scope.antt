-- Trees in which each number has a meaning. For each class, the numbers that have a meaning are given.
use Rattle.std.specs.Prelude.{ℕ, ◌+◌, nat_lt, Bool, true, ◌&&◌, List, [], ◌∷◌, Option, None, Some}
use Rattle.program_tree.specs.EventNames as event
use Rattle.program_tree.specs.EventNames.{BroadcastEvent, PostedEvent, TestedEvent}
use Rattle.program_tree.specs.Tree.{Class, an_event, a_semaphore, a_process, a_variable, a_timer, a_thread, Expression}
use Rattle.program_tree.specs.Tree.{variable, is, fired, expired, gone, running, count, negation, binary, Action}
use Rattle.program_tree.specs.Tree.{assign, print, send, wait_until, wait_while, yield, yield_until, spawn, restart}
use Rattle.program_tree.specs.Tree.{exit, pause, acquire, signal, post, broadcast, synch, poll, start, kill, set}
use Rattle.program_tree.specs.Tree.{reset, restart_timer, stop, Statement, does, branch, while, Body, end, next}
use Rattle.program_tree.specs.Tree.{Otherwise, nothing, otherwise}

-- the numbers of a class that have a meaning
abbrev pub Within : Type 0
Within = Class → ℕ → Bool

-- each number in an event, an expression, a statement or a block has a meaning
abbrev pub cast_fits : Within → BroadcastEvent ℕ → Bool
cast_fits w (event.declared i) = w an_event i
cast_fits w e = true

abbrev pub sent_fits : Within → PostedEvent ℕ → Bool
sent_fits w (event.cast e) = cast_fits w e
sent_fits w event.exit = true

abbrev pub any_fits : Within → TestedEvent ℕ → Bool
any_fits w (event.sent e) = sent_fits w e
any_fits w e = true

abbrev pub expression_fits : Within → Expression ℕ → Bool
expression_fits w (variable i) = w a_variable i
expression_fits w (is e) = any_fits w e
expression_fits w (fired t) = w a_timer t
expression_fits w (expired t) = w a_timer t
expression_fits w (gone p) = w a_process p
expression_fits w (running p) = w a_process p
expression_fits w (count s) = w a_semaphore s
expression_fits w (negation e) = expression_fits w e
expression_fits w (binary o a b) = expression_fits w a && expression_fits w b
expression_fits w e = true

abbrev pub into_fits : Within → Option ℕ → Bool
into_fits w None = true
into_fits w (Some i) = w a_variable i

abbrev pub action_fits : Within → Action ℕ → Bool
action_fits w (assign i e) = w a_variable i && expression_fits w e
action_fits w (print e) = expression_fits w e
action_fits w (send e) = expression_fits w e
action_fits w (wait_until e) = expression_fits w e
action_fits w (wait_while e) = expression_fits w e
action_fits w yield = true
action_fits w (yield_until e) = expression_fits w e
action_fits w (spawn t) = w a_thread t
action_fits w restart = true
action_fits w exit = true
action_fits w pause = true
action_fits w (acquire s) = w a_semaphore s
action_fits w (signal s) = w a_semaphore s
action_fits w (post p e a i) = w a_process p && sent_fits w e && expression_fits w a && into_fits w i
action_fits w (broadcast e a i) = cast_fits w e && expression_fits w a && into_fits w i
action_fits w (synch p e a) = w a_process p && sent_fits w e && expression_fits w a
action_fits w (poll p) = w a_process p
action_fits w (start p) = w a_process p
action_fits w (kill p) = w a_process p
action_fits w (set t e) = w a_timer t && expression_fits w e
action_fits w (reset t) = w a_timer t
action_fits w (restart_timer t) = w a_timer t
action_fits w (stop t) = w a_timer t

abbrev mutual
  pub statement_fits : Within → Statement ℕ → Bool
  statement_fits w (does a) = action_fits w a
  statement_fits w (branch e a o) = expression_fits w e && block_fits w a && other_fits w o
  statement_fits w (while e a) = expression_fits w e && block_fits w a

  pub block_fits : Within → Body ℕ → Bool
  block_fits w end = true
  block_fits w (next s b) = statement_fits w s && block_fits w b

  pub other_fits : Within → Otherwise ℕ → Bool
  other_fits w nothing = true
  other_fits w (otherwise b) = block_fits w b

-- the numbers of the threads before this thread have a meaning; every number of another class has a meaning
abbrev pub earlier_threads : (thread : ℕ) → Within
earlier_threads k a_thread i = nat_lt i k
earlier_threads k c i = true

-- each thread fits: the block of thread k is within `w k`
abbrev pub threads_fit : (ℕ → Within) → (k : ℕ) → List (Body ℕ) → Bool
threads_fit w k [] = true
threads_fit w k (b ∷ bs) = block_fits (w k) b && threads_fit w (k + 1) bs

-- The value of an expression, a number of 16 bits.
use Rattle.std.specs.Prelude.{ℕ, ◌+◌, ◌-◌, ◌*◌, ◌/◌, ◌%◌, ◌^◌, ◌==◌, nat_lt, nat_le, Bool, not, ◌&&◌, ◌||◌}
use Rattle.std.specs.Prelude.{if◌then◌else◌, List, slice_index}
use Rattle.std.specs.List.{list_any}
use Rattle.program_tree.specs.declared.event.SystemEvent.TheVariants as system
use Rattle.program_tree.specs.declared.event.Event.{Event}
use Rattle.program_tree.specs.declared.tree.Operator.{Operator}
use Rattle.program_tree.specs.declared.tree.Operator.TheVariants.{Add, Subtract, Multiply, Divide, Remainder, Equal}
use Rattle.program_tree.specs.declared.tree.Operator.TheVariants.{Unequal, Less, AtMost, Greater, AtLeast, And, Or}
use Rattle.program_tree.specs.Events.{system_number}
use Rattle.program_tree.specs.EventNames.{any_number}
use Rattle.program_tree.specs.Tree.{Expression, number, variable, word, sender, moment, mote, is, fired, expired, gone}
use Rattle.program_tree.specs.Tree.{running, count, negation, binary}
use Rattle.protothread.specs.Looks.{Looks}

-- the result of a test as a value
abbrev pub truth : Bool → ℕ
truth b = if b then 1 else 0

-- any value except 0 is true
abbrev pub holds : ℕ → Bool
holds n = not (n == 0)

-- sums, differences and products wrap at 16 bits; the quotient and the remainder of a division by 0 are 0
abbrev pub applied : Operator → ℕ → ℕ → ℕ
applied Add a b = (a + b) % 2 ^ 16
applied Subtract a b = (a + (2 ^ 16 - b)) % 2 ^ 16
applied Multiply a b = (a * b) % 2 ^ 16
applied Divide a b = if b == 0 then 0 else a / b
applied Remainder a b = if b == 0 then 0 else a % b
applied Equal a b = truth (a == b)
applied Unequal a b = truth (not (a == b))
applied Less a b = truth (nat_lt a b)
applied AtMost a b = truth (nat_le a b)
applied Greater a b = truth (nat_lt b a)
applied AtLeast a b = truth (nat_le b a)
applied And a b = truth (holds a && holds b)
applied Or a b = truth (holds a || holds b)

-- the event has this number and this word
abbrev pub is_event : Event → (number : ℕ) → (word : ℕ) → Bool
is_event event n w = event.number == n && event.word == w

-- Each variable is declared in the code. A list that was made from that code has a value for it.
abbrev pub value : (variables : List ℕ) → Event → Looks → Expression ℕ → ℕ
value variables event looks (number n) = n
value variables event looks (variable i) = slice_index variables i
value variables event looks word = event.word
value variables event looks sender = event.sender
value variables event looks moment = looks.moment % 2 ^ 16
value variables event looks mote = looks.mote
value variables event looks (is e) = truth (event.number == any_number e)
-- the event is TIMER of this timer, or EXITED of this process
value variables event looks (fired t) = truth (is_event event (system_number system.Timer) t)
value variables event looks (gone p) = truth (is_event event (system_number system.Exited) p)
value variables event looks (expired t) = truth (list_any (λ u. t == u) looks.expired)
value variables event looks (running p) = truth (list_any (λ q. p == q) looks.running)
value variables event looks (count s) = slice_index looks.counts s
value variables event looks (negation a) = truth (not (holds (value variables event looks a)))
value variables event looks (binary o a b) = applied o (value variables event looks a) (value variables event looks b)

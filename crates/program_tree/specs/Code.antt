-- The tree of a whole program.
use Rattle.std.specs.Prelude.{ℕ, ◌+◌, ◌-◌, nat_le, if◌then◌else◌, List, length, slice_get, Option, None}
use Rattle.program_tree.specs.Tree.{Body}
use Rattle.program_tree.specs.declared.timer.Timer.{Timer}

-- The code of a process: its number; the names and first values of its variables, in order; the number of its first
-- timer, the names of its event timers and, after them, of its callback timers with their blocks; its threads with
-- their blocks; the blocks that run before the body at POLL and EXIT, if the process has them; and the body.
pub record Code : Type 0 where
  pub number : ℕ
  pub variables : List (List ℕ)
  pub starts : List ℕ
  pub first_timer : ℕ
  pub etimers : List (List ℕ)
  pub ctimers : List (List ℕ)
  pub callbacks : List (Body ℕ)
  pub threads : List (List ℕ)
  pub thread_bodies : List (Body ℕ)
  pub on_poll : Option (Body ℕ)
  pub on_exit : Option (Body ℕ)
  pub body : Body ℕ

-- The names of the declared events; the names and the first counts of the semaphores; the processes in order, the
-- processes that start at boot, and the process that gets the radio packets; the code of each process; and the timers
-- of both kinds, in order.
pub record Tree : Type 0 where
  pub events : List (List ℕ)
  pub semaphores : List (List ℕ)
  pub counts : List ℕ
  pub processes : List (List ℕ)
  pub autostart : List ℕ
  pub receiver : Option ℕ
  pub codes : List Code
  pub timers : List Timer

-- the block of a callback timer, by the timer's number in the program
abbrev pub callback_at : Code → (timer : ℕ) → Option (Body ℕ)
callback_at c timer =
    if nat_le (c.first_timer + length c.etimers) timer then slice_get c.callbacks
    (timer - (c.first_timer + length c.etimers)) else None

-- the name of a declared event, by the event's number
abbrev pub declared_name : Tree → (number : ℕ) → Option (List ℕ)
declared_name t number = if nat_le 0x8b number then slice_get t.events (number - 0x8b) else None

-- The view of an `EventQueue` in contracts.
use Rattle.std.specs.Prelude.{ℕ, ◌+◌, List, [], ◌∷◌, ◌++◌, drop}
use Rattle.program_tree.specs.declared.event.Event.{Event}
use Rattle.program_tree.specs.declared.event.Target.{Target}
use Rattle.event_queue.specs.declared.queue.Posted.{Posted}

-- the waiting events (the oldest first), the number of events ever accepted, and the number of events that may wait
pub record Queue : Type 0 where
  pub events : List Posted
  pub accepted : ℕ
  pub capacity : ℕ

-- no event waits, and none was ever accepted
abbrev pub empty_queue : ℕ → Queue
empty_queue n = record { events = []; accepted = 0; capacity = n }

-- the event is appended; its serial is the number of events accepted before it
abbrev pub with_posted : Queue → Target → Event → Queue
with_posted q t e = record {
  events = q.events ++ record { serial = q.accepted; target = t; event = e } ∷ [];
  accepted = q.accepted + 1;
  capacity = q.capacity;
}

-- the queue without its oldest event, if it has one
abbrev pub without_front : Queue → Queue
without_front q = record { events = drop 1 q.events; accepted = q.accepted; capacity = q.capacity }

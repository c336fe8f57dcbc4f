-- The serials of waiting events.
use Rattle.std.specs.Prelude.{ℕ, ◌+◌, List, [], ◌∷◌, length}
use Rattle.event_queue.specs.declared.queue.Posted.{Posted}
use Rattle.event_queue.specs.declared.queue.Waiting.{Waiting}
use Rattle.event_queue.specs.Queue.{Queue}

-- the waiting events, numbered from this serial on
abbrev pub posted_from : (serial : ℕ) → List Waiting → List Posted
posted_from serial [] = []
posted_from serial (w ∷ ws) =
    record { serial = serial; target = w.target; event = w.event } ∷ posted_from (serial + 1) ws

-- the queue in which these events wait, after this many events were taken
abbrev pub queue_holding : List Waiting → (taken capacity : ℕ) → Queue
queue_holding ws taken capacity =
    record { events = posted_from taken ws; accepted = taken + length ws; capacity = capacity }

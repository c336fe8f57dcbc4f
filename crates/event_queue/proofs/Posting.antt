-- The view of the queue, made from its waiting events, after an event is posted or taken.
use Rattle.std.proofs.Common.{ℕ, suc, ◌≡◌, ◌+◌, List, [], ◌∷◌, ◌++◌, length, refl, ap, ◌∙◌, arith}
use Rattle.std.proofs.lemmas.List.{length-append}
use Rattle.circular_buffer.specs.Buffer.{Buffer, buffer}
use Rattle.event_queue.specs.Queue.{with_posted}
use Rattle.event_queue.specs.declared.queue.Posted.{Posted}
use Rattle.event_queue.specs.declared.queue.Waiting.{Waiting}
use Rattle.event_queue.specs.Posting.{posted_from, queue_holding}

-- one more event has the serial that follows theirs
pub posted_one_more : (k : ℕ) (ws : List Waiting) (w : Waiting)
    → posted_from k (ws ++ w ∷ []) ≡ posted_from k ws ++ record { serial = k + length ws; target = w.target; event = w.event } ∷ []
posted_one_more k [] w =
    let same : k ≡ k + 0 = omega arith in ap (λ n. record { serial = n; target = w.target; event = w.event } ∷ []) same
posted_one_more k (v ∷ ws) w =
    let same : (k + 1) + length ws ≡ k + suc (length ws) = omega arith in
    ap (λ (ps : List Posted). record { serial = k; target = v.target; event = v.event } ∷ ps)
    (posted_one_more (k + 1) ws w ∙ ap (λ n. posted_from (k + 1) ws ++ record { serial = n; target = w.target; event = w.event } ∷ []) same)

-- the number of events stays the same
pub length_posted : (k : ℕ) (ws : List Waiting) → length (posted_from k ws) ≡ length ws
length_posted k [] = refl
length_posted k (w ∷ ws) = ap suc (length_posted (k + 1) ws)

-- appending an event to the ring buffer has the effect of posting it to the queue
pub posts : (old new : Buffer Waiting) (taken : ℕ) (w : Waiting) → new ≡ buffer (old.items ++ w ∷ []) old.capacity
    → queue_holding new.items taken new.capacity ≡ with_posted (queue_holding old.items taken old.capacity) w.target w.event
posts old new taken w is =
    let more : taken + length (old.items ++ w ∷ []) ≡ (taken + length old.items) + 1 = omega (arith, length-append old.items (w ∷ [])) in
    rw (is, posted_one_more taken old.items w, more) refl

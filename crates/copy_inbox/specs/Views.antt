-- The views of a queue's passes: the first view of a pass, and its view after each step of the queue.
use Rattle.std.specs.Prelude.{ℕ, ◌+◌, Bool, true, false, List, [], ◌∷◌, ◌++◌}
use Rattle.copy_inbox.specs.declared.items.Carried.{Carried}
use Rattle.copy_inbox.specs.declared.items.Item.{Item}
use Rattle.copy_inbox.specs.declared.rule.Gathered.{Gathered}
use Rattle.copy_inbox.specs.declared.rule.TakerState.{TakerState}
use Rattle.copy_inbox.specs.declared.rule.SenderState.{SenderState}
use Rattle.copy_inbox.specs.declared.rule.View.{View}
use Rattle.copy_inbox.specs.declared.rule.View.TheVariants.{Taking, Sending, Spent}

abbrev pub make_taker_state : (marked : Bool) → (made : ℕ) → List Item → List Gathered → TakerState
make_taker_state marked made taken gathered =
    record { marked = marked; made = made; taken = taken; gathered = gathered }

abbrev pub make_sender_state : (marked : Bool) → ℕ → List Carried → SenderState
make_sender_state marked s pushed = record { marked = marked; number = s; pushed = pushed }

abbrev pub make_gathered : ℕ → ℕ → List Carried → Gathered
make_gathered s made pushed = record { number = s; made = made; pushed = pushed }

-- the first pass is the taker's
abbrev pub new_taker : View
new_taker = Taking (make_taker_state false 0 [] [])

-- a split: the taker makes one more sender, and the new pass belongs to this sender
abbrev pub with_one_more : View → View
with_one_more (Taking d) = Taking (make_taker_state d.marked (d.made + 1) d.taken d.gathered)
with_one_more (Sending p) = Sending p
with_one_more Spent = Spent

abbrev pub next_sender : View → View
next_sender (Taking d) = Sending (make_sender_state d.marked d.made [])
next_sender (Sending p) = Spent
next_sender Spent = Spent

-- a split before any sender is made: from then on the inbox has marks, and the new pass belongs to nobody
abbrev pub with_marks : View → View
with_marks (Taking d) = Taking (make_taker_state true d.made d.taken d.gathered)
with_marks (Sending p) = Sending p
with_marks Spent = Spent

abbrev pub no_sender : View → View
no_sender v = Spent

-- a join: the taker gathers the sender, and the sender's pass is spent
abbrev pub with_gathered : View → View → View
with_gathered (Taking d) (Sending p) =
    Taking (make_taker_state d.marked d.made d.taken (make_gathered p.number d.made p.pushed ∷ d.gathered))
with_gathered (Taking d) (Taking e) = Taking d
with_gathered (Taking d) Spent = Taking d
with_gathered (Sending p) w = Sending p
with_gathered Spent w = Spent

-- a push: the item is the last that the sender pushed
abbrev pub with_pushed : View → Item → View
with_pushed (Sending p) x = Sending (make_sender_state p.marked p.number (p.pushed ++ x.what ∷ []))
with_pushed (Taking d) x = Taking d
with_pushed Spent x = Spent

-- a pop: the item is the last that the taker took
abbrev pub with_taken : View → Item → View
with_taken (Taking d) x = Taking (make_taker_state d.marked d.made (d.taken ++ x ∷ []) d.gathered)
with_taken (Sending p) x = Sending p
with_taken Spent x = Spent

-- The views of takers and senders in contracts, and the properties of each taker and sender.
use Rattle.std.specs.Prelude.{◌≡◌, ℕ, ◌+◌, ◌<◌, ◌≤◌, ◌^◌, true, false, cond, ◌⊎◌, List, [], ◌∷◌, ◌++◌, length}
use Rattle.std.specs.Prelude.{slice_index_or}
use Rattle.std.specs.List.{AllByRecursion as Each}
use Rattle.std.specs.declared.alloc.Global.{Global}
use Rattle.crossbeam_queue.specs.SegTies.{SegId}
use Rattle.radio_packet.specs.declared.copy.RadioCopy.{RadioCopy}
use Rattle.copy_inbox.specs.declared.items.Carried.{Carried}
use Rattle.copy_inbox.specs.declared.items.Item.{Item}
use Rattle.copy_inbox.specs.declared.count.Count.{Count}
use Rattle.copy_inbox.specs.declared.rule.Gathered.{Gathered}
use Rattle.copy_inbox.specs.declared.rule.TakerState.{TakerState}
use Rattle.copy_inbox.specs.declared.rule.SenderState.{SenderState}
use Rattle.copy_inbox.specs.declared.rule.View.{View}
use Rattle.copy_inbox.specs.declared.rule.View.TheVariants.{Taking, Sending, Spent}
use Rattle.copy_inbox.specs.Items.{carries_packet, ArePackets, Packets, part, OfMade}
use Rattle.copy_inbox.specs.Gathered.{is_gathered, untaken_of, known_of, TookFronts, Whole, Later}
use Rattle.copy_inbox.specs.Views.{make_taker_state, make_sender_state, make_gathered}

-- the identity of the inbox
abbrev pub InboxId : Type 0
InboxId = SegId Global

-- a taker's inbox, whether this inbox has marks, the number of senders that the taker made, the items that it took,
-- and the senders that it gathered
pub record TakerView : Type 0 where
  pub inbox : InboxId
  pub state : TakerState

-- a sender's inbox, whether this inbox has marks, the sender's number, and the items that it pushed
pub record SenderView : Type 0 where
  pub inbox : InboxId
  pub state : SenderState

-- ---- the effect of each call on a taker, and of a push on a sender
abbrev pub after_sender : TakerView → TakerView
after_sender t = record {
  inbox = t.inbox;
  state = make_taker_state t.state.marked (t.state.made + 1) t.state.taken t.state.gathered;
}

abbrev pub after_pushing : SenderState → Carried → SenderState
after_pushing p what = make_sender_state p.marked p.number (p.pushed ++ what ∷ [])

abbrev pub after_gather : TakerView → SenderState → TakerView
after_gather t p = record {
  inbox = t.inbox;
  state = make_taker_state t.state.marked t.state.made t.state.taken
      (make_gathered p.number t.state.made p.pushed ∷ t.state.gathered);
}

abbrev pub after_taking : TakerView → List Item → TakerView
after_taking t xs = record {
  inbox = t.inbox;
  state = make_taker_state t.state.marked t.state.made (t.state.taken ++ xs) t.state.gathered;
}

-- packets with these copies were appended to the items taken
abbrev pub TakesCopies : TakerView → TakerView → List RadioCopy → Type 0
TakesCopies old new copies = (items : List Item) × ArePackets items copies × (new ≡ after_taking old items)

-- exactly n items are known, and no item of a sender that isn't gathered can be before one of them
abbrev pub IsAllKnown : TakerState → ℕ → Type 0
IsAllKnown state n = (n ≡ known_of state.gathered state.taken) × Later state.made state.gathered

-- each sender that was made is gathered
abbrev pub AllGathered : TakerState → Type 0
AllGathered d = (s : ℕ) → s < d.made → is_gathered d.gathered s ≡ true

-- the remaining items of each gathered sender are packets
abbrev pub PacketsLeft : TakerState → Type 0
PacketsLeft d = Each (λ (g : Gathered). Packets (untaken_of d.taken g)) d.gathered

-- the inbox has no marks, or all marks of the gathered senders were taken
abbrev pub NoMarkLeft : TakerState → Type 0
NoMarkLeft d = (d.marked ≡ false) ⊎ PacketsLeft d

-- the remaining items are packets with these copies: together with the items taken before, they are all items that the
-- gathered senders pushed; and no item is from a sender that wasn't made
abbrev pub Empties : TakerState → List RadioCopy → Type 0
Empties d copies = (rest : List Item) × ArePackets rest copies × Whole d.gathered (d.taken ++ rest)
    × OfMade d.made (d.taken ++ rest)

-- ---- properties of each taker and sender, about the knowledge of its pass and about its counts
abbrev pub taker_state_in : View → TakerState
taker_state_in (Taking d) = d
taker_state_in (Sending p) = make_taker_state false 0 [] []
taker_state_in Spent = make_taker_state false 0 [] []

abbrev pub sender_state_in : View → SenderState
sender_state_in (Sending p) = p
sender_state_in (Taking d) = make_sender_state false 0 []
sender_state_in Spent = make_sender_state false 0 []

-- the taker's count of the sender numbered s
abbrev pub count_of : TakerState → ℕ → Count
count_of d s = record { taken = length (part s d.taken); gathered = is_gathered d.gathered s }

-- a taker in this state
pub record IsTakerIn (d : TakerState) (v : View) (counts : List Count) (known : ℕ) : Type 0 where
  pub is : v ≡ Taking d
  pub made : length counts ≡ d.made
  pub counted : (s : ℕ) (c : Count) → s < d.made → slice_index_or counts s c ≡ count_of d s
  pub known_is : known ≡ known_of d.gathered d.taken
  pub begun : TookFronts d.gathered d.taken
  pub of_made : OfMade d.made d.taken
  pub numbers : Each (λ (g : Gathered). g.number < d.made) d.gathered

-- a taker with these counts and this number of known items
abbrev pub IsTaker : View → List Count → ℕ → Type 0
IsTaker v counts known = IsTakerIn (taker_state_in v) v counts known

-- a sender, and the number of items that it pushed
pub record IsSender (v : View) (count : ℕ) : Type 0 where
  pub is : v ≡ Sending (sender_state_in v)
  pub counted : count ≡ length (sender_state_in v).pushed
  pub few : count ≤ 2 ^ 62

-- the taker may take only packets: the inbox has no marks, or all senders are gathered and their remaining items are
-- packets
abbrev pub TakesPackets : TakerState → Type 0
TakesPackets d = (d.marked ≡ false) ⊎ (AllGathered d × PacketsLeft d)

abbrev pub state_with : TakerState → Item → TakerState
state_with d x = make_taker_state d.marked d.made (d.taken ++ x ∷ []) d.gathered

-- the taker may take x next; that x is the oldest item isn't said
pub record MayBeTaken (d : TakerState) (x : Item) : Type 0 where
  -- the item is from a sender that was made, and no more items are taken from this sender than a sender may push
  pub number : x.sender < d.made
  pub few : length (part x.sender (d.taken ++ x ∷ [])) ≤ 2 ^ 62
  -- one fewer item is known, if the item's sender was gathered
  pub known : known_of d.gathered d.taken
      ≡ cond (is_gathered d.gathered x.sender) 1 0 + known_of d.gathered (d.taken ++ x ∷ [])
  -- the item is a packet if the taker may take only packets, and then the next items are packets too
  pub packet : TakesPackets d → (carries_packet x.what ≡ true) × TakesPackets (state_with d x)
  -- the item's sender was gathered, if an item is known and no item of a sender that isn't gathered can be before a
  -- known one
  pub first : Later d.made d.gathered → 0 < known_of d.gathered d.taken → is_gathered d.gathered x.sender ≡ true

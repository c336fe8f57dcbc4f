-- The invariant of an inbox: a property of its queue and its passes that holds between any two atomic steps.
use Rattle.std.specs.Prelude.{◌≡◌, ℕ, ◌^◌, ◌<◌, ◌≤◌, false, List, [], ◌∷◌, ◌++◌, length, Option, Some, None}
use Rattle.std.specs.List.{AllByRecursion as Each}
use mathlib.Core.Option.{some}
use lib.ListN.{get_elem?}
use Rattle.copy_inbox.specs.declared.items.Carried.{Carried}
use Rattle.copy_inbox.specs.declared.items.Item.{Item}
use Rattle.copy_inbox.specs.declared.rule.Gathered.{Gathered}
use Rattle.copy_inbox.specs.declared.rule.TakerState.{TakerState}
use Rattle.copy_inbox.specs.declared.rule.View.{View}
use Rattle.copy_inbox.specs.declared.rule.View.TheVariants.{Taking, Sending, Spent}
use Rattle.copy_inbox.specs.Items.{part, Packets}
use Rattle.copy_inbox.specs.Gathered.{is_gathered, Apart}
use Rattle.copy_inbox.specs.Views.{make_sender_state, with_pushed, with_taken}

-- each item from a sender numbered `made` or above is after all items from the sender s
abbrev pub Behind : ℕ → ℕ → List Item → Type 0
Behind s made [] = Unit {0}
Behind s made (x ∷ xs) = (made ≤ x.sender → part s (x ∷ xs) ≡ []) × Behind s made xs

-- a pass with a taker's view is the taker's pass, and a pass with a sender's view is that sender's pass; they agree on
-- whether there are marks
abbrev pub PassFits : ℕ → (ℕ → Option ℕ) → TakerState → (ℕ → List Carried) → ℕ → View → Type 0
PassFits taker pass_of d pushed pass (Taking e) = (pass ≡ taker) × (e ≡ d)
PassFits taker pass_of d pushed pass (Sending p) =
    (pass_of p.number ≡ Some pass) × (p.pushed ≡ pushed p.number) × (p.marked ≡ d.marked)
PassFits taker pass_of d pushed pass Spent = Unit {0}

-- a gathered sender was made, its pass is spent, and the taker knows all items that it pushed; in the queue, no item
-- of a sender that was made after it was gathered is before one of its items
pub record Joined (made : ℕ) (pass_of : ℕ → Option ℕ) (pushed : ℕ → List Carried) (items : List Item)
    (g : Gathered) : Type 0 where
  pub was_made : g.number < made
  pub spent : pass_of g.number ≡ None
  pub all : pushed g.number ≡ g.pushed
  pub behind : Behind g.number g.made items

-- For each sender, the items taken, followed by those in the queue, are the items that it pushed, in order; and there
-- are no other items. Each sender that was made has a pass or is gathered. If there are no marks, only packets were
-- pushed.
pub record Sound (d : TakerState) (pass_of : ℕ → Option ℕ) (pushed : ℕ → List Carried)
    (items : List Item) : Type 0 where
  pub parts : (s : ℕ) → part s (d.taken ++ items) ≡ pushed s
  pub few : (s : ℕ) → length (pushed s) ≤ 2 ^ 62
  pub unmade : (s : ℕ) → d.made ≤ s → (pushed s ≡ []) × (pass_of s ≡ None)
  pub still : (s : ℕ) → s < d.made → is_gathered d.gathered s ≡ false → (pass : ℕ) × (pass_of s ≡ Some pass)
  pub joined : Each (Joined d.made pass_of pushed items) d.gathered
  pub apart : Apart d.gathered
  pub plain : d.marked ≡ false → (s : ℕ) → Packets (pushed s)

-- The rule for the items in the queue, the oldest first, and the view of each pass. One pass is the taker's: its view
-- is the items taken and the senders gathered. `pass_of` maps each sender that isn't gathered to its pass, whose view
-- is the items that the sender pushed.
pub record InboxRule (items : List Item) (views : List View) : Type 0 where
  pub taker : ℕ
  pub pass_of : ℕ → Option ℕ
  pub taker_state : TakerState
  pub pushed : ℕ → List Carried
  pub sound : Sound taker_state pass_of pushed items
  pub taking : get_elem? views taker ≡ some (Taking taker_state)
  pub sending : (s pass : ℕ) → pass_of s ≡ Some pass
      → get_elem? views pass ≡ some (Sending (make_sender_state taker_state.marked s (pushed s)))
  pub fits : (pass : ℕ) (v : View) → get_elem? views pass ≡ some v → PassFits taker pass_of taker_state pushed pass v

-- ---- the knowledge that a pass gains from its step
-- the rule held while the queue had these items and a pass had this view
abbrev pub SeenBy : View → List Item → Type 0
SeenBy v items = (views : List View) × (pass : ℕ) × InboxRule items views × (get_elem? views pass ≡ some v)

-- the item was the oldest in the queue, and is now the last that the taker took
abbrev pub Took : View → Item → View → Type 0
Took v x w = (w ≡ with_taken v x) × ((rest : List Item) × SeenBy v (x ∷ rest))

-- the item is now the last that the sender pushed
abbrev pub Pushed : View → Item → View → Type 0
Pushed v x w = w ≡ with_pushed v x

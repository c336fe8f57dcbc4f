-- The copies that a taker took, and the copies that its gathered senders pushed, mote by mote.
use Rattle.std.specs.Prelude.{◌≡◌, ℕ, ◌<◌, ◌≤◌, false, List, [], ◌∷◌, ◌++◌, filter}
use Rattle.std.specs.List.{AllByRecursion as Each, filter_map}
use Rattle.radio_packet.specs.declared.copy.RadioCopy.{RadioCopy}
use Rattle.window_laws.specs.Windows.{is_from_sender}
use Rattle.copy_inbox.specs.declared.items.Carried.{Carried}
use Rattle.copy_inbox.specs.declared.items.Item.{Item}
use Rattle.copy_inbox.specs.declared.rule.Gathered.{Gathered}
use Rattle.copy_inbox.specs.declared.rule.TakerState.{TakerState}
use Rattle.copy_inbox.specs.Items.{copies_of, carried_copy, part}
use Rattle.copy_inbox.specs.Gathered.{is_gathered, Apart, TookFronts, Whole, Later, NoOthers}
use Rattle.copy_inbox.specs.Handles.{TakerView}

-- from each mote, the two lists have the same copies, in the same order
abbrev pub SameOfEach : List RadioCopy → List RadioCopy → Type 0
SameOfEach xs ys = (s : ℕ) → filter (is_from_sender s) xs ≡ filter (is_from_sender s) ys

-- the copies among these items, in order, without the marks
abbrev pub copies_in : List Carried → List RadioCopy
copies_in what = filter_map carried_copy what

-- the copies of all gathered lists, the oldest list first
abbrev pub copies_gathered : List Gathered → List RadioCopy
copies_gathered [] = []
copies_gathered (g ∷ gs) = copies_gathered gs ++ copies_in g.pushed

-- the copies that a worker took from its inbox
abbrev pub taken_by : TakerView → List RadioCopy
taken_by t = copies_of t.state.taken

-- the copies that the gathered senders delivered to the worker
abbrev pub gathered_by : TakerView → List RadioCopy
gathered_by t = copies_gathered t.state.gathered

-- these items are all that were gathered and aren't taken yet, interleaved in any way
abbrev pub IsRest : TakerState → List Item → Type 0
IsRest d rest = Whole d.gathered (d.taken ++ rest) × NoOthers d.gathered d.taken (d.taken ++ rest)

-- The properties of each taker, between windows and during windows.
pub record IsOrderly (d : TakerState) : Type 0 where
  -- each mote's copies are taken in the order in which they were gathered, in whatever way the rest is interleaved
  pub in_order : (rest : List Item) → IsRest d rest
      → SameOfEach (copies_of (d.taken ++ rest)) (copies_gathered d.gathered)
  pub begun : TookFronts d.gathered d.taken
  pub unseen : (s : ℕ) → is_gathered d.gathered s ≡ false → part s d.taken ≡ []
  pub apart : Apart d.gathered
  pub later : Later d.made d.gathered
  pub numbers : Each (λ (g : Gathered). (g.number < d.made) × (g.made ≤ d.made)) d.gathered

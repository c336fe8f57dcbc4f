-- The senders that a taker has got back, and its knowledge of the items that these senders pushed.
use Rattle.std.specs.Prelude.{◌≡◌, ℕ, ◌<◌, ◌≤◌, ◌==◌, Bool, false, List, [], ◌∷◌, length, drop}
use Rattle.std.specs.List.{AllByRecursion as Each, list_any, sum_by}
use Rattle.copy_inbox.specs.declared.items.Carried.{Carried}
use Rattle.copy_inbox.specs.declared.items.Item.{Item}
use Rattle.copy_inbox.specs.declared.rule.Gathered.{Gathered}
use Rattle.copy_inbox.specs.Items.{part, HasPrefix}

abbrev pub is_gathered : List Gathered → ℕ → Bool
is_gathered gathered s = list_any (λ (g : Gathered). g.number == s) gathered

-- no sender was gathered twice
abbrev pub Apart : List Gathered → Type 0
Apart [] = Unit {0}
Apart (g ∷ gs) = (is_gathered gs g.number ≡ false) × Apart gs

-- the items of a gathered sender that haven't been taken yet
abbrev pub untaken_of : List Item → Gathered → List Carried
untaken_of taken g = drop (length (part g.number taken)) g.pushed

-- the number of items of gathered senders that haven't been taken yet
abbrev pub known_of : List Gathered → List Item → ℕ
known_of gathered taken = sum_by (λ g. length (untaken_of taken g)) gathered

-- each sender that isn't gathered was made after all gathered senders were gathered
abbrev pub Later : ℕ → List Gathered → Type 0
Later made gathered = (u : ℕ) → u < made → is_gathered gathered u ≡ false → Each (λ (g : Gathered). g.made ≤ u) gathered

-- for each gathered sender, the items taken are a prefix of those that it pushed
abbrev pub TookFronts : List Gathered → List Item → Type 0
TookFronts gathered taken = Each (λ (g : Gathered). HasPrefix g.pushed (part g.number taken)) gathered

-- for each gathered sender, the items taken are all that it pushed
abbrev pub Whole : List Gathered → List Item → Type 0
Whole gathered taken = Each (λ (g : Gathered). part g.number taken ≡ g.pushed) gathered

-- nothing more was taken from senders that aren't gathered
abbrev pub NoOthers : List Gathered → (old new : List Item) → Type 0
NoOthers gathered old new = (s : ℕ) → is_gathered gathered s ≡ false → part s new ≡ part s old

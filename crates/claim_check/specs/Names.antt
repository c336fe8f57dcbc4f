-- The names of processes that claims may use.
use Rattle.std.specs.Prelude.{◌≡◌, ◌⊎◌, ℕ, ◌<◌, List, [], Option, Some, length, option_map, slice_get}
use Rattle.mote_net.specs.Net.{NetModel}

-- the names of a mote's processes
abbrev pub names_at : NetModel → (mote : ℕ) → Option (List (List ℕ))
names_at net mote = option_map (λ m. m.tree.processes) (slice_get net.motes mote)

-- the processes of each mote have these names
abbrev pub HaveNames : NetModel → List (List ℕ) → Type 0
HaveNames net names = (mote : ℕ) → mote < length net.motes → names_at net mote ≡ Some names

-- the processes of the motes don't all have the same names
abbrev pub NamesDiffer : NetModel → Type 0
NamesDiffer net = (names : List (List ℕ)) → ¬ HaveNames net names

-- the names that claims may use: those that the processes of each mote have; if the motes differ, there are none
abbrev pub AreNames : NetModel → List (List ℕ) → Type 0
AreNames net names = HaveNames net names ⊎ (NamesDiffer net × (names ≡ []))

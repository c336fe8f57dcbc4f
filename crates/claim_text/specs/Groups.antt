-- Motes in groups: neighbours of which the same is said.
use Rattle.std.specs.Prelude.{ℕ, Bool, false, ◌+◌, ◌&&◌, ◌==◌, if◌then◌else◌, Option, Some, None, List, [], ◌∷◌, ◌++◌}
use Rattle.std.specs.Prelude.{codes, decimal, is_some, bytes_eq}

-- a mote, or the net, and the text of what is said of it
pub record Entry : Type 0 where
  pub mote : Option ℕ
  pub body : List ℕ

-- the mote of the first of these entries, if the same is said of it as of the entry before them
abbrev pub mote_after : Entry → (rest : List Entry) → Option ℕ
mote_after e [] = None
mote_after e (f ∷ fs) = if is_some e.mote && bytes_eq e.body f.body then f.mote else None

-- the mote of an entry, if the same is said of the next one
abbrev pub mote_before : Entry → (rest : List Entry) → Option ℕ
mote_before e rest = if is_some (mote_after e rest) then e.mote else None

-- how many groups there are
abbrev pub groups_in : (before : Option ℕ) → List Entry → ℕ
groups_in before [] = 0
groups_in before (e ∷ es) = (if is_some before then 0 else 1) + groups_in (mote_before e es) es

abbrev pub is_next : ℕ → Option ℕ → Bool
is_next mote None = false
is_next mote (Some next) = next == mote + 1

-- A mote between these motes of its group, such as `motes 1 to 3, 7`. A mote that follows the one before it is in a span
-- with it, and the last one of a span is behind `to`.
abbrev pub mote_item : (before : Option ℕ) → (mote : ℕ) → (after : Option ℕ) → List ℕ
mote_item None mote after = (if is_some after then codes "motes" else codes "mote") ++ (codes " " ++ decimal mote)
mote_item (Some before) mote after =
    if is_next before (Some mote) then (if is_next mote after then [] else codes " to " ++ decimal mote)
    else codes ", " ++ decimal mote

abbrev pub subject_text : (before mote after : Option ℕ) → List ℕ
subject_text before None after = codes "the net"
subject_text before (Some mote) after = mote_item before mote after

-- a word between two groups
abbrev pub separator : (between : List ℕ) → (rest : List Entry) → List ℕ
separator between [] = []
separator between (e ∷ es) = between

-- what is said of all motes of a group stands behind the last one; if there are several, a word is in front of it
abbrev pub ending_text : (between together : List ℕ) → (before : Option ℕ) → (body : List ℕ) → (rest : List Entry)
    → (after : Option ℕ) → List ℕ
ending_text between together before body rest (Some after) = []
ending_text between together before body rest None =
    (if is_some before then together else []) ++ (body ++ separator between rest)

abbrev pub entry_text : (between together : List ℕ) → (before : Option ℕ) → Entry → (rest : List Entry) → List ℕ
entry_text between together before e rest = (let after = mote_after e rest in
    subject_text before e.mote after ++ ending_text between together before e.body rest after)

abbrev pub entries_text : (between together : List ℕ) → (before : Option ℕ) → List Entry → List ℕ
entries_text between together before [] = []
entries_text between together before (e ∷ es) =
    entry_text between together before e es ++ entries_text between together (mote_before e es) es

-- The lines of a text that are faults, and the line that isn't read.
use Rattle.std.specs.Prelude.{◌≡◌, ◌≢◌, ◌<◌, ◌+◌, ◌*◌, ◌-◌, ◌^◌, ◌≤◌, ℕ, max, min, Bool, true, false, ◌==◌, not, if◌then◌else◌, Option, Some, None}
use Rattle.std.specs.Prelude.{List, [], ◌∷◌, ◌++◌, All, filter, length, map, Result, Ok, Err}
use Rattle.std.specs.List.{slice_split, take_while, zip}
use Rattle.radio_faults.specs.declared.error.FaultsError.{FaultsError}
use Rattle.radio_faults.specs.declared.error.FaultsError.TheVariants.{Memory, NotAFault}
use Rattle.radio_faults.specs.declared.fault.Fault.{Fault}
use Rattle.radio_faults.specs.declared.fault.Fault.TheVariants.{Link, Silent, Lost, LostToAll, Late, Off}
use Rattle.radio_faults.specs.FaultText.{fault_text}

-- the lines of a text, without their line feeds
abbrev pub lines_of : (text : List ℕ) → List (List ℕ)
lines_of text = slice_split (λ byte. byte == 10) text

-- a line that isn't empty and doesn't begin with `#`
abbrev pub is_fault_line : (line : List ℕ) → Bool
is_fault_line [] = false
is_fault_line (first ∷ rest) = not (first == 35)

-- the words of a line, which single spaces part
abbrev pub words_of : (line : List ℕ) → List (List ℕ)
words_of line = slice_split (λ byte. byte == 32) line

-- a mote doesn't come back before it is off
abbrev pub ComesBack : (from : ℕ) → (until : Option ℕ) → Type 0
ComesBack from None = Unit {0}
ComesBack from (Some until) = (from ≤ until) × (until < 2 ^ 64)

-- the numbers of a fault fit in their types, and a mote that is off doesn't come back before
abbrev pub FitsFault : Fault → Type 0
FitsFault (Link from to) = (from < 2 ^ 16) × (to < 2 ^ 16)
FitsFault (Silent mote) = mote < 2 ^ 16
FitsFault (Lost sender number to) = (sender < 2 ^ 16) × (number < 2 ^ 64) × (to < 2 ^ 16)
FitsFault (LostToAll sender number) = (sender < 2 ^ 16) × (number < 2 ^ 64)
FitsFault (Late sender number to by) = (sender < 2 ^ 16) × (number < 2 ^ 64) × (to < 2 ^ 16) × (by < 2 ^ 32)
FitsFault (Off mote from until) = (mote < 2 ^ 16) × (from < 2 ^ 64) × ComesBack from until

-- the number that digits write behind others, or the largest that fits
abbrev pub number_behind : ℕ → (digits : List ℕ) → ℕ
number_behind n [] = n
number_behind n (digit ∷ more) = number_behind (min (n * 10 + (digit - 48)) 18446744073709551615) more

abbrev pub number_of : (word : List ℕ) → ℕ
number_of word = number_behind 0 word

abbrev pub mote_of : (word : List ℕ) → ℕ
mote_of word = min (number_of word) 65535

abbrev pub delay_of : (word : List ℕ) → ℕ
delay_of word = min (number_of word) 4294967295

-- the fault of this packet that has as many words behind the packet, with their numbers
abbrev pub nearest_of : (sender number : ℕ) → (words : List (List ℕ)) → Option Fault
nearest_of sender number (_ ∷ _ ∷ []) = Some (LostToAll sender number)
nearest_of sender number (_ ∷ _ ∷ _ ∷ _ ∷ _ ∷ _ ∷ _ ∷ to ∷ []) = Some (Lost sender number (mote_of to))
nearest_of sender number (_ ∷ by ∷ _ ∷ _ ∷ _ ∷ _ ∷ _ ∷ _ ∷ to ∷ []) =
    Some (Late sender number (mote_of to) (delay_of by))
nearest_of sender number words = None

-- the moment that a word writes, or the next one after this if that is later
abbrev pub later_of : (from : ℕ) → (word : List ℕ) → ℕ
later_of from word = max (number_of word) (min (from + 1) 18446744073709551615)

-- the fault of a mote that is off or restarts that has as many words behind the fifth, with their numbers
abbrev pub nearest_off : (mote : ℕ) → (fifth : List ℕ) → (words : List (List ℕ)) → Option Fault
nearest_off mote at [] = Some (Off mote (number_of at) (Some (number_of at)))
nearest_off mote _ (from ∷ _ ∷ []) = Some (Off mote (number_of from) None)
nearest_off mote _ (from ∷ _ ∷ until ∷ []) = Some (Off mote (number_of from) (Some (later_of (number_of from) until)))
nearest_off mote fifth words = None

-- the word begins with the letter m
abbrev pub begins_with_m : (word : List ℕ) → Bool
begins_with_m [] = false
begins_with_m (first ∷ rest) = first == 109

-- the fault whose text has these words as the first, the second and the fifth, and as many more, with their numbers
unfoldable pub nearest_long : (first second fifth : List ℕ) → (more : List (List ℕ)) → Option Fault
nearest_long first second fifth more =
    if begins_with_m first then nearest_off (mote_of second) fifth more
    else nearest_of (mote_of fifth) (number_of second) more

-- the fault whose text begins the same and has as many words, with the numbers of these words
abbrev pub nearest : (words : List (List ℕ)) → Option Fault
nearest (_ ∷ mote ∷ _ ∷ _ ∷ []) = Some (Silent (mote_of mote))
nearest (_ ∷ from ∷ _ ∷ to ∷ _ ∷ _ ∷ []) = Some (Link (mote_of from) (mote_of to))
nearest (first ∷ second ∷ _ ∷ _ ∷ fifth ∷ more) = nearest_long first second fifth more
nearest words = None

-- the number of bytes at which two texts begin alike
abbrev pub shared : List ℕ → List ℕ → ℕ
shared text line = length (take_while (λ pair. pair.0 == pair.1) (zip text line))

abbrev pub column_of : Option Fault → (line : List ℕ) → ℕ
column_of None line = 1
column_of (Some fault) line = shared (fault_text fault) line + 1

-- the column at which a line first differs from the text of the fault that begins the same and has as many words
abbrev pub column_in : (line : List ℕ) → ℕ
column_in line = column_of (nearest (words_of line)) line

-- no fault has this text
abbrev pub IsNoFault : (line : List ℕ) → Type 0
IsNoFault line = (fault : Fault) → FitsFault fault → fault_text fault ≢ line

-- the result of reading the line with this number; an allocation may fail for any line
abbrev pub ReadsLine : (number : ℕ) → (line : List ℕ) → Result Fault FaultsError → Type 0
ReadsLine number line (Ok fault) = (fault_text fault ≡ line) × FitsFault fault
ReadsLine number line (Err Memory) = Unit {0}
ReadsLine number line (Err (NotAFault n column)) = (n ≡ number) × (column ≡ column_in line) × IsNoFault line

-- one line more is read
abbrev pub AddsLine : (line : List ℕ) → (old new : List Fault) → Type 0
AddsLine line old new = (map fault_text new ≡ map fault_text old ++ filter is_fault_line (line ∷ []))
    × (All FitsFault old → All FitsFault new)

-- the line with this number should be a fault, and isn't
abbrev pub RefusesLine : (number : ℕ) → (line : List ℕ) → FaultsError → Type 0
RefusesLine number line Memory = Unit {0}
RefusesLine number line (NotAFault n column) =
    (is_fault_line line ≡ true) × ReadsLine number line (Err (NotAFault n column))

-- the texts of the faults are these lines
abbrev pub AreFaults : (lines : List (List ℕ)) → List Fault → Type 0
AreFaults lines faults = (map fault_text faults ≡ filter is_fault_line lines) × All FitsFault faults

-- the text is read as these faults
abbrev pub IsRead : (text : List ℕ) → List Fault → Type 0
IsRead text faults = AreFaults (lines_of text) faults

-- the error is at the first line of the text that should be the text of a fault and isn't
pub record IsRefused (text : List ℕ) (n column : ℕ) : Type 0 where
  pub before : List (List ℕ)
  pub line : List ℕ
  pub after : List (List ℕ)
  pub lines : lines_of text ≡ before ++ line ∷ after
  pub faults : List Fault
  pub read : AreFaults before faults
  pub should_be : is_fault_line line ≡ true
  pub at : n ≡ length before + 1
  pub column_is : column ≡ column_in line
  pub other : IsNoFault line

-- an error and its cause; an allocation may fail for any text
abbrev pub Refuses : (text : List ℕ) → FaultsError → Type 0
Refuses text Memory = Unit {0}
Refuses text (NotAFault n column) = IsRefused text n column

-- Properties of the reading of a text.
use Rattle.std.specs.Prelude.{◌≡◌, ℕ, List, ◌++◌, length, ◌⊎◌, ◌+◌}
use Rattle.program_tree.specs.Code.{Tree}
use Rattle.program_tree.specs.Faults.{IsFirstFault}
use Rattle.program_tree.specs.Tokens.{Token}
use Rattle.program_tree.specs.declared.error.ReadErrorKind.{ReadErrorKind}
use Rattle.program_tree.specs.Reading.{IsTreeOf, IsErrorOf}

-- a text has a tree or a reported error, and never both
pub record HasTreeOrFault (text : List ℕ) : Type 0 where
  pub one : ((tree : Tree) × IsTreeOf text tree) ⊎ ((kind : ReadErrorKind) × (line : ℕ) × IsErrorOf text kind line)
  pub apart : (tree : Tree) (kind : ReadErrorKind) (line : ℕ) → IsTreeOf text tree → IsErrorOf text kind line → ⊥

-- the reported error, with the number of tokens that are left from its token on
abbrev pub IsFirstFaultAt : ReadErrorKind → (left : ℕ) → List Token → Type 0
IsFirstFaultAt k left text = (before : List Token) × (rest : List Token) × (text ≡ before ++ rest)
    × (length rest ≡ left) × IsFirstFault k before rest

-- The instructions that are added to flat code when a block is compiled.
use Rattle.std.specs.Prelude.{◌≡◌, ℕ, ◌+◌, List, [], ◌∷◌, ◌++◌, length}
use Rattle.program_tree.specs.declared.instruction.Instruction.{Instruction}
use Rattle.program_tree.specs.Tree.{Statement, Body, Otherwise, end, next, nothing, otherwise, size}
use Rattle.program_tree.specs.Tree.{statement_size, other_size}
use Rattle.program_tree.specs.Flat.{rests, statement_rests, other_rests, rest_in, Leads}

-- the entry of a block: the place of its first statement, or `after` if it has none
abbrev pub entry_of : Body ℕ → (place after : ℕ) → ℕ
entry_of end place after = after
entry_of (next s b) place after = place

-- the entry of the `else` block of an `if`, or `after` if there is none
abbrev pub other_entry_of : Otherwise ℕ → (place after : ℕ) → ℕ
other_entry_of nothing place after = after
other_entry_of (otherwise b) place after = entry_of b place after

-- the instructions from this place on have the local property
abbrev pub LeadFrom : (all : List (List (Statement ℕ))) → (place : ℕ) → List Instruction → Type 0
LeadFrom all place [] = Unit {0}
LeadFrom all place (i ∷ is) = Leads (rest_in all) i (rest_in all place) × LeadFrom all (place + 1) is

-- `new` is `old` with `count` instructions added. The added instructions have the local property if their rests are at
-- their places in the list of all rests, and if the rest at `after` is the rest that follows them.
pub record AddsStatements (added : (rest : List (Statement ℕ)) → List (List (Statement ℕ))) (count after : ℕ)
    (old new : List Instruction) : Type 0 where
  pub more : List Instruction
  pub extends : new ≡ old ++ more
  pub counts : length more ≡ count
  pub leads : (all left right : List (List (Statement ℕ))) (rest : List (Statement ℕ))
      → all ≡ left ++ added rest ++ right → length left ≡ length old
      → rest_in all after ≡ rest → LeadFrom all (length old) more

-- the instructions of a block, of a statement, or of the `else` block of an `if` are added; after them, a thread
-- continues at `after`
abbrev pub Emits : Body ℕ → (after : ℕ) → (old new : List Instruction) → Type 0
Emits b after old new = AddsStatements (λ rest. rests b rest) (size b) after old new

abbrev pub EmitsStatement : Statement ℕ → (after : ℕ) → (old new : List Instruction) → Type 0
EmitsStatement s after old new = AddsStatements (λ rest. statement_rests s rest) (statement_size s) after old new

abbrev pub EmitsOther : Otherwise ℕ → (after : ℕ) → (old new : List Instruction) → Type 0
EmitsOther o after old new = AddsStatements (λ rest. other_rests o rest) (other_size o) after old new

-- The new list of instructions has those of the first statements of a block. The statements `later` follow them, and
-- their instructions are not yet in the list.
pub record EmitsFirst (b later : Body ℕ) (after : ℕ) (old new : List Instruction) : Type 0 where
  pub more : List Instruction
  pub extends : new ≡ old ++ more
  pub counts : length more + size later ≡ size b
  pub added : (rest : List (Statement ℕ)) → List (List (Statement ℕ))
  pub long : (rest : List (Statement ℕ)) → length (added rest) ≡ length more
  pub splits : (rest : List (Statement ℕ)) → rests b rest ≡ added rest ++ rests later rest
  pub leads : (all left right : List (List (Statement ℕ))) (rest : List (Statement ℕ))
      → all ≡ left ++ rests b rest ++ right → length left ≡ length old
      → rest_in all after ≡ rest → LeadFrom all (length old) more

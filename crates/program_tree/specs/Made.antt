-- The properties of every `Program`.
use Rattle.std.specs.List.{All}
use Rattle.std.specs.Option.{ForSome}
use Rattle.std.specs.Prelude.{◌≡◌, ◌<◌, ◌≤◌, List, ℕ, length}
use Rattle.program_tree.specs.Code.{Tree}
use Rattle.program_tree.specs.Faults.{IsProgram}
use Rattle.program_tree.specs.Numbers.{tree_of_shape}
use Rattle.program_tree.specs.ShapeOf.{shape_of}
use Rattle.program_tree.specs.Text.{IsLexed}
use Rattle.program_tree.specs.Tokens.{Token}

-- these are the tokens of some text
pub record AreLexed (tokens : List Token) : Type 0 where
  pub text : List ℕ
  pub lines : List ℕ
  pub lexed : IsLexed text tokens lines

-- this is the tree of some text, and the text's shape is the tree with each number replaced by its name
pub record IsOfText (tree : Tree) : Type 0 where
  pub tokens : List Token
  pub lexed : AreLexed tokens
  pub program : IsProgram (shape_of tree) tokens
  pub numbered : tree ≡ tree_of_shape (shape_of tree)

-- the program is made from some text
abbrev pub WasRead : Tree → Type 0
WasRead tree = ∥ IsOfText tree ∥₁

-- the tree is that of some text, and is within the limits of programs
pub record IsProgramTree (tree : Tree) : Type 0 where
  pub few_events : length tree.events ≤ 117
  pub few_semaphores : length tree.semaphores ≤ 64
  pub each_count : length tree.counts ≡ length tree.semaphores
  pub few_processes : length tree.processes ≤ 64
  pub started : All (λ i. i < length tree.processes) tree.autostart
  pub received : ForSome tree.receiver (λ i. i < length tree.processes)
  pub each_code : length tree.codes ≡ length tree.processes
  pub few_timers : length tree.timers ≤ 64
  pub owned : All (λ t. t.process < length tree.processes) tree.timers
  pub was_read : WasRead tree

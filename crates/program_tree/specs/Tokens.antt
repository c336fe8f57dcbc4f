-- The tokens of a text. A name is represented by its bytes.
use Rattle.std.specs.Prelude.{ℕ, List}
use Rattle.program_tree.specs.declared.keyword.Keyword.{Keyword as KeywordRead}
use Rattle.program_tree.specs.declared.tree.Operator.{Operator}

-- a token of a text
pub data Token : Type 0 where
  Keyword : KeywordRead → Token
  Semicolon : Token
  Comma : Token
  Equals : Token
  Bang : Token
  Open : Token
  Close : Token
  OpenBrace : Token
  CloseBrace : Token
  Op : Operator → Token
  Name : (name : List ℕ) → Token
  -- a number; all numbers above 65,535 count as 65,536
  Number : (value : ℕ) → Token
  Bad : Token

-- The result of one step of the lexer at the front of a text.
use Rattle.std.specs.Prelude.{◌≡◌, ◌<◌, ℕ, ◌++◌, List, length, drop, slice_index, false, Option}
use Rattle.std.specs.Borrow.{Bor}
use Rattle.program_tree.specs.declared.token.Token.{Token as TokenRead}
use Rattle.program_tree.specs.Tokens.{Token}
use Rattle.program_tree.specs.TokenMeaning.{token_of}
use Rattle.program_tree.specs.Words.{is_word_byte}
use Rattle.program_tree.specs.Text.{Piece, bytes_of, token_at, FitsBefore, is_blank, begins_comment}

-- an entry of a table: a text and its token
abbrev pub token_entry : Bor (List ℕ) × TokenRead → List ℕ × Token
token_entry entry = (entry.0.now, token_of entry.1)

-- the text begins with a piece of this many bytes, which fits before the rest of the text and has this token
pub record BeginsWithToken (text : List ℕ) (token : Option Token) (len : ℕ) : Type 0 where
  pub piece : Piece
  pub split : text ≡ bytes_of piece ++ drop len text
  pub len_is : length (bytes_of piece) ≡ len
  pub fits : FitsBefore (drop len text) piece
  pub is : token ≡ token_at piece

-- the text isn't empty, and begins with neither a blank, nor a word, nor a comment
pub record BeginsOther (text : List ℕ) : Type 0 where
  pub some : 0 < length text
  pub no_blank : is_blank (slice_index text 0) ≡ false
  pub no_word : is_word_byte (slice_index text 0) ≡ false
  pub no_comment : begins_comment text ≡ false

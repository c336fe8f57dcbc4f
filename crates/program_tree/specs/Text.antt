-- The pieces of a text, and their tokens.
use Rattle.std.specs.Prelude.{◌≡◌, ◌≢◌, ℕ, ◌+◌, Bool, true, false, ◌||◌, ◌==◌, nat_eq, List, [], ◌∷◌, ◌++◌, codes}
use Rattle.std.specs.Prelude.{count_by, find, filter_map, Option, Some, None, option_map}
use Rattle.std.specs.List.{list_all, list_any, starts_with, cons_option}
use Rattle.program_tree.specs.declared.tree.Operator.TheVariants.{Add, Subtract, Multiply, Divide, Remainder, Equal}
use Rattle.program_tree.specs.declared.tree.Operator.TheVariants.{Unequal, Less, AtMost, Greater, AtLeast, And, Or}
use Rattle.program_tree.specs.Tokens.{Token, Semicolon, Comma, Equals, Bang, Open, Close, OpenBrace, CloseBrace, Op}
use Rattle.program_tree.specs.Tokens.{Bad}
use Rattle.program_tree.specs.Words.{begins, is_word_byte, word_token}

-- the line feed (LF)
abbrev pub is_feed : ℕ → Bool
is_feed b = b == 10

-- space, tab, CR and LF
abbrev pub is_blank : ℕ → Bool
is_blank b = b == 32 || b == 9 || b == 13 || b == 10

-- the signs, longer signs first
unfoldable pub signs : List (List ℕ × Token)
signs =
    (codes "==", Op Equal)
    ∷ (codes "!=", Op Unequal)
    ∷ (codes "<=", Op AtMost)
    ∷ (codes ">=", Op AtLeast)
    ∷ (codes "&&", Op And)
    ∷ (codes "||", Op Or)
    ∷ (codes "{", OpenBrace)
    ∷ (codes "}", CloseBrace)
    ∷ (codes "(", Open)
    ∷ (codes ")", Close)
    ∷ (codes ";", Semicolon)
    ∷ (codes ",", Comma)
    ∷ (codes "=", Equals)
    ∷ (codes "!", Bang)
    ∷ (codes "+", Op Add)
    ∷ (codes "-", Op Subtract)
    ∷ (codes "*", Op Multiply)
    ∷ (codes "/", Op Divide)
    ∷ (codes "%", Op Remainder)
    ∷ (codes "<", Op Less)
    ∷ (codes ">", Op Greater)
    ∷ []

-- the first of the signs that a text begins with, and its token
abbrev pub sign_at : List ℕ → Option (List ℕ × Token)
sign_at text = find (λ sign. starts_with nat_eq text sign.0) signs

-- the text begins with `//`
abbrev pub begins_comment : List ℕ → Bool
begins_comment text = starts_with nat_eq text (codes "//")

-- the line ends here: the text continues with LF, or has ended
abbrev pub line_ends_here : List ℕ → Bool
line_ends_here [] = true
line_ends_here (b ∷ bs) = is_feed b

-- a piece of a text
pub data Piece : Type 0 where
  Blank : (byte : ℕ) → Piece
  -- the bytes after `//`
  Comment : (bytes : List ℕ) → Piece
  Word : (bytes : List ℕ) → Piece
  Sign : (bytes : List ℕ) → (token : Token) → Piece
  -- a byte that begins no other kind of piece
  Other : (byte : ℕ) → Piece

-- the bytes of a piece
abbrev pub bytes_of : Piece → List ℕ
bytes_of (Blank byte) = byte ∷ []
bytes_of (Comment bytes) = codes "//" ++ bytes
bytes_of (Word bytes) = bytes
bytes_of (Sign bytes token) = bytes
bytes_of (Other byte) = byte ∷ []

-- the token of a piece, if the piece is a token
abbrev pub token_at : Piece → Option Token
token_at (Blank byte) = None
token_at (Comment bytes) = None
token_at (Word bytes) = Some (word_token bytes)
token_at (Sign bytes token) = Some token
token_at (Other byte) = Some Bad

-- the piece is of its kind and as long as possible, if this text is after it
abbrev pub FitsBefore : List ℕ → Piece → Type 0
FitsBefore rest (Blank byte) = is_blank byte ≡ true
FitsBefore rest (Comment bytes) = (list_any is_feed bytes ≡ false) × (line_ends_here rest ≡ true)
FitsBefore rest (Word bytes) = (bytes ≢ []) × (list_all is_word_byte bytes ≡ true) × (begins is_word_byte rest ≡ false)
FitsBefore rest (Sign bytes token) =
    (sign_at (bytes ++ rest) ≡ Some (bytes, token)) × (begins_comment (bytes ++ rest) ≡ false)
FitsBefore rest (Other byte) = (is_blank byte ≡ false) × (is_word_byte byte ≡ false) × (sign_at (byte ∷ rest) ≡ None)

-- the text of the pieces
abbrev pub text_of : List Piece → List ℕ
text_of [] = []
text_of (piece ∷ pieces) = bytes_of piece ++ text_of pieces

-- each piece is of its kind and as long as possible, given the text of the pieces after it
abbrev pub AllFit : List Piece → Type 0
AllFit [] = Unit {0}
AllFit (piece ∷ pieces) = FitsBefore (text_of pieces) piece × AllFit pieces

-- the tokens of the pieces, in order
abbrev pub tokens_of : List Piece → List Token
tokens_of pieces = filter_map token_at pieces

-- the line of each token and of the end, if the pieces begin on this line; each LF begins another line
abbrev pub line_numbers_from : ℕ → List Piece → List ℕ
line_numbers_from line [] = line ∷ []
line_numbers_from line (piece ∷ pieces) =
    cons_option (option_map (λ token. line) (token_at piece))
    (line_numbers_from (line + count_by is_feed (bytes_of piece)) pieces)

-- the text has these tokens, on these lines; the last line is the line of its end
pub record IsLexed (text : List ℕ) (tokens : List Token) (lines : List ℕ) : Type 0 where
  pub pieces : List Piece
  pub spelled : text ≡ text_of pieces
  pub fit : AllFit pieces
  pub matches : tokens ≡ tokens_of pieces
  pub placed : lines ≡ line_numbers_from 1 pieces

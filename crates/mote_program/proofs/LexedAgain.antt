-- The canonical text of tokens has these tokens.
use Rattle.std.proofs.Common.{◌≡◌, ◌≢◌, ◌<◌, ◌≤◌, ◌+◌, ℕ, zero, suc, min, ◌^◌, List, [], ◌∷◌, ◌++◌, map, get_or, Bool}
use Rattle.std.proofs.Common.{true, false, Some, refl, ap, sym, ◌∙◌, subst, arith, codes, nat_eq, if◌then◌else◌}
use Rattle.std.proofs.lemmas.Bool.{and_parts, and_from}
use Rattle.std.proofs.lemmas.Bool.Decides.{nat_tests}
use Rattle.std.proofs.lemmas.Fmt.{decimal_digit, decimal_is_IsNumeral, decimal-digits_of}
use Rattle.std.proofs.lemmas.Int.Digits.{all_below_base_digits_of, first_digits_of}
use Rattle.std.specs.Char.{is_ascii_digit}
use Rattle.std.specs.Fmt.{decimal}
use Rattle.std.specs.Int.Digits.{digits_of, AllBelowBase}
use Rattle.std.specs.List.{list_all}
use Rattle.std.specs.Str.Parse.{digits_value}
use Rattle.program_tree.specs.Canonical.{keyword_word, operator_sign, spelling, braces_behind, tells, ends_line}
use Rattle.program_tree.specs.Canonical.{is_close, line_depth, indentation, gap, text_from, canonical_text}
use Rattle.program_tree.specs.Text.{is_blank, signs, sign_at, begins_comment, Piece, Blank, Word, Sign, Other}
use Rattle.program_tree.specs.Text.{bytes_of, token_at, FitsBefore, text_of, AllFit, tokens_of, line_numbers_from, IsLexed}
use Rattle.program_tree.specs.Tokens as token
use Rattle.program_tree.specs.Tokens.{Token}
use Rattle.program_tree.specs.Words.{begins, is_word_byte, is_number, keywords, word_token}
use Rattle.program_tree.specs.declared.keyword.Keyword.{Keyword}
use Rattle.program_tree.specs.declared.keyword.Keyword.TheVariants as word
use Rattle.program_tree.specs.declared.tree.Operator.{Operator}
use Rattle.program_tree.specs.declared.tree.Operator.TheVariants as operator
use Rattle.program_reader.proofs.WordLaws.{number_token}

-- a token that can be in a program, in the form that the lexer returns
abbrev pub IsOwn : Token → Type 0
IsOwn (token.Name x) = (x ≢ []) × (list_all is_word_byte x ≡ true) × (word_token x ≡ token.Name x)
IsOwn (token.Number n) = n ≤ 65535
IsOwn token.Bad = ⊥
IsOwn t = Unit {0}

-- `!` isn't followed by a token that would make it another sign
abbrev pub NoEquals : Token → List Token → Type 0
NoEquals token.Bang (token.Equals ∷ ts) = ⊥
NoEquals token.Bang (token.Op operator.Equal ∷ ts) = ⊥
NoEquals t ts = Unit {0}

abbrev pub AreOwn : List Token → Type 0
AreOwn [] = Unit {0}
AreOwn (t ∷ ts) = IsOwn t × NoEquals t ts × AreOwn ts

-- ---- the pieces

abbrev blanks : List ℕ → List Piece
blanks bs = map Blank bs

abbrev piece_of : Token → Piece
piece_of (token.Keyword k) = Word (keyword_word k)
piece_of (token.Name x) = Word x
piece_of (token.Number n) = Word (decimal n)
piece_of token.Bad = Other 0
piece_of t = Sign (spelling t) t

abbrev pieces_from : ℕ → List Token → List Piece
pieces_from b [] = []
pieces_from b (t ∷ rest) = piece_of t ∷ (blanks (gap (braces_behind b t) t rest) ++ pieces_from (braces_behind b t)
    rest)

same_bytes : (t : Token) → IsOwn t → bytes_of (piece_of t) ≡ spelling t
same_bytes token.Bad own = absurd own
same_bytes t own = refl

text_blanks : (bs : List ℕ) (ps : List Piece) → text_of (blanks bs ++ ps) ≡ bs ++ text_of ps
text_blanks [] ps = refl
text_blanks (b ∷ bs) ps = ap (λ t. b ∷ t) (text_blanks bs ps)

text_pieces : (b : ℕ) (ts : List Token) → AreOwn ts → text_of (pieces_from b ts) ≡ text_from b ts
text_pieces b [] own = refl
text_pieces b (t ∷ rest) own =
    let c = braces_behind b t in
    ap (λ s. s ++ text_of (blanks (gap c t rest) ++ pieces_from c rest)) (same_bytes t own.0)
    ∙ ap (λ s. spelling t ++ s) (text_blanks (gap c t rest) (pieces_from c rest) ∙ ap (λ s. gap c t rest ++ s)
    (text_pieces c rest own.2))

tokens_blanks : (bs : List ℕ) (ps : List Piece) → tokens_of (blanks bs ++ ps) ≡ tokens_of ps
tokens_blanks [] ps = refl
tokens_blanks (b ∷ bs) ps = tokens_blanks bs ps

-- ---- words

some_byte : (b : ℕ) (bs : List ℕ) → b ∷ bs ≡ [] → ⊥
some_byte b bs e = absurd (cc e)

abbrev IsWordOf : List ℕ → Token → Type 0
IsWordOf w t = (w ≢ []) × (list_all is_word_byte w ≡ true) × (word_token w ≡ t)

keyword_fits : (k : Keyword) → IsWordOf (keyword_word k) (token.Keyword k)
unfolding word_token keywords
keyword_fits word.Event = (some_byte _ _, refl, refl)
keyword_fits k = (some_byte _ _, refl, refl)

digit-word : (b : ℕ) → is_ascii_digit b ≡ true → is_word_byte b ≡ true
digit-word b h = grind (arith, nat_tests)

digits-word : (w : List ℕ) → list_all is_ascii_digit w ≡ true → list_all is_word_byte w ≡ true
digits-word [] h = refl
digits-word (b ∷ w) h =
    let parts = and_parts (is_ascii_digit b) (list_all is_ascii_digit w) h in
    and_from (is_word_byte b) (list_all is_word_byte w) (digit-word b parts.0) (digits-word w parts.1)

digit-plus : (d : ℕ) → d < 10 → is_ascii_digit (48 + d) ≡ true
digit-plus d h = grind (arith, nat_tests)

digits-plus : (ds : List ℕ) → AllBelowBase 10 ds → list_all is_ascii_digit (map (λ d. 48 + d) ds) ≡ true
digits-plus [] h = refl
digits-plus (d ∷ ds) h = and_from (is_ascii_digit (48 + d)) (list_all is_ascii_digit (map (λ d. 48 + d) ds))
    (digit-plus d h.0) (digits-plus ds h.1)

no_zero : (d : ℕ) → 0 < d → nat_eq (48 + d) 48 ≡ false
no_zero d h = grind (arith, nat_tests)

number-plus : (ds : List ℕ) → AllBelowBase 10 ds → 0 < get_or ds 0 0 → (map (λ d. 48 + d) ds ≢ [])
    × (is_number (map (λ d. 48 + d) ds) ≡ true)
number-plus [] h first = absurd (omega arith)
number-plus (d ∷ ds) h first = (some_byte _ _, rw (digits-plus (d ∷ ds) h, no_zero d first) refl)

abbrev IsNumberText : List ℕ → Type 0
IsNumberText w = (w ≢ []) × (list_all is_ascii_digit w ≡ true) × (is_number w ≡ true)

decimal-number : (n : ℕ) → n < 2 ^ 64 → IsNumberText (decimal n)
decimal-number zero h = subst IsNumberText (sym (decimal_digit 0 (omega arith))) (some_byte _ _, refl, refl)
decimal-number (suc n) h =
    let ds = digits_of 10 (suc n) in
    let below = all_below_base_digits_of 10 (suc n) (omega arith) in
    let both = number-plus ds below (first_digits_of 10 (suc n) (omega arith) (omega arith)) in
    subst IsNumberText (sym (decimal-digits_of (suc n) (omega arith) h)) (both.0, digits-plus ds below, both.1)

decimal_fits : (n : ℕ) → n ≤ 65535 → IsWordOf (decimal n) (token.Number n)
decimal_fits n h =
    let low : n < 2 ^ 64 = omega arith in
    let number = decimal-number n low in
    let value : digits_value 10 (decimal n) ≡ n = (decimal_is_IsNumeral n low).1 in
    let capped : n ≡ min (digits_value 10 (decimal n)) 65536 = omega (arith, value) in
    (number.0, digits-word (decimal n) number.1, sym (number_token (decimal n) n number.2 capped))

-- no word continues into the text after it
keyword_stops : (b : ℕ) (k : Keyword) (rest : List Token)
    → begins is_word_byte (gap b (token.Keyword k) rest ++ text_from b rest) ≡ false
keyword_stops b k [] = refl
keyword_stops b k (token.Open ∷ rest) = go (tells k)
  where
    go : (v : Bool) → begins is_word_byte ((if v then [] else codes " ") ++ text_from b (token.Open ∷ rest)) ≡ false
    go true = refl
    go false = refl
keyword_stops b k (u ∷ rest) = refl

name_stops : (b : ℕ) (x : List ℕ) (rest : List Token)
    → begins is_word_byte (gap b (token.Name x) rest ++ text_from b rest) ≡ false
name_stops b x [] = refl
name_stops b x (token.Open ∷ rest) = refl
name_stops b x (u ∷ rest) = refl

number_stops : (b : ℕ) (n : ℕ) (rest : List Token)
    → begins is_word_byte (gap b (token.Number n) rest ++ text_from b rest) ≡ false
number_stops b n [] = refl
number_stops b n (token.Open ∷ rest) = refl
number_stops b n (u ∷ rest) = refl

-- ---- signs

-- the text begins with a byte that makes the sign before it neither a longer sign nor a comment
record NextByte (text : List ℕ) : Type 0 where
  byte : ℕ
  more : List ℕ
  is : text ≡ byte ∷ more
  no_equals : nat_eq 61 byte ≡ false
  no_slash : nat_eq 47 byte ≡ false

operator_next : (b : ℕ) (o : Operator) (rest : List Token) → NextByte (gap b (token.Op o) rest ++ text_from b rest)
operator_next b o [] = record { byte = _; more = _; is = refl; no_equals = refl; no_slash = refl }
operator_next b o (token.Open ∷ rest) = record { byte = _; more = _; is = refl; no_equals = refl; no_slash = refl }
operator_next b o (u ∷ rest) = record { byte = _; more = _; is = refl; no_equals = refl; no_slash = refl }

equals_next : (b : ℕ) (rest : List Token) → NextByte (gap b token.Equals rest ++ text_from b rest)
equals_next b [] = record { byte = _; more = _; is = refl; no_equals = refl; no_slash = refl }
equals_next b (token.Open ∷ rest) = record { byte = _; more = _; is = refl; no_equals = refl; no_slash = refl }
equals_next b (u ∷ rest) = record { byte = _; more = _; is = refl; no_equals = refl; no_slash = refl }

abbrev IsSignBefore : List ℕ → List ℕ → Token → Type 0
IsSignBefore rest bytes t = (sign_at (bytes ++ rest) ≡ Some (bytes, t)) × (begins_comment (bytes ++ rest) ≡ false)

operator_at : (o : Operator) (x : ℕ) (xs : List ℕ) → nat_eq 61 x ≡ false → nat_eq 47 x ≡ false
    → IsSignBefore (x ∷ xs) (operator_sign o) (token.Op o)
unfolding signs
operator_at operator.Less x xs e s = (rw e refl, refl)
operator_at operator.Greater x xs e s = (rw e refl, refl)
operator_at operator.Divide x xs e s = (refl, rw s refl)
operator_at o x xs e s = (refl, refl)

equals_at : (x : ℕ) (xs : List ℕ) → nat_eq 61 x ≡ false → IsSignBefore (x ∷ xs) (codes "=") token.Equals
unfolding signs
equals_at x xs e = (rw e refl, refl)

bang_at : (x : ℕ) (xs : List ℕ) → nat_eq 61 x ≡ false → IsSignBefore (x ∷ xs) (codes "!") token.Bang
unfolding signs
bang_at x xs e = (rw e refl, refl)

bang_last : IsSignBefore [] (codes "!") token.Bang
unfolding signs
bang_last = (refl, refl)

other_signs : (rest : List ℕ) → IsSignBefore rest (codes ";") token.Semicolon
    × IsSignBefore rest (codes ",") token.Comma × IsSignBefore rest (codes "(") token.Open
    × IsSignBefore rest (codes ")") token.Close × IsSignBefore rest (codes "{") token.OpenBrace
    × IsSignBefore rest (codes "}") token.CloseBrace
unfolding signs
other_signs rest = ((refl, refl), (refl, refl), (refl, refl), (refl, refl), (refl, refl), (refl, refl))

word-no_equals : (b : ℕ) → is_word_byte b ≡ true → nat_eq 61 b ≡ false
word-no_equals b h = grind (arith, nat_tests)

-- a byte after `!`
record OtherByte (text : List ℕ) : Type 0 where
  byte : ℕ
  more : List ℕ
  is : text ≡ byte ∷ more
  no_equals : nat_eq 61 byte ≡ false

word_next : (w rest : List ℕ) → w ≢ [] → list_all is_word_byte w ≡ true → OtherByte (w ++ rest)
word_next [] rest some all = absurd (some refl)
word_next (b ∷ w) rest some all = record {
  byte = b;
  more = w ++ rest;
  is = refl;
  no_equals = word-no_equals b (and_parts (is_word_byte b) (list_all is_word_byte w) all).0;
}

operator_byte : (o : Operator) (rest : List ℕ) (ts : List Token) → NoEquals token.Bang (token.Op o ∷ ts)
    → OtherByte (operator_sign o ++ rest)
operator_byte operator.Equal rest ts h = absurd h
operator_byte o rest ts h = record { byte = _; more = _; is = refl; no_equals = refl }

bang_next : (b : ℕ) (u : Token) (rest : List Token) → IsOwn u → NoEquals token.Bang (u ∷ rest)
    → OtherByte (text_from b (u ∷ rest))
bang_next b (token.Keyword k) rest own h = word_next (keyword_word k) _ (keyword_fits k).0 (keyword_fits k).1
bang_next b (token.Name x) rest own h = word_next x _ own.0 own.1
bang_next b (token.Number n) rest own h = word_next (decimal n) _ (decimal_fits n own).0 (decimal_fits n own).1
bang_next b (token.Op o) rest own h = operator_byte o _ rest h
bang_next b token.Equals rest own h = absurd h
bang_next b token.Bad rest own h = absurd own
bang_next b u rest own h = record { byte = _; more = _; is = refl; no_equals = refl }

bang_fits : (b : ℕ) (rest : List Token) → NoEquals token.Bang rest → AreOwn rest
    → IsSignBefore (text_from b rest) (codes "!") token.Bang
bang_fits b [] h own = bang_last
bang_fits b (u ∷ rest) h own =
    let next = bang_next b u rest own.0 h in
    subst (λ s. IsSignBefore s (codes "!") token.Bang) (sym next.is) (bang_at next.byte next.more next.no_equals)

token_fits : (b : ℕ) (t : Token) (rest : List Token) → IsOwn t → NoEquals t rest → AreOwn rest
    → FitsBefore (gap b t rest ++ text_from b rest) (piece_of t)
token_fits b (token.Keyword k) rest own h others = ((keyword_fits k).0, (keyword_fits k).1, keyword_stops b k rest)
token_fits b (token.Name x) rest own h others = (own.0, own.1, name_stops b x rest)
token_fits b (token.Number n) rest own h others =
    ((decimal_fits n own).0, (decimal_fits n own).1, number_stops b n rest)
token_fits b token.Bad rest own h others = absurd own
token_fits b (token.Op o) rest own h others =
    let next = operator_next b o rest in
    subst (λ s. IsSignBefore s (operator_sign o) (token.Op o)) (sym next.is)
    (operator_at o next.byte next.more next.no_equals next.no_slash)
token_fits b token.Equals rest own h others =
    let next = equals_next b rest in
    subst (λ s. IsSignBefore s (codes "=") token.Equals) (sym next.is) (equals_at next.byte next.more next.no_equals)
token_fits b token.Bang rest own h others = bang_fits b rest h others
token_fits b token.Semicolon rest own h others = (other_signs (gap b token.Semicolon rest ++ text_from b rest)).0
token_fits b token.Comma rest own h others = (other_signs (gap b token.Comma rest ++ text_from b rest)).1
token_fits b token.Open rest own h others = (other_signs (gap b token.Open rest ++ text_from b rest)).2
token_fits b token.Close rest own h others = (other_signs (gap b token.Close rest ++ text_from b rest)).3
token_fits b token.OpenBrace rest own h others = (other_signs (gap b token.OpenBrace rest ++ text_from b rest)).4
token_fits b token.CloseBrace rest own h others = (other_signs (gap b token.CloseBrace rest ++ text_from b rest)).5

-- ---- the whole text

indentation-blank : (n : ℕ) → list_all is_blank (indentation n) ≡ true
indentation-blank zero = refl
indentation-blank (suc n) = indentation-blank n

gap-blank : (b : ℕ) (t : Token) (rest : List Token) → list_all is_blank (gap b t rest) ≡ true
gap-blank b t rest = go (ends_line t rest) (is_close t rest)
  where
    go : (e c : Bool) → list_all is_blank (if e then 10 ∷ indentation (line_depth b rest) else if c then [] else
        codes " ") ≡ true
    go true c = indentation-blank (line_depth b rest)
    go false true = refl
    go false false = refl

fits_blanks : (bs : List ℕ) (ps : List Piece) → list_all is_blank bs ≡ true → AllFit ps → AllFit (blanks bs ++ ps)
fits_blanks [] ps h fit = fit
fits_blanks (b ∷ bs) ps h fit = let parts = and_parts (is_blank b) (list_all is_blank bs) h in
    (parts.0, fits_blanks bs ps parts.1 fit)

all_fit : (b : ℕ) (ts : List Token) → AreOwn ts → AllFit (pieces_from b ts)
all_fit b [] own = tt
all_fit b (t ∷ rest) own =
    let c = braces_behind b t in
    let behind : text_of (blanks (gap c t rest) ++ pieces_from c rest) ≡ gap c t rest ++ text_from c rest =
    text_blanks (gap c t rest) (pieces_from c rest) ∙ ap (λ s. gap c t rest ++ s) (text_pieces c rest own.2) in (
      subst (λ s. FitsBefore s (piece_of t)) (sym behind) (token_fits c t rest own.0 own.1 own.2),
      fits_blanks
          (gap c t rest) (pieces_from c rest) (gap-blank c t rest) (all_fit c rest own.2),
    )

word_is : (t : Token) → IsOwn t → token_at (piece_of t) ≡ Some t
word_is (token.Keyword k) own = ap Some (keyword_fits k).2
word_is (token.Name x) own = ap Some own.2
word_is (token.Number n) own = ap Some (decimal_fits n own).2
word_is token.Bad own = absurd own
word_is t own = refl

same_tokens : (b : ℕ) (ts : List Token) → AreOwn ts → tokens_of (pieces_from b ts) ≡ ts
same_tokens b [] own = refl
same_tokens b (t ∷ rest) own =
    let c = braces_behind b t in
    rw (word_is t own.0) (ap (λ us. t ∷ us) (tokens_blanks (gap c t rest) (pieces_from c rest)
    ∙ same_tokens c rest own.2))

pub lexed_again : (ts : List Token) → AreOwn ts → IsLexed (canonical_text ts) ts (line_numbers_from 1 (pieces_from 0 ts))
lexed_again ts own = record {
  pieces = pieces_from 0 ts;
  spelled = sym (text_pieces 0 ts own);
  fit = all_fit 0 ts own;
  matches = sym (same_tokens 0 ts own);
  placed = refl;
}

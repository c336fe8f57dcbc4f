-- The part of a text that is read, piece by piece.
use Rattle.std.proofs.Common.{◌≡◌, ◌≢◌, ◌<◌, ◌≤◌, ◌+◌, ◌-◌, ℕ, List, [], ◌∷◌, ◌++◌, get_or, length, drop, Bool, true}
use Rattle.std.proofs.Common.{false, cond, Option, Some, None, refl, ap, sym, ◌∙◌, subst, arith, codes, map, add-zero}
use Rattle.std.specs.Prelude.{count_by, option_map, option_to_list}
use Rattle.std.proofs.lemmas.Bool.{and_parts, or_parts}
use Rattle.std.proofs.lemmas.Bool.Decides.{nat_tests}
use Rattle.std.proofs.lemmas.List.{append_assoc, append-nil, map-append, length-drop}
use Rattle.std.specs.List.{list_all, list_any, cons_option}
use Rattle.program_reader.specs.Front.{BeginsWithToken}
use Rattle.program_tree.specs.declared.token.Token.{Token as TokenRead}
use Rattle.program_tree.specs.Tokens.{Token}
use Rattle.program_tree.specs.TokenMeaning.{token_of}
use Rattle.program_tree.specs.Words.{is_word_byte}
use Rattle.program_tree.specs.Text.{is_feed, Piece, Blank, Comment, Word, Sign, Other, bytes_of, token_at, FitsBefore}
use Rattle.program_tree.specs.Text.{text_of, AllFit, tokens_of, line_numbers_from, IsLexed}
use Rattle.program_reader.proofs.PieceLaws.{found_sign}

-- ---- the LFs of a piece

count_none : (xs : List ℕ) → list_any is_feed xs ≡ false → count_by is_feed xs ≡ 0
count_none [] h = refl
count_none (x ∷ xs) h =
    let parts = or_parts (is_feed x) (list_any is_feed xs) h in
    rw (parts.0, count_none xs parts.1) refl

word_no_feed : (xs : List ℕ) → list_all is_word_byte xs ≡ true → list_any is_feed xs ≡ false
word_no_feed [] h = refl
word_no_feed (x ∷ xs) h =
    let parts = and_parts (is_word_byte x) (list_all is_word_byte xs) h in
    let word : is_word_byte x ≡ true = parts.0 in
    let first : is_feed x ≡ false = grind (arith, nat_tests) in
    rw (first, word_no_feed xs parts.1) refl

-- bytes without LF, and the rest
none_first : (xs rest : List ℕ) → xs ≢ [] → list_any is_feed xs ≡ false
    → count_by is_feed xs ≡ cond (is_feed (get_or (xs ++ rest) 0 0)) 1 0
none_first [] rest some h = absurd (some refl)
none_first (x ∷ xs) rest some h =
    let parts = or_parts (is_feed x) (list_any is_feed xs) h in
    count_none (x ∷ xs) h ∙ sym (ap (λ b. cond b 1 0) parts.0)

feeds : (rest : List ℕ) (piece : Piece) → FitsBefore rest piece → count_by is_feed (bytes_of piece)
    ≡ cond (is_feed (get_or (bytes_of piece ++ rest) 0 0)) 1 0
feeds rest (Blank b) fits = omega arith
feeds rest (Comment bytes) fits = none_first (codes "//" ++ bytes) rest (λ e. absurd cc) fits.0
feeds rest (Word bytes) fits = none_first bytes rest fits.0 (word_no_feed bytes fits.1)
feeds rest (Sign bytes token) fits = let sign = found_sign (bytes ++ rest) bytes token fits.0 in
    none_first bytes rest sign.some sign.no_feed
feeds rest (Other b) fits = omega arith

-- ---- one more piece

-- for all fitting pieces of the rest, the text has these tokens and lines, and then those of the rest
pub record HasRead (text : List ℕ) (tokens : List Token) (lines : List ℕ) (line : ℕ) (rest : List ℕ) : Type 0 where
  pub goes_on : (more : List Piece) → rest ≡ text_of more → AllFit more
      → (all : List Piece) × (text ≡ text_of all) × AllFit all × (tokens_of all ≡ tokens ++ tokens_of more)
      × (line_numbers_from 1 all ≡ lines ++ line_numbers_from line more)

pub all_read : (text : List ℕ) (tokens : List Token) (lines : List ℕ) (line : ℕ) (rest : List ℕ)
    → HasRead text tokens lines line rest → length rest ≡ 0 → IsLexed text tokens (lines ++ line ∷ [])
all_read text tokens lines line [] so_far none =
    let all = so_far.goes_on [] refl tt in
    record { pieces = all.0; spelled = all.1; fit = all.2; matches = sym (all.3 ∙ append-nil tokens); placed = sym all.4 }
all_read text tokens lines line (b ∷ rest) so_far none = absurd (omega arith)

joined : {X : Type 0} (xs ys : List X) (o : Option X) → xs ++ cons_option o ys ≡ (xs ++ option_to_list o) ++ ys
joined xs ys None = ap (λ zs. zs ++ ys) (sym (append-nil xs))
joined xs ys (Some x) = sym (append_assoc xs (x ∷ []) ys)

pub piece_read : (text : List ℕ) (tokens : List Token) (lines : List ℕ) (line : ℕ) (rest : List ℕ)
    (token : Option Token) (n : ℕ)
    → HasRead text tokens lines line rest → BeginsWithToken rest token n
    → HasRead text (tokens ++ option_to_list token) (lines ++ option_to_list (option_map (λ t. line) token))
    (line + cond (is_feed (get_or rest 0 0)) 1 0) (drop n rest)
piece_read text tokens lines line rest token n so_far front =
    let piece = front.piece in
    let count : count_by is_feed (bytes_of piece) ≡ cond (is_feed (get_or rest 0 0)) 1 0 =
    feeds (drop n rest) piece front.fits ∙ ap (λ s. cond (is_feed (get_or s 0 0)) 1 0) (sym front.split) in
    record {
      goes_on = λ more spelled fit.
          let all = so_far.goes_on (piece ∷ more) (front.split ∙ ap (λ s. bytes_of piece ++ s) spelled)
          (subst (λ s. FitsBefore s piece) spelled front.fits, fit) in (
            all.0,
            all.1,
            all.2,
            all.3 ∙ joined tokens (tokens_of more) (token_at piece)
                ∙ ap (λ o. (tokens ++ option_to_list o) ++ tokens_of more) (sym front.is),
            all.4 ∙ joined lines (line_numbers_from (line + count_by is_feed (bytes_of piece)) more)
                (option_map (λ t. line) (token_at piece))
                ∙ ap (λ o. (lines ++ option_to_list (option_map (λ t. line) o))
                ++ line_numbers_from (line + count_by is_feed (bytes_of piece)) more) (sym front.is)
                ∙ ap (λ c. (lines ++ option_to_list (option_map (λ t. line) token)) ++ line_numbers_from (line + c) more)
                count,
          );
    }

mapped : (xs ys : List TokenRead) (o : Option TokenRead) → ys ≡ xs ++ option_to_list o
    → map token_of ys ≡ map token_of xs ++ option_to_list (option_map token_of o)
mapped xs ys None e = ap (map token_of) e ∙ map-append token_of xs []
mapped xs ys (Some t) e = ap (map token_of) e ∙ map-append token_of xs (t ∷ [])

same_line : (line : ℕ) (o : Option TokenRead) → option_to_list (option_map (λ t. line) o)
    ≡ option_to_list (option_map (λ t. line) (option_map token_of o))
same_line line None = refl
same_line line (Some t) = refl

-- one iteration of the loop
pub turn : (text : List ℕ) (old new : List TokenRead) (old_lines new_lines : List ℕ) (line next : ℕ)
    (rest after : List ℕ) (token : Option TokenRead) (n : ℕ)
    → HasRead text (map token_of old) old_lines line rest → BeginsWithToken rest (option_map token_of token) n
    → new ≡ old ++ option_to_list token → new_lines ≡ old_lines ++ option_to_list (option_map (λ t. line) token)
    → next ≡ line + cond (is_feed (get_or rest 0 0)) 1 0 → after ≡ drop n rest
    → HasRead text (map token_of new) new_lines next after
turn text old new old_lines new_lines line next rest after token n so_far front tokens lines feed shorter =
    rw (mapped old new token tokens, lines, same_line line token, feed, shorter)
    (piece_read text (map token_of old) old_lines line rest (option_map token_of token) n so_far front)

pub feed_here : (b line : ℕ) → b ≡ 10 → line + 1 ≡ line + cond (is_feed b) 1 0
feed_here b line e = rw e refl

pub no_feed_here : (b line : ℕ) → b ≢ 10 → line ≡ line + cond (is_feed b) 1 0
no_feed_here b line e = let other : is_feed b ≡ false = grind (arith, nat_tests) in rw (other, add-zero) refl

feed_one : (b : Bool) → cond b 1 0 ≤ 1
feed_one true = omega arith
feed_one false = omega arith

pub shorter : (line next len n : ℕ) (rest after : List ℕ) → line + length rest ≤ len + 1
    → next ≡ line + cond (is_feed (get_or rest 0 0)) 1 0 → 0 < n → n ≤ length rest → after ≡ drop n rest
    → next + length after ≤ len + 1
shorter line next len n rest after bound feed moves within is =
    let len_is : length after ≡ length rest - n = ap length is ∙ length-drop n rest in
    omega (arith, feed_one (is_feed (get_or rest 0 0)))

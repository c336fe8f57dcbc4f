-- Each text has exactly one lexing.
use Rattle.std.proofs.Common.{◌≡◌, ◌<◌, ◌≤◌, ◌+◌, not, ℕ, zero, suc, List, [], ◌∷◌, ◌++◌, get_or, length, drop, Bool}
use Rattle.std.proofs.Common.{true, false, Option, Some, None, refl, ap, sym, ◌∙◌, subst, arith, codes}
use Rattle.std.specs.Prelude.{option_map, count_by}
use Rattle.std.proofs.lemmas.Bool.{and_parts, or_parts}
use Rattle.std.proofs.lemmas.Bool.Decides.{nat_tests}
use Rattle.std.proofs.lemmas.List.{append_cancel_left, length-append, length-drop}
use Rattle.std.proofs.lemmas.List.Sums.{take_while-cons}
use Rattle.std.specs.List.{list_all, list_any, take_while, cons_option}
use Rattle.program_reader.specs.Front.{BeginsWithToken, BeginsOther}
use Rattle.program_tree.specs.Tokens.{Token}
use Rattle.program_tree.specs.Words.{begins, is_word_byte}
use Rattle.program_tree.specs.Text.{is_feed, is_blank, signs, sign_at, begins_comment, line_ends_here, Piece, Blank}
use Rattle.program_tree.specs.Text.{Comment, Word, Sign, Other, bytes_of, token_at, FitsBefore, text_of, AllFit}
use Rattle.program_tree.specs.Text.{tokens_of, line_numbers_from, IsLexed}
use Rattle.program_reader.proofs.PieceLaws.{blank_front, word_front, comment_front, sign_front, other_front}
use Rattle.program_reader.proofs.PieceLaws.{found_sign, comment_split}

-- ---- one more line than tokens

lines_more : (line : ℕ) (o : Option Token) (ls : List ℕ) (ts : List Token) → length ls ≡ length ts + 1
    → length (cons_option (option_map (λ t. line) o) ls) ≡ length (cons_option o ts) + 1
lines_more line None ls ts e = e
lines_more line (Some t) ls ts e = omega arith

length-lines_from : (line : ℕ) (pieces : List Piece) → length (line_numbers_from line pieces) ≡ length (tokens_of pieces) + 1
length-lines_from line [] = refl
length-lines_from line (p ∷ ps) = lines_more line (token_at p) _ (tokens_of ps)
    (length-lines_from (line + count_by is_feed (bytes_of p)) ps)

pub length-lines : (text : List ℕ) (tokens : List Token) (lines : List ℕ) → IsLexed text tokens lines
    → length lines ≡ length tokens + 1
length-lines text tokens lines lexed = ap length lexed.placed ∙ length-lines_from 1 lexed.pieces
    ∙ ap (λ ts. length ts + 1) (sym lexed.matches)

-- ---- each text consists of pieces

-- some piece begins the text
record Begins (s : List ℕ) : Type 0 where
  token : Option Token
  len : ℕ
  front : BeginsWithToken s token len

by_sign : (s : List ℕ) (found : Option (List ℕ × Token)) → BeginsOther s → sign_at s ≡ found → Begins s
by_sign s None other h = record { token = _; len = _; front = other_front s other h }
by_sign s (Some sign) other h = record { token = _; len = _; front = sign_front s sign.0 sign.1 other h }

by_comment : (s : List ℕ) (b : Bool) → begins_comment s ≡ b → 0 < length s → is_blank (get_or s 0 0) ≡ false
    → is_word_byte (get_or s 0 0) ≡ false → Begins s
by_comment s true h some blank word = record { token = _; len = _; front = comment_front s _ _ h refl refl }
by_comment s false h some blank word = by_sign s (sign_at s)
    (record { some = some; no_blank = blank; no_word = word; no_comment = h }) refl

by_word : (s : List ℕ) (b : Bool) → is_word_byte (get_or s 0 0) ≡ b → 0 < length s → is_blank (get_or s 0 0) ≡ false
    → Begins s
by_word s true h some blank = record { token = _; len = _; front = word_front s _ h refl }
by_word s false h some blank = by_comment s (begins_comment s) refl some blank h

by_blank : (s : List ℕ) (b : Bool) → is_blank (get_or s 0 0) ≡ b → 0 < length s → Begins s
by_blank s true h some = record { token = _; len = _; front = blank_front s some h }
by_blank s false h some = by_word s (is_word_byte (get_or s 0 0)) refl some h

-- no piece is empty
piece_some : (rest : List ℕ) (piece : Piece) → FitsBefore rest piece → 0 < length (bytes_of piece)
piece_some rest (Blank b) fits = omega arith
piece_some rest (Comment bytes) fits = omega arith
piece_some rest (Word []) fits = absurd (fits.0 refl)
piece_some rest (Word (b ∷ bytes)) fits = omega arith
piece_some rest (Sign bytes token) fits = (found_sign (bytes ++ rest) bytes token fits.0).moves
piece_some rest (Other b) fits = omega arith

-- the pieces of a text
record HasPieces (text : List ℕ) : Type 0 where
  pieces : List Piece
  spelled : text ≡ text_of pieces
  fit : AllFit pieces

pieces_within : (k : ℕ) (s : List ℕ) → length s ≤ k → HasPieces s
pieces_within k [] h = record { pieces = []; spelled = refl; fit = tt }
pieces_within zero (b ∷ s) h = absurd (omega arith)
pieces_within (suc k) (b ∷ s) h =
    let first = by_blank (b ∷ s) (is_blank b) refl (omega arith) in
    let front = first.front in
    let some = piece_some (drop first.len (b ∷ s)) front.piece front.fits in
    let moves : 0 < first.len = omega (arith, some, front.len_is) in
    let left : length (drop first.len (b ∷ s)) ≤ k = omega (arith, length-drop first.len (b ∷ s)) in
    let more = pieces_within k (drop first.len (b ∷ s)) left in
    record {
      pieces = front.piece ∷ more.pieces;
      spelled = front.split ∙ ap (λ r. bytes_of front.piece ++ r) more.spelled;
      fit = (subst (λ r. FitsBefore r front.piece) more.spelled front.fits, more.fit);
    }

-- each text has a lexing
pub every_text : (text : List ℕ) → (tokens : List Token) × (lines : List ℕ) × IsLexed text tokens lines
every_text text =
    let all = pieces_within (length text) text (omega arith) in (
      tokens_of all.pieces,
      line_numbers_from 1 all.pieces,
      record {
        pieces = all.pieces;
        spelled = all.spelled;
        fit = all.fit;
        matches = refl;
        placed = refl;
      },
    )

-- ---- only one lexing

front_run : (p : ℕ → Bool) (xs rest : List ℕ) → list_all p xs ≡ true → begins p rest ≡ false
    → take_while p (xs ++ rest) ≡ xs
front_run p [] [] all stops = refl
front_run p [] (r ∷ rest) all stops = rw (take_while-cons p r rest, stops) refl
front_run p (x ∷ xs) rest all stops =
    let parts = and_parts (p x) (list_all p xs) all in
    rw (take_while-cons p x (xs ++ rest), parts.0) (ap (λ ys. x ∷ ys) (front_run p xs rest parts.1 stops))

no_feeds : (xs : List ℕ) → list_any is_feed xs ≡ false → list_all (λ b. not (is_feed b)) xs ≡ true
no_feeds [] h = refl
no_feeds (x ∷ xs) h = let parts = or_parts (is_feed x) (list_any is_feed xs) h in rw (parts.0, no_feeds xs parts.1) refl

line_stops : (rest : List ℕ) → line_ends_here rest ≡ true → begins (λ b. not (is_feed b)) rest ≡ false
line_stops [] h = refl
line_stops (b ∷ rest) h = let feed : is_feed b ≡ true = h in rw feed refl

word_no_blank : (b : ℕ) → is_word_byte b ≡ true → is_blank b ≡ false
word_no_blank b h = grind (arith, nat_tests)

no_slashes : (t : List ℕ) → sign_at (codes "//" ++ t) ≡ None → ⊥
unfolding signs
no_slashes t h = cc

no_comment : (s : List ℕ) (b : Bool) → begins_comment s ≡ b → sign_at s ≡ None → begins_comment s ≡ false
no_comment s true e h = absurd (no_slashes (drop 2 s) (subst (λ t. sign_at t ≡ None) (comment_split s e) h))
no_comment s false e h = e

-- the piece that begins a text, depending on the first byte and the rest of the text
piece_by : Bool → Bool → Bool → Option (List ℕ × Token) → ℕ → List ℕ → Piece
piece_by true word comment sign b bs = Blank b
piece_by false true comment sign b bs = Word (take_while is_word_byte (b ∷ bs))
piece_by false false true sign b bs = Comment (take_while (λ b. not (is_feed b)) (drop 1 bs))
piece_by false false false (Some sign) b bs = Sign sign.0 sign.1
piece_by false false false None b bs = Other b

first_of_text : List ℕ → Piece
first_of_text [] = Other 0
first_of_text (b ∷ bs) = piece_by (is_blank b) (is_word_byte b) (begins_comment (b ∷ bs)) (sign_at (b ∷ bs)) b bs

by_tests : (b : ℕ) (bs : List ℕ) (blank word comment : Bool) (sign : Option (List ℕ × Token)) → is_blank b ≡ blank
    → is_word_byte b ≡ word → begins_comment (b ∷ bs) ≡ comment → sign_at (b ∷ bs) ≡ sign
    → first_of_text (b ∷ bs) ≡ piece_by blank word comment sign b bs
unfolding first_of_text
by_tests b bs blank word comment sign e f g h =
    ap (λ v. piece_by v (is_word_byte b) (begins_comment (b ∷ bs)) (sign_at (b ∷ bs)) b bs) e
    ∙ ap (λ v. piece_by blank v (begins_comment (b ∷ bs)) (sign_at (b ∷ bs)) b bs) f
    ∙ ap (λ v. piece_by blank word v (sign_at (b ∷ bs)) b bs) g
    ∙ ap (λ v. piece_by blank word comment v b bs) h

known : (rest : List ℕ) (piece : Piece) → FitsBefore rest piece → first_of_text (bytes_of piece ++ rest) ≡ piece
unfolding piece_by
known rest (Blank b) fits = by_tests b rest true _ _ _ fits refl refl refl
known rest (Comment bytes) fits =
    by_tests 47 (47 ∷ (bytes ++ rest)) false false true _ refl refl refl refl
    ∙ ap Comment (front_run (λ b. not (is_feed b)) bytes rest (no_feeds bytes fits.0) (line_stops rest fits.1))
known rest (Word []) fits = absurd (fits.0 refl)
known rest (Word (b ∷ bytes)) fits =
    let first = (and_parts (is_word_byte b) (list_all is_word_byte bytes) fits.1).0 in
    by_tests b (bytes ++ rest) false true _ _ (word_no_blank b first) first refl refl
    ∙ ap Word (front_run is_word_byte (b ∷ bytes) rest fits.1 fits.2)
known rest (Sign [] token) fits = absurd ((found_sign ([] ++ rest) [] token fits.0).some refl)
known rest (Sign (b ∷ bytes) token) fits =
    let sign = found_sign ((b ∷ bytes) ++ rest) (b ∷ bytes) token fits.0 in
    by_tests b (bytes ++ rest) false false false _ (sign.no_blank rest) (sign.no_word rest) fits.1 fits.0
known rest (Other b) fits = by_tests b rest false false false _ fits.0 fits.1 (no_comment (b ∷ rest) _ refl fits.2)
    fits.2

same_pieces : (ps qs : List Piece) → text_of ps ≡ text_of qs → AllFit ps → AllFit qs → ps ≡ qs
same_pieces [] [] e f g = refl
same_pieces [] (q ∷ qs) e f g =
    let len : 0 ≡ length (bytes_of q) + length (text_of qs) = ap length e ∙ length-append (bytes_of q) (text_of qs) in
    absurd (omega (arith, piece_some (text_of qs) q g.0))
same_pieces (p ∷ ps) [] e f g =
    let len : length (bytes_of p) + length (text_of ps) ≡ 0 = sym (length-append (bytes_of p) (text_of ps))
    ∙ ap length e in
    absurd (omega (arith, piece_some (text_of ps) p f.0))
same_pieces (p ∷ ps) (q ∷ qs) e f g =
    let first : p ≡ q = sym (known (text_of ps) p f.0) ∙ ap first_of_text e ∙ known (text_of qs) q g.0 in
    let rest : text_of ps ≡ text_of qs = append_cancel_left (bytes_of p) (text_of ps) (text_of qs)
    (e ∙ ap (λ z. bytes_of z ++ text_of qs) (sym first)) in
    ap (λ z. z ∷ ps) first ∙ ap (λ zs. q ∷ zs) (same_pieces ps qs rest f.1 g.1)

-- a text has only one lexing
pub one_lexing : (text : List ℕ) (ts us : List Token) (ls ms : List ℕ) → IsLexed text ts ls → IsLexed text us ms
    → (ts ≡ us) × (ls ≡ ms)
one_lexing text ts us ls ms a b =
    let same = same_pieces a.pieces b.pieces (sym a.spelled ∙ b.spelled) a.fit b.fit in
    (a.matches ∙ ap tokens_of same ∙ sym b.matches, a.placed ∙ ap (line_numbers_from 1) same ∙ sym b.placed)

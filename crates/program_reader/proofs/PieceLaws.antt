-- The piece with which a text begins.
use Rattle.std.proofs.Common.{◌≡◌, ◌≢◌, ◌<◌, ◌≤◌, ◌+◌, ◌&&◌, not, ℕ, suc, List, [], ◌∷◌, ◌++◌, get_or, length, take}
use Rattle.std.proofs.Common.{drop, eqb, Bool, true, false, cond, Option, Some, None, refl, ap, sym, subst, arith}
use Rattle.std.proofs.Common.{codes, one-add}
use Rattle.std.proofs.lemmas.Bool.{and_parts, and_from}
use Rattle.std.proofs.lemmas.Bool.Decides.{nat_tests, Decides-eqb}
use Rattle.std.proofs.lemmas.List.{take-append-drop, length-take-le, length-append}
use Rattle.std.proofs.lemmas.List.Sums.{take_while-cons, prefix_len-le-length}
use Rattle.std.proofs.lemmas.Slice.Eq.{starts_is}
use Rattle.std.specs.List.{list_all, list_any, prefix_len, take_while, find, starts_with}
use Rattle.program_reader.specs.Front.{BeginsWithToken, BeginsOther}
use Rattle.program_tree.specs.Tokens.{Token, Bad}
use Rattle.program_tree.specs.Words.{begins, is_word_byte, word_token}
use Rattle.program_tree.specs.Text.{is_feed, is_blank, signs, sign_at, begins_comment, line_ends_here, Blank, Comment, Word}
use Rattle.program_tree.specs.Text.{Sign, Other}

-- ---- the longest prefix whose bytes pass the test

passes_cons : (p : ℕ → Bool) (x : ℕ) (xs : List ℕ) (b : Bool) → p x ≡ b → list_all p xs ≡ true
    → list_all p (cond b (x ∷ xs) []) ≡ true
passes_cons p x xs true e h = and_from (p x) (list_all p xs) e h
passes_cons p x xs false e h = refl

pub front_passes : (p : ℕ → Bool) (xs : List ℕ) → list_all p (take_while p xs) ≡ true
front_passes p [] = refl
front_passes p (x ∷ xs) = rw take_while-cons (passes_cons p x (take_while p xs) (p x) refl (front_passes p xs))

stops_cons : (p : ℕ → Bool) (x : ℕ) (xs : List ℕ) (n : ℕ) (b : Bool) → p x ≡ b → begins p (drop n xs) ≡ false
    → begins p (drop (cond b (1 + n) 0) (x ∷ xs)) ≡ false
stops_cons p x xs n true e h = rw one-add h
stops_cons p x xs n false e h = e

pub front_stops : (p : ℕ → Bool) (xs : List ℕ) → begins p (drop (prefix_len p xs) xs) ≡ false
front_stops p [] = refl
front_stops p (x ∷ xs) = stops_cons p x xs (prefix_len p xs) (p x) refl (front_stops p xs)

no_feed : (xs : List ℕ) → list_all (λ b. not (is_feed b)) xs ≡ true → list_any is_feed xs ≡ false
no_feed [] h = refl
no_feed (x ∷ xs) h =
    let parts = and_parts (not (is_feed x)) (list_all (λ b. not (is_feed b)) xs) h in
    let first : is_feed x ≡ false = grind (arith, nat_tests) in
    rw (first, no_feed xs parts.1) refl

line_ends : (xs : List ℕ) → begins (λ b. not (is_feed b)) xs ≡ false → line_ends_here xs ≡ true
line_ends [] h = refl
line_ends (x ∷ xs) h = grind (arith, nat_tests)

-- ---- the signs

passes_at : {X : Type 0} (p : X → Bool) (y : X) (rest : Option X) (x : X) (b : Bool) → p y ≡ b
    → cond b (Some y) rest ≡ Some x → (rest ≡ Some x → p x ≡ true) → p x ≡ true
passes_at p y rest x true e h k = let same : y ≡ x = cc in subst (λ z. p z ≡ true) same e
passes_at p y rest x false e h k = k h

found_passes : {X : Type 0} (p : X → Bool) (xs : List X) (x : X) → find p xs ≡ Some x → p x ≡ true
found_passes p [] x h = absurd cc
found_passes p (y ∷ ys) x h = passes_at p y (find p ys) x (p y) refl h (found_passes p ys x)

among_at : {X : Type 0} (q : X → Bool) (y : X) (rest : Option X) (x : X) (b : Bool) → q y ≡ true
    → cond b (Some y) rest ≡ Some x → (rest ≡ Some x → q x ≡ true) → q x ≡ true
among_at q y rest x true e h k = let same : y ≡ x = cc in subst (λ z. q z ≡ true) same e
among_at q y rest x false e h k = k h

pub found_among : {X : Type 0} (p q : X → Bool) (xs : List X) (x : X) → list_all q xs ≡ true → find p xs ≡ Some x
    → q x ≡ true
found_among p q [] x all h = absurd cc
found_among p q (y ∷ ys) x all h =
    let parts = and_parts (q y) (list_all q ys) all in
    among_at q y (find p ys) x (p y) parts.0 h (found_among p q ys x parts.1)

-- the form of each of the signs
begins_sign : ℕ → Bool
begins_sign b = not (is_blank b) && not (is_word_byte b)

is_sign_text : List ℕ → Bool
is_sign_text text = begins begins_sign text && not (list_any is_feed text)

signs_alike : list_all (λ sign. is_sign_text sign.0) signs ≡ true
unfolding signs begins_sign is_sign_text
signs_alike = refl

not_true : (b : Bool) → not b ≡ true → b ≡ false
not_true true h = absurd cc
not_true false h = refl

-- a sign that was found
pub record IsSign (text bytes : List ℕ) : Type 0 where
  pub split : text ≡ bytes ++ drop (length bytes) text
  pub some : bytes ≢ []
  pub moves : 0 < length bytes
  pub within : length bytes ≤ length text
  pub no_feed : list_any is_feed bytes ≡ false
  pub no_blank : (rest : List ℕ) → is_blank (get_or (bytes ++ rest) 0 0) ≡ false
  pub no_word : (rest : List ℕ) → is_word_byte (get_or (bytes ++ rest) 0 0) ≡ false

sign_of_text : (text bytes : List ℕ) → text ≡ bytes ++ drop (length bytes) text → is_sign_text bytes ≡ true
    → IsSign text bytes
unfolding begins_sign is_sign_text
sign_of_text text [] split alike = absurd cc
sign_of_text text (b ∷ bytes) split alike =
    let parts = and_parts (begins_sign b) (not (list_any is_feed (b ∷ bytes))) alike in
    let kinds = and_parts (not (is_blank b)) (not (is_word_byte b)) parts.0 in
    let len : length text ≡ length ((b ∷ bytes) ++ drop (length (b ∷ bytes)) text) = ap length split in
    record {
      split = split;
      some = λ e. absurd cc;
      moves = omega arith;
      within = omega (arith, length-append (b ∷ bytes) (drop (length (b ∷ bytes)) text));
      no_feed = not_true _ parts.1;
      no_blank = λ rest. not_true _ kinds.0;
      no_word = λ rest. not_true _ kinds.1;
    }

pub found_sign : (text bytes : List ℕ) (token : Token) → sign_at text ≡ Some (bytes, token) → IsSign text bytes
found_sign text bytes token h =
    let passes : starts_with eqb text bytes ≡ true = found_passes (λ s. starts_with eqb text s.0) signs (bytes, token)
    h in
    sign_of_text text bytes
    ((starts_is Decides-eqb text bytes (starts_with eqb text bytes) refl).0 passes)
    (found_among (λ s. starts_with eqb text s.0) (λ s. is_sign_text s.0) signs (bytes, token) signs_alike h)

pub comment_split : (text : List ℕ) → begins_comment text ≡ true → text ≡ codes "//" ++ drop 2 text
comment_split text h = (starts_is Decides-eqb text (codes "//") (begins_comment text) refl).0 h

-- ---- the beginning of a text, for each kind of piece

pub blank_front : (s : List ℕ) → 0 < length s → is_blank (get_or s 0 0) ≡ true → BeginsWithToken s None 1
blank_front [] l h = absurd (omega arith)
blank_front (b ∷ s) l h = record { piece = Blank b; split = refl; len_is = refl; fits = h; is = refl }

word_some : (s : List ℕ) → is_word_byte (get_or s 0 0) ≡ true → 0 < prefix_len is_word_byte s
word_some [] h = absurd cc
word_some (b ∷ s) h = rw h (omega arith)

pub word_front : (s : List ℕ) (n : ℕ) → is_word_byte (get_or s 0 0) ≡ true → n ≡ prefix_len is_word_byte s
    → BeginsWithToken s (Some (word_token (take n s))) n
word_front s n h e =
    let some : 0 < n = omega (arith, word_some s h) in
    let within : n ≤ length s = omega (arith, prefix_len-le-length is_word_byte s) in
    let len : length (take n s) ≡ n = length-take-le n s within in
    record {
      piece = Word (take n s);
      split = sym (take-append-drop n s);
      len_is = len;
      fits = (
        λ none. let zero_len : length (take n s) ≡ 0 = ap length none in
            absurd (omega arith),
        rw e (front_passes is_word_byte s),
        rw e (front_stops is_word_byte s),
      );
      is = refl;
    }

comment_at : (t : List ℕ) (n : ℕ) → n ≡ prefix_len (λ b. not (is_feed b)) t
    → BeginsWithToken (codes "//" ++ t) None (suc (suc n))
comment_at t n e =
    let within : n ≤ length t = omega (arith, prefix_len-le-length (λ b. not (is_feed b)) t) in
    let len : length (take n t) ≡ n = length-take-le n t within in
    record {
      piece = Comment (take n t);
      split = ap (λ u. codes "//" ++ u) (sym (take-append-drop n t));
      len_is = ap (λ m. suc (suc m)) len;
      fits = (
        no_feed (take n t) (rw e (front_passes (λ b. not (is_feed b)) t)),
        line_ends (drop n t)
            (rw e (front_stops (λ b. not (is_feed b)) t)),
      );
      is = refl;
    }

pub comment_front : (s : List ℕ) (n m : ℕ) → begins_comment s ≡ true → n ≡ prefix_len (λ b. not (is_feed b)) (drop 2 s)
    → m ≡ 2 + n → BeginsWithToken s None m
comment_front s n m h e two =
    let is : m ≡ suc (suc n) = omega arith in
    rw is (subst (λ t. BeginsWithToken t None (suc (suc n))) (sym (comment_split s h)) (comment_at (drop 2 s) n e))

pub sign_front : (s bytes : List ℕ) (token : Token) → BeginsOther s → sign_at s ≡ Some (bytes, token)
    → BeginsWithToken s (Some token) (length bytes)
sign_front s bytes token other h =
    let split = (found_sign s bytes token h).split in
    record {
      piece = Sign bytes token;
      split = split;
      len_is = refl;
      fits = (
        subst (λ t. sign_at t ≡ Some (bytes, token)) split h,
        subst (λ t. begins_comment t ≡ false) split
            other.no_comment,
      );
      is = refl;
    }

pub other_front : (s : List ℕ) → BeginsOther s → sign_at s ≡ None → BeginsWithToken s (Some Bad) 1
other_front [] other h = absurd (omega (arith, other.some))
other_front (b ∷ s) other h = record {
  piece = Other b;
  split = refl;
  len_is = refl;
  fits = (other.no_blank, other.no_word, h);
  is = refl;
}

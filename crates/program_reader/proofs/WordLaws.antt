-- Words are ASCII, and each has a token.
use Rattle.std.proofs.Common.{◌≡◌, ◌<◌, ◌≤◌, ◌+◌, ◌*◌, ◌-◌, ℕ, zero, suc, min, List, [], ◌∷◌, get_or, length, take}
use Rattle.std.proofs.Common.{Bool, true, false, Some, None, refl, ap, sym, ◌∙◌, arith, if◌then◌else◌}
use Rattle.std.proofs.lemmas.Bool.{and_parts}
use Rattle.std.proofs.lemmas.Bool.Decides.{nat_tests}
use Rattle.std.proofs.lemmas.Int.Digits.{digits_value_more}
use Rattle.std.proofs.lemmas.Str.{IsUtf8-from_ascii, digit_value_digit}
use Rattle.std.specs.Char.{is_ascii_digit, digit_value}
use Rattle.std.specs.List.{list_all}
use Rattle.std.specs.Str.{IsAscii, IsUtf8}
use Rattle.std.specs.Str.Parse.{digits_value}
use Rattle.program_tree.specs.Tokens.{Token, Number, Name, Bad}
use Rattle.program_tree.specs.Words.{is_word_byte, is_number, is_name, lookup, keywords, word_token}

word_byte-small : (b : ℕ) → is_word_byte b ≡ true → b < 128
word_byte-small b h = grind (arith, nat_tests)

word-IsAscii : (word : List ℕ) → list_all is_word_byte word ≡ true → IsAscii word
word-IsAscii [] h i = omega arith
word-IsAscii (b ∷ word) h zero = word_byte-small b (and_parts (is_word_byte b) (list_all is_word_byte word) h).0
word-IsAscii (b ∷ word) h (suc i) = word-IsAscii word (and_parts (is_word_byte b) (list_all is_word_byte word) h).1 i

pub word-IsUtf8 : (word : List ℕ) → list_all is_word_byte word ≡ true → IsUtf8 word
word-IsUtf8 word h = IsUtf8-from_ascii word (word-IsAscii word h)

digit-low : (b : ℕ) → is_ascii_digit b ≡ true → 48 ≤ b
digit-low b h = grind (arith, nat_tests)

digit-high : (b : ℕ) → is_ascii_digit b ≡ true → b ≤ 57
digit-high b h = grind (arith, nat_tests)

all_at : (p : ℕ → Bool) (xs : List ℕ) (i : ℕ) → list_all p xs ≡ true → i < length xs → p (get_or xs i 0) ≡ true
all_at p [] i h l = absurd (omega arith)
all_at p (x ∷ xs) zero h l = (and_parts (p x) (list_all p xs) h).0
all_at p (x ∷ xs) (suc i) h l = all_at p xs i (and_parts (p x) (list_all p xs) h).1 (omega arith)

-- if a value is capped before the next digit is read, the result is the same
capped_more : (v d : ℕ) → min (10 * min v 65536 + d) 65536 ≡ min (v * 10 + d) 65536
capped_more v d = omega arith

-- one more digit
pub digit_step : (ds : List ℕ) (i v d r : ℕ) → list_all is_ascii_digit ds ≡ true → i < length ds
    → v ≡ min (digits_value 10 (take i ds)) 65536 → d ≡ get_or ds i 0 - 48
    → r ≡ min (10 * v + d) 65536 → r ≡ min (digits_value 10 (take (i + 1) ds)) 65536
digit_step ds i v d r all l so_far digit is =
    let low = digit-low _ (all_at is_ascii_digit ds i all l) in
    let high = digit-high _ (all_at is_ascii_digit ds i all l) in
    let value = digit_value_digit (get_or ds i 0) (low, high) in
    let more = digits_value_more 10 ds i l in
    let digit_is : d ≡ digit_value (get_or ds i 0) = omega (arith, value) in
    is ∙ ap (λ w. min (10 * w + d) 65536) so_far ∙ capped_more (digits_value 10 (take i ds)) d
    ∙ ap (λ w. min (digits_value 10 (take i ds) * 10 + w) 65536) digit_is ∙ ap (λ w. min w 65536) (sym more)

pub number_token : (w : List ℕ) (n : ℕ) → is_number w ≡ true → n ≡ min (digits_value 10 w) 65536
    → Number n ≡ word_token w
unfolding word_token
number_token w n h e = rw h (ap Number e)

pub table_token : (w : List ℕ) (t : Token) → is_number w ≡ false → lookup keywords w ≡ Some t → t ≡ word_token w
unfolding word_token
table_token w t h e = rw (h, e) refl

pub other_token : (w : List ℕ) (t : Token) → is_number w ≡ false → lookup keywords w ≡ None
    → t ≡ (if is_name w then Name w else Bad) → t ≡ word_token w
unfolding word_token
other_token w t h e is = rw (h, e) is

-- The table of the numbers below a thousand.
use Rattle.std.proofs.Common.{◌≡◌, ℕ, zero, suc, ◌+◌, ◌*◌, ◌/◌, ◌%◌, ◌<◌, ◌≤◌, List, [], ◌∷◌, ◌++◌, length, get_or, take, drop, refl, ◌∙◌, inl, inr, arith, decimal, if◌then◌else◌, nat_lt, set, length-set, append_assoc}
use Rattle.std.proofs.lemmas.Bool.{cases_lt, lt-ltb, le-ltb}
use Rattle.std.proofs.lemmas.Fmt.{decimal_digit}
use Rattle.std.proofs.lemmas.Grind.{take-set_at}
use Rattle.std.proofs.lemmas.List.{get_or-take, get_or-drop, take-take, length-take-le}
use Rattle.std.proofs.Math.Seq.{take-append_seam, take-append-add, drop-append-add}
use Rattle.itoa.proofs.Decimal.{decimal_two, decimal_pair, pair}
use Rattle.trace_printer.specs.declared.short.TheConstants.{SHORT}

-- the entry of the table for a number
entry : ℕ → List ℕ
entry n =
    if nat_lt n 10 then (48 + n) ∷ 46 ∷ 46 ∷ 49 ∷ []
    else if nat_lt n 100 then pair n ++ 46 ∷ 50 ∷ []
    else (48 + n / 100) ∷ pair (n % 100) ++ 51 ∷ []

pub record IsEntry (digits entry : List ℕ) : Type 0 where
  pub four : length entry ≡ 4
  pub front : take (length digits) entry ≡ digits
  pub count : get_or entry 3 0 ≡ 48 + length digits
  pub few : length digits ≤ 3

-- four bytes were put
four_set : (at : ℕ) (room : List ℕ) (a b c d : ℕ) → at + 4 ≤ length room → take (at + 4) (set (set (set (set room at a) (at + 1) b) (at + 2) c) (at + 3) d) ≡ take at room ++ (a ∷ b ∷ c ∷ d ∷ [])
four_set at room a b c d within =
    let one = set room at a in
    let two = set one (at + 1) b in
    let three = set two (at + 2) c in
    rw (take-set_at three (at + 3) (at + 4) d (omega arith) (omega (arith, length-set two (at + 2) c, length-set one (at + 1) b, length-set room at a)), take-set_at two (at + 2) (at + 3) c (omega arith) (omega (arith, length-set one (at + 1) b, length-set room at a)), take-set_at one (at + 1) (at + 2) b (omega arith) (omega (arith, length-set room at a)), take-set_at room at (at + 1) a (omega arith) (omega arith), append_assoc, append_assoc, append_assoc) refl

-- the digits of an entry that was put
digits_of_entry : (at end : ℕ) (before room entry digits : List ℕ) → IsEntry digits entry → take (at + 4) room ≡ take at before ++ entry → at ≤ length before → end ≡ at + length digits → take end room ≡ take at before ++ digits
digits_of_entry at end before room entry digits right put within is =
    let there : length (take at before) ≡ at = length-take-le at before within in
    let part : end ≤ at + 4 = omega (arith, right.few) in
    let from : end ≡ length (take at before) + length digits = omega arith in
    rw (← take-take end (at + 4) room part, put, from, take-append-add (take at before) entry (length digits), right.front) refl

entry_is : (n : ℕ) → n < 1000 → IsEntry (decimal n) (entry n)
unfolding entry
entry_is n small =
    elim (cases_lt n 10) [
      | inl one ↦ rw (lt-ltb n 10 one, decimal_digit n one) (record { four = refl; front = refl; count = refl; few = omega arith })
      | inr more ↦
          elim (cases_lt n 100) [
            | inl two ↦ rw (le-ltb n 10 more, lt-ltb n 100 two, decimal_two n more two) (record { four = refl; front = refl; count = refl; few = omega arith })
            | inr three ↦ rw (le-ltb n 10 more, le-ltb n 100 three, decimal_pair n three (omega arith), decimal_digit (n / 100) (omega arith)) (record { four = refl; front = refl; count = refl; few = omega arith })
          ]
    ]

-- the entries of this many numbers, from n on
entries : ℕ → ℕ → List ℕ
entries zero n = []
entries (suc k) n = entry n ++ entries k (suc n)

table : SHORT ≡ entries 1000 0
unfolding entries entry
table = refl

entry_at : (i k n : ℕ) → i < k → n + k ≤ 1000 → take 4 (drop (i * 4) (entries k n)) ≡ entry (n + i)
unfolding entries
entry_at i zero n h within = absurd (omega arith)
entry_at zero (suc k) n h within =
    let four = (entry_is n (omega arith)).four in
    let same : n + 0 ≡ n = omega arith in
    rw (same, ← four) (take-append_seam (entry n) (entries k (suc n)))
entry_at (suc i) (suc k) n h within =
    let four = (entry_is n (omega arith)).four in
    let from : suc i * 4 ≡ length (entry n) + i * 4 = omega arith in
    let same : n + suc i ≡ suc n + i = omega arith in
    rw (from, drop-append-add (entry n) (entries k (suc n)) (i * 4), same) (entry_at i k (suc n) (omega arith) (omega arith))

-- the entry of a number in the table
pub short_entry : (n : ℕ) → n < 1000 → IsEntry (decimal n) (take 4 (drop (n * 4) SHORT))
short_entry n small =
    let same : 0 + n ≡ n = omega arith in
    rw (table, entry_at n 1000 0 small (omega arith), same) (entry_is n small)

-- the bytes of that entry
pub short_bytes : ℕ → List ℕ
short_bytes n = get_or SHORT (n * 4) 0 ∷ get_or SHORT (n * 4 + 1) 0 ∷ get_or SHORT (n * 4 + 2) 0 ∷ get_or SHORT (n * 4 + 3) 0 ∷ []

four_bytes : (xs : List ℕ) → length xs ≡ 4 → xs ≡ get_or xs 0 0 ∷ get_or xs 1 0 ∷ get_or xs 2 0 ∷ get_or xs 3 0 ∷ []
four_bytes (a ∷ b ∷ c ∷ d ∷ []) h = refl
four_bytes x h = absurd (omega arith)

byte_at : (n i : ℕ) → i < 4 → get_or (take 4 (drop (n * 4) SHORT)) i 0 ≡ get_or SHORT (n * 4 + i) 0
byte_at n i h = get_or-take 4 (drop (n * 4) SHORT) i 0 h ∙ get_or-drop (n * 4) SHORT i 0

pub short_is : (n : ℕ) → n < 1000 → IsEntry (decimal n) (short_bytes n)
unfolding short_bytes
short_is n small =
    let right = short_entry n small in
    let first : n * 4 + 0 ≡ n * 4 = omega arith in
    rw (four_bytes (take 4 (drop (n * 4) SHORT)) right.four, byte_at n 0 (omega arith), first, byte_at n 1 (omega arith), byte_at n 2 (omega arith), byte_at n 3 (omega arith)) at right

pub short_count : (n : ℕ) → n < 1000 → get_or SHORT (n * 4 + 3) 0 ≡ 48 + length (decimal n)
unfolding short_bytes
short_count n small = (short_is n small).count

-- the bytes of the entry were put
pub put_entry : (n at end : ℕ) (room : List ℕ) → n < 1000 → at + 4 ≤ length room → end ≡ at + length (decimal n)
    → take end (set (set (set (set room at (get_or SHORT (n * 4) 0)) (at + 1) (get_or SHORT (n * 4 + 1) 0)) (at + 2) (get_or SHORT (n * 4 + 2) 0)) (at + 3) (get_or SHORT (n * 4 + 3) 0))
    ≡ take at room ++ decimal n
unfolding short_bytes
put_entry n at end room small within is = digits_of_entry at end room _ (short_bytes n) (decimal n) (short_is n small) (four_set at room _ _ _ _ within) (omega arith) is

-- The motes that hear a mote, found by comparing numbers.
use Rattle.std.proofs.Common.{◌≡◌, ℕ, ◌<◌, Bool, true, false, not, ◌&&◌, ◌==◌, nat_le, length, refl}
use Rattle.std.proofs.lemmas.Bool.{lt-ltb, ltb-true, and_parts}
use Rattle.radio_medium.specs.Medium.{Radio, is_mote, hears, square_distance, square, place_at}

-- the test whether a mote hears another, if both exist
pub hears_between : (radio : Radio) (r s : ℕ) → r < length radio.places → s < length radio.places
    → hears radio r s ≡ (not (r == s) && nat_le (square_distance (place_at radio s) (place_at radio r)) (square radio.range))
unfolding hears
hears_between radio r s receiver sender = rw (lt-ltb r _ receiver, lt-ltb s _ sender) refl

-- a mote that hears another exists
pub there-hears : (radio : Radio) (r s : ℕ) → hears radio r s ≡ true → r < length radio.places
unfolding hears
there-hears radio r s heard = ltb-true r _ (and_parts _ _ heard).0

-- a mote that another one hears exists
pub there-heard : (radio : Radio) (r s : ℕ) → hears radio r s ≡ true → s < length radio.places
unfolding hears
there-heard radio r s heard = ltb-true s _ (and_parts _ _ (and_parts _ _ heard).1).0

-- a mote doesn't hear another one that is farther away than the range
pub far_off : (radio : Radio) (r s : ℕ) → nat_le (square_distance (place_at radio s) (place_at radio r)) (square radio.range) ≡ false → hears radio r s ≡ false
unfolding hears
far_off radio r s far = rw far (not_all (is_mote radio r) (is_mote radio s) (not (r == s)))
  where
    not_all : (a b c : Bool) → (a && (b && (c && false))) ≡ false
    not_all false b c = refl
    not_all true false c = refl
    not_all true true false = refl
    not_all true true true = refl

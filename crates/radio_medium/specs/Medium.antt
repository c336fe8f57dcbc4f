-- The radio medium: the motes that hear a mote, the delay of a packet, and the copies that are lost. They depend only
-- on the record `Radio` and the number of the packet.
use Rattle.std.specs.Prelude.{ℕ, ◌+◌, ◌*◌, ◌/◌, ◌%◌, ◌≤◌, ◌==◌, nat_le, nat_lt, min, pos, ◌-ℤ◌, unsigned_abs, Bool}
use Rattle.std.specs.Prelude.{false, not, ◌&&◌, ◌||◌, if◌then◌else◌, Option, Some, None, unwrap_or, option_map, List}
use Rattle.std.specs.Prelude.{[], ◌∷◌, length, map, filter, find, slice_index_or, All}
use Rattle.std.specs.List.{filter_map, flat_map, list_any, range_with_len, reduce}
use Rattle.std.specs.Option.{option_map_or}
use Rattle.radio_packet.specs.declared.sent.Sent.{Sent}
use Rattle.radio_packet.specs.declared.copy.RadioCopy.{RadioCopy}
use Rattle.radio_medium.specs.declared.error.MediumError.{MediumError}
use Rattle.radio_medium.specs.declared.error.MediumError.TheVariants.{ZeroBase, ZeroPer, BadLoss}
use Rattle.radio_packet.specs.declared.fate.Fate.{Fate}
use Rattle.radio_medium.specs.declared.losses.Loss.{Loss}
use Rattle.radio_medium.specs.declared.place.Place.{Place}

-- the place of each mote, the range of a packet, its delay, and the copies that are lost; contracts view a `Medium` as
-- this record
pub record Radio : Type 0 where
  pub places : List Place
  pub range : ℕ
  pub base : ℕ
  pub per : ℕ
  pub losses : List Loss

-- the limits within which a medium can be made
pub record IsWithinLimits (radio : Radio) : Type 0 where
  pub motes : length radio.places ≤ 1000
  pub places : All (λ (p : Place). (unsigned_abs p.x ≤ 30000) × (unsigned_abs p.y ≤ 30000)) radio.places
  pub range : radio.range ≤ 100000
  pub base : radio.base ≤ 1000000
  pub per : radio.per ≤ 1000000

abbrev pub square : ℕ → ℕ
square n = n * n

-- the square of the distance between two places
unfoldable pub square_distance : Place → Place → ℕ
square_distance a b = square (unsigned_abs (a.x -ℤ b.x)) + square (unsigned_abs (a.y -ℤ b.y))

-- the numbers of the motes
abbrev pub motes : Radio → List ℕ
motes radio = range_with_len 0 (length radio.places)

-- there is a mote with this number
abbrev pub is_mote : Radio → ℕ → Bool
is_mote radio k = nat_lt k (length radio.places)

-- the place of the mote with this number
abbrev pub place_at : Radio → ℕ → Place
place_at radio k = slice_index_or radio.places k (record { x = pos 0; y = pos 0 })

-- mote r hears mote s: they are two motes, and r is within the range of s
unfoldable pub hears : Radio → (r s : ℕ) → Bool
hears radio r s =
    is_mote radio r && (is_mote radio s && (not (r == s)
    && nat_le (square_distance (place_at radio s) (place_at radio r)) (square radio.range)))

-- the number of moments that a packet needs from mote s to mote r
unfoldable pub delay : Radio → (s r : ℕ) → ℕ
delay radio s r = radio.base + square_distance (place_at radio s) (place_at radio r) / radio.per

-- the motes that hear mote s, in rising order
unfoldable pub receivers : Radio → (s : ℕ) → List ℕ
receivers radio s = filter (λ r. hears radio r s) (motes radio)

-- the delays of all links
unfoldable pub delays : Radio → List ℕ
delays radio = flat_map (λ s. map (delay radio s) (receivers radio s)) (motes radio)

-- the least of these delays; without links, the first moment after the end
unfoldable pub lookahead : Radio → (end : ℕ) → ℕ
lookahead radio end = unwrap_or (reduce min (delays radio)) (end + 1)

-- the loss is for packets from mote s to mote r
abbrev pub is_for_pair : (s r : ℕ) → Loss → Bool
is_for_pair s r loss = (loss.sender == s) && (loss.to == r)

-- if there is a loss for this pair, its number `every`: one of `every` packets from mote s to mote r is lost
abbrev pub every_of : List Loss → (s r : ℕ) → Option ℕ
every_of losses s r = option_map (λ (loss : Loss). loss.every) (find (is_for_pair s r) losses)

-- packet n is lost: the last of every `every` packets is lost, and packets are numbered from 0
abbrev pub is_lost : (n : ℕ) → Option ℕ → Bool
is_lost n every = option_map_or (λ k. (n + 1) % k == 0) every false

-- the medium loses the copy of packet number n from mote s to mote r
unfoldable pub loses : Radio → (s r n : ℕ) → Bool
loses radio s r n = is_lost n (every_of radio.losses s r)

-- the fate of the copy for mote r
unfoldable pub fate : Radio → Sent → (r : ℕ) → Fate
fate radio sent r = record {
  to = r;
  at = if loses radio sent.sender r sent.number then None else Some (sent.at + delay radio sent.sender r);
}

-- the fates of a packet's copies, sorted by receiver
unfoldable pub fates : Radio → Sent → List Fate
fates radio sent = map (fate radio sent) (receivers radio sent.sender)

-- the copy that has this fate, if it isn't lost
abbrev pub copy_of : Sent → Fate → Option RadioCopy
copy_of sent fate =
    option_map (λ at. record
    { at = at; to = fate.to; sender = sent.sender; number = sent.number; value = sent.value }) fate.at

-- the copies of a packet that aren't lost, sorted by receiver
unfoldable pub copies : Radio → Sent → List RadioCopy
copies radio sent = filter_map (copy_of sent) (fates radio sent)

-- a loss between two different motes of the net, whose `every` isn't 0
abbrev pub is_good : (motes : ℕ) → Loss → Bool
is_good motes loss =
    nat_lt loss.sender motes && (nat_lt loss.to motes && (not (loss.sender == loss.to) && not (loss.every == 0)))

-- two losses for one pair of motes
abbrev pub has_pair_twice : List Loss → Bool
has_pair_twice [] = false
has_pair_twice (loss ∷ losses) = list_any (is_for_pair loss.sender loss.to) losses || has_pair_twice losses

-- a loss isn't good, or two losses are for one pair of motes
unfoldable pub has_bad_loss : (motes : ℕ) → List Loss → Bool
has_bad_loss motes losses = list_any (λ loss. not (is_good motes loss)) losses || has_pair_twice losses

-- the first fault of a medium's numbers and losses
unfoldable pub medium_fault : Radio → Option MediumError
medium_fault radio =
    if radio.base == 0 then Some ZeroBase
    else if radio.per == 0 then Some ZeroPer
    else if has_bad_loss (length radio.places) radio.losses then Some BadLoss else None

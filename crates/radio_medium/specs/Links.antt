-- The data by which a medium finds the copies of a packet: for each mote, the links to the motes that hear it.
use Rattle.std.specs.Prelude.{◌≡◌, ℕ, ◌+◌, ◌<◌, ◌^◌, min, ◌==◌, ◌&&◌, true, false, if◌then◌else◌, cond, ◌⊎◌}
use Rattle.std.specs.Prelude.{List, filter, map, Option, Some, None, IsSome, Result, Ok, Err}
use Rattle.std.specs.List.{range_with_len, reduce}
use Rattle.std.specs.Option.{ForSome}
use Rattle.std.specs.HashMap.{get, HashMap}
use Rattle.std.specs.declared.hash.FoldHasher.{FoldHasher}
use Rattle.std.specs.declared.hash.BuildHasherDefault.{BuildHasherDefault}
use Rattle.radio_packet.specs.declared.sent.Sent.{Sent}
use Rattle.radio_medium.specs.declared.error.MediumError.{MediumError}
use Rattle.radio_medium.specs.declared.error.MediumError.TheVariants.{Memory, BadLoss}
use Rattle.radio_packet.specs.declared.fate.Fate.{Fate}
use Rattle.radio_medium.specs.declared.link.Link.{Link}
use Rattle.radio_medium.specs.declared.losses.Loss.{Loss}
use Rattle.radio_medium.specs.declared.place.Place.{Place}
use Rattle.radio_medium.specs.declared.reach.Reach.{Reach}
use Rattle.radio_medium.specs.Medium.{Radio, IsWithinLimits, motes, hears, receivers, delay, delays, medium_fault}
use Rattle.radio_medium.specs.Medium.{every_of, is_for_pair, is_good, is_lost, has_bad_loss}

-- the medium with these places, this reach and these losses
abbrev pub radio_from : List Place → Reach → List Loss → Radio
radio_from places reach losses = record {
  places = places;
  range = reach.range;
  base = reach.base;
  per = reach.per;
  losses = losses;
}

-- for a sender and a receiver, the number `every`: one of `every` packets is lost
abbrev pub EveryByPair : Type 0
EveryByPair = HashMap (ℕ × ℕ) ℕ (BuildHasherDefault FoldHasher)

-- the number `every` of this sender and this receiver in the table, if there is one
abbrev pub every_at : EveryByPair → (s r : ℕ) → Option ℕ
every_at every s r = get (λ x y. (x.0 == y.0) && (x.1 == y.1)) every (s, r)

-- a table of all losses, with the pairs of sender and receiver as keys; or an error, because one loss is bad or a pair
-- has two losses; if an allocation failed, nothing is claimed
abbrev pub GathersLosses : (motes : ℕ) → List Loss → Result EveryByPair MediumError → Type 0
GathersLosses motes losses (Ok every) =
    (has_bad_loss motes losses ≡ false) × ((s r : ℕ) → every_at every s r ≡ every_of losses s r)
GathersLosses motes losses (Err Memory) = Unit {0}
GathersLosses motes losses (Err BadLoss) = has_bad_loss motes losses ≡ true
GathersLosses motes losses (Err _) = ⊥

-- one more loss: it is good, and its pair had no loss; or an error, because it is bad or its pair had a loss; if an
-- allocation failed, nothing is claimed
abbrev pub AddsLoss : (motes : ℕ) → Loss → (old new : EveryByPair) → Result (Unit {0}) MediumError → Type 0
AddsLoss motes loss old new (Ok _) =
    (is_good motes loss ≡ true)
    × (every_at old loss.sender loss.to ≡ None)
    × ((s r : ℕ) → every_at new s r ≡ cond (is_for_pair s r loss) (Some loss.every) (every_at old s r))
AddsLoss motes loss old new (Err Memory) = Unit {0}
AddsLoss motes loss old new (Err BadLoss) = (is_good motes loss ≡ false) ⊎ IsSome (every_at old loss.sender loss.to)
AddsLoss motes loss old new (Err _) = ⊥

-- the link from mote s to mote r
abbrev pub link_of : Radio → (every : ℕ → ℕ → Option ℕ) → (s r : ℕ) → Link
link_of radio every s r = record { to = r; delay = delay radio s r; every = every s r }

-- the links from mote s to those that hear it
unfoldable pub links_of : Radio → (every : ℕ → ℕ → Option ℕ) → (s : ℕ) → List Link
links_of radio every s = map (link_of radio every s) (receivers radio s)

-- the links from mote s to those of the motes with numbers below n that hear it
abbrev pub links_below : Radio → (every : ℕ → ℕ → Option ℕ) → (s n : ℕ) → List Link
links_below radio every s n = map (link_of radio every s) (filter (λ r. hears radio r s) (range_with_len 0 n))

-- the fate of the copy of a packet on this link
abbrev pub fate_by : Sent → Link → Fate
fate_by sent link = record {
  to = link.to;
  at = if is_lost sent.number link.every then None else Some (sent.at + link.delay);
}

-- a link on which the moment of each copy can be computed
pub record IsFit (link : Link) : Type 0 where
  pub delay : link.delay < 2 ^ 34
  pub every : ForSome link.every (λ k. 0 < k)

-- the lesser of a number and the least number so far
abbrev pub with_least : Option ℕ → ℕ → Option ℕ
with_least None x = Some x
with_least (Some best) x = Some (min best x)

-- the properties of every `Medium`
pub record IsMedium (radio : Radio) (all_links : List (List Link)) (least_delay : Option ℕ) : Type 0 where
  pub limits : IsWithinLimits radio
  pub fault : medium_fault radio ≡ None
  pub links : all_links ≡ map (links_of radio (every_of radio.losses)) (motes radio)
  pub least : least_delay ≡ reduce min (delays radio)

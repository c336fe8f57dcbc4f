-- Motes with neighbouring numbers, in groups of 32.
use Rattle.std.specs.Prelude.{◌≡◌, ℕ, ◌+◌, ◌*◌, ◌<◌, ◌≤◌, ◌-ℤ◌, unsigned_abs, nat_le, min, false}
use Rattle.std.specs.Prelude.{List, length, slice_index_or}
use Rattle.radio_medium.specs.declared.groups.Group.{Group}
use Rattle.radio_medium.specs.declared.place.Place.{Place}
use Rattle.radio_medium.specs.Medium.{square, square_distance}

-- a place whose distance from the centre, along each axis, is at most that of the group
pub record HoldsPlace (group : Group) (place : Place) : Type 0 where
  pub x : unsigned_abs (group.centre.x -ℤ place.x) ≤ group.far_x
  pub y : unsigned_abs (group.centre.y -ℤ place.y) ≤ group.far_y

-- no place in the group is within the range of the place `from`
abbrev pub IsBeyond : Group → (range : ℕ) → (from : Place) → Type 0
IsBeyond group range from =
    (place : Place) → HoldsPlace group place → nat_le (square_distance from place) (square range) ≡ false

-- the group holds the places of the motes from number `first` up to, but not including, number `after`
abbrev pub HoldsMotes : List Place → (first after : ℕ) → Group → Type 0
HoldsMotes places first after group =
    (k : ℕ) (any : Place) → first ≤ k → k < after → HoldsPlace group (slice_index_or places k any)

-- the groups of all motes: the first 32 motes, the next 32, and so on; no group is empty
pub record AreGroups (places : List Place) (groups : List Group) : Type 0 where
  pub enough : length places ≤ length groups * 32
  pub filled : (i : ℕ) → i < length groups → i * 32 < length places
  pub hold : (i : ℕ) (any : Group) → i < length groups
      → HoldsMotes places (i * 32) (min (length places) (i * 32 + 32)) (slice_index_or groups i any)

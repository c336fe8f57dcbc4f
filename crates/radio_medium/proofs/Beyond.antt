-- Groups of motes: the motes that are farther from a whole group than the range.
use Rattle.std.proofs.Common.{◌≡◌, ℕ, zero, suc, ◌+◌, ◌-◌, ◌*◌, ◌<◌, ◌≤◌, false, List, [], refl, subst, arith}
use Rattle.std.specs.Prelude.{Option, ℤ, unsigned_abs, ◌-ℤ◌, nat_le}
use Rattle.std.proofs.Math.Nat.{mul-le-mul_left}
use Rattle.std.proofs.lemmas.Bool.{leb-false, lt-leb}
use Rattle.std.proofs.lemmas.Int.{ints}
use Rattle.radio_medium.specs.declared.groups.Group.{Group}
use Rattle.radio_medium.specs.declared.link.Link.{Link}
use Rattle.radio_medium.specs.declared.place.Place.{Place}
use Rattle.radio_medium.specs.declared.reach.Reach.{Reach}
use Rattle.radio_medium.specs.Medium.{Radio, square, square_distance, hears, place_at}
use Rattle.radio_medium.specs.Links.{radio_from, links_below}
use Rattle.radio_medium.specs.Groups.{IsBeyond, HoldsMotes}
use Rattle.radio_medium.proofs.Hearing.{far_off}
use Rattle.radio_medium.proofs.LinkLemmas.{links_step_none}

gap_by : (a b c : ℤ) → unsigned_abs (a -ℤ b) ≤ unsigned_abs (a -ℤ c) + unsigned_abs (b -ℤ c)
gap_by a b c = omega (arith, ints)

square_lt : (m n : ℕ) → m < n → square m < square n
square_lt m n less =
    let low : m * m ≤ m * n = mul-le-mul_left m (omega arith) in
    let high : n * (m + 1) ≤ n * n = mul-le-mul_left n (omega arith) in
    omega arith

-- one coordinate that differs by more than the range is enough
far_by : (range dx dy : ℕ) → range < dx → square range < square dx + square dy
far_by range dx dy far = let less : square range < square dx = square_lt range dx far in omega arith

pub beyond_x : (group : Group) (range : ℕ) (from : Place) → nat_le (unsigned_abs (from.x -ℤ group.centre.x) - range) group.far_x ≡ false → IsBeyond group range from
unfolding square_distance
beyond_x group range from far place holds =
    let parts : unsigned_abs (from.x -ℤ group.centre.x) ≤ unsigned_abs (from.x -ℤ place.x) + unsigned_abs (group.centre.x -ℤ place.x) = gap_by from.x group.centre.x place.x in
    let past : group.far_x < unsigned_abs (from.x -ℤ group.centre.x) - range = leb-false _ _ far in
    let near : unsigned_abs (group.centre.x -ℤ place.x) ≤ group.far_x = holds.x in
    let gap : range < unsigned_abs (from.x -ℤ place.x) = omega arith in
    lt-leb _ _ (far_by range (unsigned_abs (from.x -ℤ place.x)) (unsigned_abs (from.y -ℤ place.y)) gap)

pub beyond_y : (group : Group) (range : ℕ) (from : Place) → nat_le (unsigned_abs (from.y -ℤ group.centre.y) - range) group.far_y ≡ false → IsBeyond group range from
unfolding square_distance
beyond_y group range from far place holds =
    let parts : unsigned_abs (from.y -ℤ group.centre.y) ≤ unsigned_abs (from.y -ℤ place.y) + unsigned_abs (group.centre.y -ℤ place.y) = gap_by from.y group.centre.y place.y in
    let past : group.far_y < unsigned_abs (from.y -ℤ group.centre.y) - range = leb-false _ _ far in
    let near : unsigned_abs (group.centre.y -ℤ place.y) ≤ group.far_y = holds.y in
    let gap : range < unsigned_abs (from.y -ℤ place.y) = omega arith in
    let x : ℕ = square (unsigned_abs (from.x -ℤ place.x)) in
    let less : square range < square (unsigned_abs (from.y -ℤ place.y)) = square_lt range (unsigned_abs (from.y -ℤ place.y)) gap in
    lt-leb _ _ (omega arith)

-- if none of these motes hears the sender, there are no links to them
links_skip : (radio : Radio) (every : ℕ → ℕ → Option ℕ) (s first n : ℕ) (links : List Link) → links ≡ links_below radio every s first
    → ((k : ℕ) → first ≤ k → k < first + n → hears radio k s ≡ false) → links ≡ links_below radio every s (first + n)
links_skip radio every s first zero links so_far none = let same : first + zero ≡ first = omega arith in rw same so_far
links_skip radio every s first (suc n) links so_far none =
    let more : first + suc n ≡ first + n + 1 = omega arith in
    rw more
    (links_step_none radio every s (first + n) links
    (links_skip radio every s first n links so_far (λ k low high. none k low (omega arith)))
    (rw (none (first + n) (omega arith) (omega arith)) refl))

-- if a group is beyond the range, there are no links to its motes
pub links_beyond : (places : List Place) (reach : Reach) (every : ℕ → ℕ → Option ℕ) (s first after : ℕ) (group : Group) (links : List Link)
    → first ≤ after → HoldsMotes places first after group → IsBeyond group reach.range (place_at (radio_from places reach []) s)
    → links ≡ links_below (radio_from places reach []) every s first → links ≡ links_below (radio_from places reach []) every s after
links_beyond places reach every s first after group links order holds beyond so_far =
    let radio : Radio = radio_from places reach [] in
    let whole : first + (after - first) ≡ after = omega arith in
    subst (λ n. links ≡ links_below radio every s n) whole
    (links_skip radio every s first (after - first) links so_far
    (λ k low high. far_off radio k s (beyond (place_at radio k) (holds k _ low (omega arith)))))

-- A worker has exactly the motes that the partition assigns to it.
use Rattle.std.proofs.Common.{[], ◌≡◌, ℕ, zero, suc, ◌<◌, eqb, List, ◌∷◌, length, refl, arith}
use Rattle.copy_exchange.specs.Crossed.{is_own}
use Rattle.std.specs.Prelude.{slice_index}

pub own_is : (owners : List ℕ) (k w : ℕ) → k < length owners → is_own owners w k ≡ eqb (slice_index owners k) w
own_is [] k w h = absurd (omega arith)
own_is (x ∷ owners) zero w h = refl
own_is (x ∷ owners) (suc k) w h = own_is owners k w (omega arith)

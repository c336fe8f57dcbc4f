-- The copies that a worker delivers to the others in one window.
use Rattle.std.specs.Prelude.{◌≡◌, ℕ, ◌<◌, ◌==◌, false, List, [], ◌∷◌, ◌++◌, map, filter}
use Rattle.radio_packet.specs.declared.copy.RadioCopy.{RadioCopy}
use Rattle.copy_exchange.specs.Crossed.{is_to}
use Rattle.copy_inbox.specs.declared.items.Carried.TheVariants.{Packet, Mark}
use Rattle.copy_exchange.specs.declared.endpoint.Endpoint.{Endpoint}
use Rattle.copy_exchange.specs.Endpoints.{Stays, pushed_to}

-- the worker pushed to each other worker the copies for that worker's motes, in order, and after them the mark of the
-- window
pub record PushesWindow (owners : List ℕ) (workers window : ℕ) (old new : Endpoint)
    (copies : List RadioCopy) : Type 0 where
  pub stays : Stays old new
  pub taker : new.taker ≡ old.taker
  pub pushes : (v : ℕ) → v < workers → (v == old.worker) ≡ false
      → pushed_to new v ≡ pushed_to old v ++ (map Packet (filter (is_to owners v) copies) ++ Mark window ∷ [])

-- Each worker's endpoint is at the place of its number.
use Rattle.std.proofs.Common.{◌≡◌, ℕ, ◌<◌, List, map, get_or, sym, ap, ◌∙◌, arith, Some}
use Rattle.std.proofs.lemmas.List.FromFn.{get_or-range_with_len}
use Rattle.std.specs.List.{slice_get, range_with_len}
use Rattle.copy_exchange.specs.declared.endpoint.Endpoint.{Endpoint}
use Rattle.window_workers.proofs.Lookups.{read, mapped}

-- each endpoint belongs to the worker at its place
pub numbered : (workers : ℕ) (endpoints : List Endpoint) → map (λ (c : Endpoint). c.worker) endpoints ≡ range_with_len 0 workers → (v : ℕ) → v < workers → (c : Endpoint) → slice_get endpoints v ≡ Some c → c.worker ≡ v
numbered workers endpoints e v h c f =
    sym (read (map (λ (x : Endpoint). x.worker) endpoints) v c.worker 0 (mapped (λ (x : Endpoint). x.worker) endpoints v c f))
    ∙ (ap (λ l. get_or l v 0) e ∙ (get_or-range_with_len 0 workers v 0 h ∙ omega arith))

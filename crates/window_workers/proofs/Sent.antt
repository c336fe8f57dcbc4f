-- Outgoing copies are for motes of other workers; and a property of the copies of each sender is a property of all
-- copies.
use Rattle.std.proofs.Common.{◌≡◌, ℕ, zero, suc, ◌<◌, true, eqb, List, [], ◌∷◌, length, refl, sym, subst, arith, inl, inr}
use Rattle.std.specs.List.{filter, AllByRecursion as Each}
use Rattle.copy_exchange.specs.Endpoints.{Leaves}
use Rattle.mote_net.specs.Net.{NetModel}
use Rattle.radio_packet.specs.declared.copy.RadioCopy.{RadioCopy}
use Rattle.window_laws.proofs.Lists.{every_weaker}
use Rattle.window_laws.specs.Windows.{is_from_sender}
use Rattle.window_workers.specs.WorkerGroup.{IsCut}
use Rattle.worker_window.specs.Window.{IsOutgoing}
use Rattle.std.specs.Prelude.{slice_index}
use Rattle.std.proofs.lemmas.Bool.{eq-eqb, cases_Bool}

module _ (P : RadioCopy → Type 0) where
  rest_of_each : (x : RadioCopy) (xs : List RadioCopy) → ((s : ℕ) → Each P (filter (is_from_sender s) (x ∷ xs)))
      → (s : ℕ) → Each P (filter (is_from_sender s) xs)
  rest_of_each x xs h s = elim (cases_Bool (eqb x.sender s)) [ inl e ↦ (let g = rw e at (h s) in g.1) | inr e ↦ (let g = rw e at (h s) in g) ]

  pub every_of_each : (xs : List RadioCopy) → ((s : ℕ) → Each P (filter (is_from_sender s) xs)) → Each P xs
  every_of_each [] h = tt
  every_of_each (x ∷ xs) h =
      let e : eqb x.sender x.sender ≡ true = eq-eqb x.sender x.sender refl in
      let g = rw e at (h x.sender) in
      (g.0, every_of_each xs (rest_of_each x xs h))

there_at : (owners : List ℕ) (k workers : ℕ) → k < length owners → Each (λ w. w < workers) owners → slice_index owners k < workers
there_at [] k workers h all = absurd (omega arith)
there_at (x ∷ owners) zero workers h all = all.0
there_at (x ∷ owners) (suc k) workers h all = there_at owners k workers (omega arith) all.1

pub leaves_sent : (n : NetModel) (owners : List ℕ) (workers worker : ℕ) (outgoing : List RadioCopy)
    → IsCut (length n.motes) workers owners → Each (IsOutgoing n owners worker) outgoing → Each (Leaves owners workers worker) outgoing
leaves_sent n owners workers worker outgoing cut out = every_weaker _ _ one outgoing out
  where
    one : (c : RadioCopy) → IsOutgoing n owners worker c → Leaves owners workers worker c
    one c g =
        let h : c.to < length owners = subst (λ l. c.to < l) (sym cut.len) g.there in
        record { there = h; its_worker = there_at owners c.to workers h cut.there; other = g.to }

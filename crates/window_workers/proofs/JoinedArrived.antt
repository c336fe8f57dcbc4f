-- The copies that were sent to a worker are for its motes.
use Rattle.std.proofs.Common.{◌≡◌, ◌⊎◌, ℕ, Bool, true, false, List, [], ◌∷◌, ◌++◌, sym, ap, ◌∙◌, subst, inl, inr}
use Rattle.std.proofs.lemmas.Bool.{cases_Bool, eqb-true}
use Rattle.std.specs.List.{filter, AllByRecursion as Each}
use Rattle.copy_exchange.specs.Crossed.{is_to, is_own}
use Rattle.copy_exchange.specs.CutLaws.{GatheredCopies}
use Rattle.copy_exchange.specs.Endpoints.{Collects}
use Rattle.copy_exchange.specs.Takers.{SameOfEach, taken_by, gathered_by}
use Rattle.copy_exchange.specs.declared.endpoint.Endpoint.{Endpoint}
use Rattle.mote_net.specs.Net.{NetModel}
use Rattle.net_agenda.specs.NetSystem.{system_of}
use Rattle.radio_packet.specs.declared.copy.RadioCopy.{RadioCopy}
use Rattle.window_laws.proofs.Lists.{every_weaker, every_both, every_passes}
use Rattle.window_laws.specs.Windows.{is_from_sender}
use Rattle.worker_window.specs.Share.{Motes}
use Rattle.window_workers.proofs.Sent.{every_of_each}

module _ (P : RadioCopy → Type 0) where
  pub each_of_every : (xs : List RadioCopy) (p : RadioCopy → Bool) → Each P xs → Each P (filter p xs)
  each_of_every [] p h = tt
  each_of_every (x ∷ xs) p h = elim (cases_Bool (p x)) [ inl e ↦ rw e (h.0, each_of_every xs p h.1) | inr e ↦ rw e (each_of_every xs p h.1) ]

  every_same : (xs ys : List RadioCopy) → SameOfEach xs ys → Each P ys → Each P xs
  every_same xs ys same h = every_of_each P xs (λ s. subst (Each P) (sym (same s)) (each_of_every ys (is_from_sender s) h))

  last_of : (xs ys : List RadioCopy) → Each P (xs ++ ys) → Each P ys
  last_of [] ys h = h
  last_of (x ∷ xs) ys h = last_of xs ys h.1

  pub arrived_have : (old new : Endpoint) (copies : List RadioCopy) → Collects old new copies
      → Each P (gathered_by old.taker) → Each P copies
  arrived_have old new copies collects h =
      last_of (taken_by old.taker) copies
      (subst (Each P) collects.adds (every_same (taken_by new.taker) (gathered_by old.taker) collects.in_order h))

-- the copies that a worker gathered are for its motes, and come from motes of other workers
module _ (n : NetModel) (owners : List ℕ) (motes : Motes) (v : ℕ) (gathered : List RadioCopy) (matches : GatheredCopies (system_of n) owners motes v gathered) where
  foreign_of : (s : ℕ) → Each (λ (c : RadioCopy). (is_own owners v c.to ≡ true) × (is_own owners v c.sender ≡ false)) (filter (is_from_sender s) gathered)
  foreign_of s = of_case (cases_Bool (is_own owners v s))
    where
      of_case : (is_own owners v s ≡ true) ⊎ (is_own owners v s ≡ false) → Each (λ (c : RadioCopy). (is_own owners v c.to ≡ true) × (is_own owners v c.sender ≡ false)) (filter (is_from_sender s) gathered)
      of_case (inl e) = let t = matches s in let u = rw e at t in subst (Each (λ (c : RadioCopy). (is_own owners v c.to ≡ true) × (is_own owners v c.sender ≡ false))) (sym u) tt
      of_case (inr e) =
          let t = matches s in
          let u = rw e at t in
          every_weaker _ _ (λ c g. (g.0, ap (is_own owners v) (eqb-true c.sender s g.1) ∙ e)) _
          (every_both (λ (c : RadioCopy). is_to owners v c ≡ true) (λ (c : RadioCopy). is_from_sender s c ≡ true) (filter (is_from_sender s) gathered) (subst (Each (λ (c : RadioCopy). is_to owners v c ≡ true)) (sym u) (every_passes (is_to owners v) _)) (every_passes (is_from_sender s) gathered))

  pub foreign : Each (λ (c : RadioCopy). (is_own owners v c.to ≡ true) × (is_own owners v c.sender ≡ false)) gathered
  foreign = every_of_each (λ (c : RadioCopy). (is_own owners v c.to ≡ true) × (is_own owners v c.sender ≡ false)) gathered foreign_of

-- Traces that have the property `HandedOn`, as runs of the machine.
use Rattle.std.proofs.Common.{arith, ◌≡◌, List, [], ◌∷◌, refl, inl, inr}
use Rattle.kernel_laws.specs.HandedOn.{Line, ToOne, ToAll, Start, Leave, Post, Take, Drop, Incarnation, posted_serials, handings, HandedOn}
use Rattle.kernel_laws.specs.Delivery.{DeliveryMachine, initial, starts, leaves, posts, gives_one, begins_walk, walks_on, writes, DeliveryRuns, stays, goes_on}
use Rattle.kernel_laws.specs.DeliveryTraces.{TracesThatDeliver, TracesWithUnseenFaults}
use Rattle.kernel_laws.proofs.Ends.{delivery_hands_on}

some_are_listed : (x : Incarnation) (list : List Incarnation) → x ∷ list ≡ [] → ⊥
some_are_listed x list e = cc

abbrev two_start : (m : DeliveryMachine) × DeliveryRuns initial (Start 5 ∷ Start 6 ∷ []) m
two_start = (_, goes_on _ _ _ _ (goes_on _ _ _ _ stays (starts initial 5 refl)) (starts _ 6 refl))

abbrev walk_begins : (m : DeliveryMachine) × DeliveryRuns initial (Start 5 ∷ Start 6 ∷ Post 0 ToAll ∷ []) m
walk_begins = (_, goes_on _ _ _ _ (goes_on _ _ _ _ two_start.1 (posts _ ToAll)) (begins_walk _ 0 [] refl refl (some_are_listed _ _)))

abbrev first_reached : (m : DeliveryMachine) × DeliveryRuns initial (Start 5 ∷ Start 6 ∷ Post 0 ToAll ∷ Take 0 6 ∷ []) m
first_reached = (_, goes_on _ _ _ _ walk_begins.1 (walks_on _ _ _ refl))

abbrev one_left : (m : DeliveryMachine) × DeliveryRuns initial (Start 5 ∷ Start 6 ∷ Post 0 ToAll ∷ Take 0 6 ∷ Leave 5 ∷ []) m
one_left = (_, goes_on _ _ _ _ first_reached.1 (leaves _ 5))

abbrev next_posted : (m : DeliveryMachine) × DeliveryRuns initial (Start 5 ∷ Post 0 (ToOne 5) ∷ Leave 5 ∷ Post 1 (ToOne 5) ∷ Drop 0 5 ∷ []) m
next_posted = (_, goes_on _ _ _ _ (goes_on _ _ _ _ (goes_on _ _ _ _ (goes_on _ _ _ _ (goes_on _ _ _ _ stays (starts initial 5 refl)) (posts _ (ToOne 5))) (leaves _ 5)) (posts _ (ToOne 5))) (gives_one _ 0 5 _ refl refl))

pub whole : TracesThatDeliver
whole = record {
  broadcast_walk = delivery_hands_on _ (inl (_, goes_on _ _ _ _ (goes_on _ _ _ _ one_left.1 (starts _ 7 refl)) (walks_on _ _ _ refl), refl));
  restarted_within = delivery_hands_on _ (inl (_, goes_on _ _ _ _ (goes_on _ _ _ _ (goes_on _ _ _ _ one_left.1 (starts _ 5 refl)) (walks_on _ _ _ refl)) (writes _), refl));
  halted_within = delivery_hands_on _ (inr (record { before = _; last = _; runs = first_reached.1; ends = refl }));
  halted_before_the_first = delivery_hands_on _ (inr (record { before = _; last = _; runs = walk_begins.1; ends = refl }));
  taken_by_the_next = delivery_hands_on _ (inl (_, goes_on _ _ _ _ (goes_on _ _ _ _ (goes_on _ _ _ _ next_posted.1 (starts _ 5 refl)) (gives_one _ 1 5 [] refl refl)) (posts _ ToAll), refl));
}

-- lines that are about no event have the property
no_events : (t : List Line) → posted_serials t ≡ [] → handings t ≡ [] → HandedOn t
no_events t p h = record {
  posts_count_up = rw p refl;
  never_back = rw h (λ i j d a b. absurd (omega arith));
  after_posts = rw h (λ k d b. absurd (omega arith));
  handed = 0;
  none_above = rw h (λ k d b. absurd (omega arith));
  none_missing = λ s b. absurd (omega arith);
  to_one = λ s q b c. absurd (omega arith);
  to_all = λ s b c. absurd (omega arith);
}

pub pass : TracesWithUnseenFaults
pass = record {
  never_taken = delivery_hands_on _ (inl (_, goes_on _ _ _ _ (goes_on _ _ _ _ (goes_on _ _ _ _ stays (starts initial 5 refl)) (posts _ (ToOne 5))) (writes _), refl));
  list_of_the_post = delivery_hands_on _ (inl (_, goes_on _ _ _ _ (goes_on _ _ _ _ (goes_on _ _ _ _ (goes_on _ _ _ _ (goes_on _ _ _ _ (goes_on _ _ _ _ stays (starts initial 5 refl)) (posts _ ToAll)) (begins_walk _ 0 [] refl refl (some_are_listed _ _))) (starts _ 6 refl)) (writes _)) (walks_on _ _ _ refl), refl));
  starts_twice = no_events _ refl refl;
  goes_on_after_a_halt = no_events _ refl refl;
}

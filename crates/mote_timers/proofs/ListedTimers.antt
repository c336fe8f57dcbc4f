-- The properties that every timer list has, and that each call preserves.
use Rattle.std.proofs.Common.{◌≡◌, ◌≢◌, ℕ, ◌≤◌, ◌^◌, ◌==◌, Bool, true, not, List, [], ◌∷◌, set, ◌∙◌}
use Rattle.std.specs.List.{AllByRecursion, filter}
use Rattle.std.specs.Option.{IsSome}
use Rattle.std.proofs.lemmas.Bool.{cond_both, eqb-true, eqb-false, not-true}
use Rattle.std.proofs.lemmas.List.{get_or-set_other, length-set}
use Rattle.std.proofs.lemmas.List.Elements.{All-contains, All-set, All-filter, All-from_recursion, recursion_from_All}
use Rattle.std.proofs.lemmas.Map.Views.{Contains-from_any}
use Rattle.mote_timers.specs.declared.timer.Timer.{Timer}
use Rattle.mote_timers.specs.Numbers.{Numbers, numbers, is_member, without_member}
use Rattle.mote_timers.specs.TimerLists.{TimerLists, timer_at}
use Rattle.mote_timers.specs.DueTimers.{AreTimers}

-- a timer on the list has an owner
pub owner_there : (ts : List Timer) (listed : Numbers) (id : ℕ) → AreTimers ts listed → is_member id listed.members ≡ true → IsSome (timer_at ts id).owner
owner_there ts listed id are there = All-contains (λ k. IsSome (timer_at ts k).owner) listed.members id are.owned (Contains-from_any eqb-true id listed.members there)

owned_without : (ts : List Timer) (id : ℕ) (t : Timer) (ks : List ℕ) → AllByRecursion (λ k. IsSome (timer_at ts k).owner) ks → AllByRecursion (λ k. IsSome (timer_at (set ts id t) k).owner) (without_member id ks)
owned_without ts id t [] h = tt
owned_without ts id t (k ∷ ks) h =
    cond_both (not (k == id)) (k ∷ without_member id ks) (without_member id ks) (AllByRecursion (λ j. IsSome (timer_at (set ts id t) j).owner))
    (λ other. let apart : k ≢ id = eqb-false k id (not-true (k == id) other) in (rw (get_or-set_other ts id k t _ apart) h.0, owned_without ts id t ks h.1))
    (λ _. owned_without ts id t ks h.1)

-- a timer is taken off the list, and may lose its owner
pub AreTimers-without : (ts : List Timer) (listed : Numbers) (id : ℕ) (t : Timer) → AreTimers ts listed → t.start ≤ 2 ^ 62 → AreTimers (set ts id t) (numbers (without_member id listed.members) listed.limit)
AreTimers-without ts listed id t are bounded = record {
  room = length-set ts id t ∙ are.room;
  owned = All-from_recursion (λ k. IsSome (timer_at (set ts id t) k).owner) _ (owned_without ts id t listed.members (recursion_from_All (λ k. IsSome (timer_at ts k).owner) _ are.owned));
  bounded = All-set (λ (u : Timer). u.start ≤ 2 ^ 62) ts id t bounded are.bounded;
}

-- some timers are taken off the list
pub AreTimers-filtered : (ts : List Timer) (listed : Numbers) (p : ℕ → Bool) → AreTimers ts listed → AreTimers ts (numbers (filter p listed.members) listed.limit)
AreTimers-filtered ts listed p are = record {
  room = are.room;
  owned = All-filter p (λ id. IsSome (timer_at ts id).owner) listed.members are.owned;
  bounded = are.bounded;
}

abbrev pub lists : List Timer → List ℕ → TimerLists
lists ts ids = record { timers = ts; listed = ids }

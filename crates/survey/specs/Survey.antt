-- What a survey says, whether it came to its end or stopped before.
use Rattle.std.specs.Prelude.{◌≡◌, ℕ, ◌+◌, ◌≤◌, ◌⊎◌, List, length}
use Rattle.survey.specs.Breaks.{breaks_of, AreSmallerSettled, IsSound, IsMinimal, IsListedOnce}
use Rattle.survey.specs.Order.{next_keys}
use Rattle.survey.specs.Premise.{Runs}
use Rattle.survey.specs.Turns.{AreTried, StopAt, AreListedIn}
use Rattle.survey.specs.declared.broken.Survey.{Survey}
use Rattle.survey.specs.declared.search.Limits.{Limits}

-- all sets that are worth a run were tried; or as many as allowed, and one of the next size is worth a run too
abbrev pub AreCovered : Runs → Limits → Survey → (tried : List (List ℕ)) → Type 0
AreCovered runs limits s tried =
    ((s.sizes ≡ limits.faults + 1)
    × AreTried (next_keys runs.offers) runs.claims (breaks_of s.broken.items) s.sizes tried)
    ⊎ ((s.sizes ≤ limits.faults) × (s.trials ≡ limits.trials)
    × StopAt (next_keys runs.offers) runs.claims (breaks_of s.broken.items) s.sizes tried)

-- this is a survey, within the limits, of ALL sets of keys below the bound, whether a run offers them or not
pub record IsSurvey (runs : Runs) (limits : Limits) (s : Survey) : Type 0 where
  -- with each set of fewer than `sizes` faults each claim holds, or a listed set within it breaks the claim
  pub complete : AreSmallerSettled runs.bound s.sizes runs.holds runs.claims (breaks_of s.broken.items)
  -- each listed set breaks its claim, and has no more faults than allowed
  pub sound : IsSound runs.bound limits.faults runs.holds runs.claims (breaks_of s.broken.items)
  -- no smaller set within a listed set breaks its claim
  pub minimal : IsMinimal runs.bound runs.holds (breaks_of s.broken.items)
  -- no break is listed twice
  pub once : IsListedOnce (breaks_of s.broken.items)
  -- the sets that were tried: as many as runs are reported, and the breaks stand in their order
  pub tried : List (List ℕ)
  pub covered : AreCovered runs limits s tried
  pub count : s.trials ≡ length tried
  pub order : AreListedIn tried (breaks_of s.broken.items)
  -- no more runs than allowed are reported
  pub limit : s.trials ≤ limits.trials

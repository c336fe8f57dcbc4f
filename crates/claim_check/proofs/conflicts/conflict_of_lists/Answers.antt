use Rattle.std.proofs.Common.{◌∙◌, ◌||◌, ap₂}
use Rattle.std.proofs.Math.Bool.{or-false}
use Rattle.claim_check.proofs.conflicts.conflict_of_lists.Goals as goal

pub returns : goal.returns
returns c = record {
  value =
      let starts = c.first_of-starts.ensures.value ∙ (or-false _ ∙ c.lacks_list.ensures.value) in
      let restarts = c.first_of-restarts.ensures.value ∙ ap₂ (λ a b. a || b) c.lacks_list-2.ensures.value starts in
      let off = c.first_of-off.ensures.value ∙ ap₂ (λ a b. a || b) c.lacks_list-3.ensures.value restarts in
      c.first_of.ensures.value ∙ ap₂ (λ a b. a || b) c.lacks_list-4.ensures.value off;
}

use Rattle.std.proofs.Common.{◌∙◌, ◌||◌, ap₂}
use Rattle.std.proofs.Math.Bool.{or-false}
use Rattle.claim_check.proofs.conflicts.conflict_of_files.Goals as goal

pub returns : goal.returns
returns c = record {
  value = c.first_of.ensures.value ∙ ap₂ (λ a b. a || b) c.lacks_claims.ensures.value
      (c.first_of-file.ensures.value ∙ (or-false _ ∙ c.is_mixed_with_file.ensures.value));
}

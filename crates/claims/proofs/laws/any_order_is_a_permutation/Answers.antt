use Rattle.claims.proofs.PermutationLaws.{any_order_permutes, permutes_any_order}
use Rattle.claims.proofs.laws.any_order_is_a_permutation.Goals as goal

pub returns-clause-permuted : goal.returns-clause-permuted
returns-clause-permuted c = any_order_permutes

pub returns-clause-any_order : goal.returns-clause-any_order
returns-clause-any_order c = permutes_any_order

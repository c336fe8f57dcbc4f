use Rattle.net_scenario.proofs.OneAnswer.{one_fault}
use Rattle.net_scenario.proofs.laws.at_most_one_fault.Goals as goal

pub returns : goal.returns
returns c = record {
  one_fault =
      one_fault (record {
        one_tree = c.at_most_one_tree.ensures.at_most_one;
        one_fault = c.at_most_one_fault.ensures.at_most_one;
        never_both = λ text t k m h i. (c.tree_or_fault.ensures.has_tree_or_fault text).apart t k m h i;
      });
}

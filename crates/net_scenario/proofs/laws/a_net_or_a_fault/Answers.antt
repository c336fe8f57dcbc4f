use Rattle.net_scenario.proofs.EachText.{net_or_fault}
use Rattle.net_scenario.proofs.laws.a_net_or_a_fault.Goals as goal

pub returns : goal.returns
returns c = record { net_or_fault = net_or_fault c.tree_or_fault.ensures.has_tree_or_fault }

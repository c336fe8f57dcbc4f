use Rattle.std.proofs.Common.{◌+◌, ◌≤◌, true, take, length}
use Rattle.survey.specs.Search.{children_of, FitNodes, Looks}
use Rattle.survey.proofs.search.take_size.Given as goal

abbrev pub invariant-loop-node : goal.invariant-loop-node
invariant-loop-node g l =
    let runs = g.T.Trial.runs l.trial in
    record {
      looks : Looks runs l.limits (FitNodes runs l.goes_on l.nodes) (children_of runs.offers (take l.node-index l.nodes)) l.fn.level true l.level;
      limit : l.level.trials + length l.level.waiting.items ≤ l.limits.trials;
    }

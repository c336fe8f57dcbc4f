use Rattle.std.proofs.Common.{◌+◌, ◌≤◌, ◌++◌, ◌∷◌, [], true, take, map, length}
use Rattle.survey.specs.Search.{FitNodes, Looks}
use Rattle.survey.proofs.search.take_children.Given as goal

abbrev pub invariant-loop-place : goal.invariant-loop-place
invariant-loop-place g l =
    let runs = g.T.Trial.runs l.trial in
    record {
      looks : Looks runs l.limits (FitNodes runs l.goes_on (l.node ∷ [])) (map (λ k. l.node.set.items ++ k ∷ []) (take l.place l.node.next.items)) l.fn.level true l.level;
      limit : l.level.trials + length l.level.waiting.items ≤ l.limits.trials;
    }

use Rattle.std.proofs.Common.{◌≡◌, ◌+◌, ◌<◌, ◌++◌, ◌∷◌, [], Bool, true, false, length, take, drop, ap, sym, subst, arith}
use Rattle.std.proofs.lemmas.List.{take_all}
use Rattle.survey.specs.Order.{next_keys}
use Rattle.survey.specs.Turns.{children}
use Rattle.survey.specs.Search.{children_of, Course, FitNodes, Looks}
use Rattle.survey.proofs.Course.{looks_more, looks_none, looks_same, looks_stop, node_fits, nodes_more, nodes_split}
use Rattle.survey.proofs.search.take_size.Goals as goal

pub loop-node-init : goal.loop-node-init
loop-node-init g c = record {
  looks = looks_none (g.T.Trial.runs c.args.trial.now) c.args.limits (FitNodes (g.T.Trial.runs c.args.trial.now) c.args.goes_on c.args.nodes.now) c.args.level.now;
  limit = c.requires.in_course.4;
}

pub take_children-requires-clause-in_course : goal.take_children-requires-clause-in_course
take_children-requires-clause-in_course g c =
    let runs = g.T.Trial.runs c.args.trial.now in
    let q = c.requires.in_course in
    let a = c.loop-node.invariant.looks q.0 q.1 q.2 q.3 in
    (q.0, q.1 ++ a.0, a.1, node_fits runs c.args.goes_on c.args.nodes.now c.loop-node.node-index c.node-item.result (omega arith) c.node-item.is q.0 q.3, c.loop-node.invariant.limit)

pub returns-then-not-branch-clause-looks : goal.returns-then-not-branch-clause-looks
returns-then-not-branch-clause-looks g c =
    let runs = g.T.Trial.runs c.args.trial.now in
    let nodes = c.args.nodes.now in
    let i = c.loop-node.node-index in
    let node = c.node-item.result in
    let lt : i < length nodes = omega arith in
    let Fits : Course → Type 0 = FitNodes runs c.args.goes_on nodes in
    let Fit : Course → Type 0 = FitNodes runs c.args.goes_on (node ∷ []) in
    let L : Bool → Type 0 = λ b. Looks runs c.args.limits Fit (children (next_keys runs.offers) node.set.items) c.loop-node.level b c.take_children.new.level in
    let stopped : L false = subst L c.if-not-branch.true c.in_ok-take_children.ensures.looks in
    let xs = children_of runs.offers (take i nodes) in
    let ys = children (next_keys runs.offers) node.set.items in
    let zs = children_of runs.offers (drop (i + 1) nodes) in
    looks_same runs c.args.limits Fits ((xs ++ ys) ++ zs) (children_of runs.offers nodes) c.args.level.now c.take_children.new.level false
    (λ course fits. sym (nodes_split runs.offers nodes i node lt c.node-item.is))
    (looks_stop runs c.args.limits Fits Fit xs ys zs c.args.level.now c.loop-node.level c.take_children.new.level
    (node_fits runs c.args.goes_on nodes i node lt c.node-item.is) c.loop-node.invariant.looks stopped)

pub loop-node-preserved : goal.loop-node-preserved
loop-node-preserved g c =
    let runs = g.T.Trial.runs c.args.trial.now in
    let nodes = c.args.nodes.now in
    let i = c.loop-node.node-index in
    let node = c.node-item.result in
    let lt : i < length nodes = omega arith in
    let Fits : Course → Type 0 = FitNodes runs c.args.goes_on nodes in
    let Fit : Course → Type 0 = FitNodes runs c.args.goes_on (node ∷ []) in
    let L : Bool → Type 0 = λ b. Looks runs c.args.limits Fit (children (next_keys runs.offers) node.set.items) c.loop-node.level b c.take_children.new.level in
    let taken : L true = subst L c.if-not-branch.false c.in_ok-take_children.ensures.looks in
    let xs = children_of runs.offers (take i nodes) in
    let ys = children (next_keys runs.offers) node.set.items in
    record {
      looks = looks_same runs c.args.limits Fits (xs ++ ys) (children_of runs.offers (take (i + 1) nodes)) c.args.level.now c.take_children.new.level true
          (λ course fits. sym (nodes_more runs.offers nodes i node lt c.node-item.is))
          (looks_more runs c.args.limits Fits Fit xs ys c.args.level.now c.loop-node.level c.take_children.new.level
          (node_fits runs c.args.goes_on nodes i node lt c.node-item.is) c.loop-node.invariant.looks taken);
      limit = c.in_ok-take_children.ensures.limit;
    }

pub returns-clause-looks : goal.returns-clause-looks
returns-clause-looks g c =
    let runs = g.T.Trial.runs c.args.trial.now in
    let nodes = c.args.nodes.now in
    let whole : take c.loop-node.node-index nodes ≡ nodes = take_all c.loop-node.node-index nodes (omega arith) in
    looks_same runs c.args.limits (FitNodes runs c.args.goes_on nodes) (children_of runs.offers (take c.loop-node.node-index nodes)) (children_of runs.offers nodes) c.args.level.now c.loop-node.level true
    (λ course fits. ap (children_of runs.offers) whole) c.loop-node.invariant.looks

use Rattle.std.proofs.Common.{rules, ◌≡◌, ◌∙◌, ◌+◌, ◌<◌, ◌++◌, ◌∷◌, [], Bool, true, false, length, map, take, drop, ap, sym, subst, arith, vec_len}
use Rattle.std.proofs.lemmas.List.{take_all}
use Rattle.survey.specs.Order.{next_keys}
use Rattle.survey.specs.Turns.{children}
use Rattle.survey.specs.Search.{Course, FitNodes, FitsTask, Looks}
use Rattle.survey.proofs.Course.{child_fits, children_more, children_split, looks_more, looks_none, looks_same, looks_stop, node_children}
use Rattle.survey.proofs.search.take_children.Goals as goal

pub loop-place-init : goal.loop-place-init
loop-place-init g c = record {
  looks = looks_none (g.T.Trial.runs c.args.trial.now) c.args.limits (FitNodes (g.T.Trial.runs c.args.trial.now) c.args.goes_on (c.args.node.now ∷ [])) c.args.level.now;
  limit = c.requires.in_course.4;
}

pub take_task-requires-clause-in_course : goal.take_task-requires-clause-in_course
take_task-requires-clause-in_course g c =
    let t = c.args.trial.now in
    let runs = g.T.Trial.runs t in
    let q = c.requires.in_course in
    let node = c.args.node.now in
    let place = c.loop-place.place in
    let e = c.in_ok-task.ensures in
    let own : vec_len node.next ≡ length node.next.items = search rules in
    let lt : place < length node.next.items = omega (arith, own, c.len-place-end.ensures, c.loop-place-test.true) in
    let a = c.loop-place.invariant.looks q.0 q.1 q.2 q.3 in
    (q.0, q.1 ++ a.0, a.1, child_fits runs (g.met.T.Trial.offers_all t) q.0 c.args.goes_on node place c.in_ok-task.task q.3 lt e.set e.asleep e.goes_on, c.loop-place.invariant.limit)

pub returns-then-not-branch-clause-looks : goal.returns-then-not-branch-clause-looks
returns-then-not-branch-clause-looks g c =
    let t = c.args.trial.now in
    let runs = g.T.Trial.runs t in
    let node = c.args.node.now in
    let F = node.set.items in
    let next = node.next.items in
    let place = c.loop-place.place in
    let task = c.in_ok-task.task in
    let e = c.in_ok-task.ensures in
    let own : vec_len node.next ≡ length next = search rules in
    let lt : place < length next = omega (arith, own, c.len-place-end.ensures, c.loop-place-test.true) in
    let Fits : Course → Type 0 = FitNodes runs c.args.goes_on (node ∷ []) in
    let turn : (course : Course) → Fits course → FitsTask runs task course = λ course fits.
    child_fits runs (g.met.T.Trial.offers_all t) course c.args.goes_on node place task fits lt e.set e.asleep e.goes_on in
    let L : Bool → Type 0 = λ b. Looks runs c.args.limits (FitsTask runs task) (task.set.items ∷ []) c.loop-place.level b c.take_task.new.level in
    let stopped : L false = subst L c.if-not-branch.true c.in_ok-take_task.ensures.looks in
    let xs = map (λ k. F ++ k ∷ []) (take place next) in
    let zs = map (λ k. F ++ k ∷ []) (drop (place + 1) next) in
    looks_same runs c.args.limits Fits ((xs ++ task.set.items ∷ []) ++ zs) (children (next_keys runs.offers) F) c.args.level.now c.take_task.new.level false
    (λ course fits. ap (λ s. (xs ++ s ∷ []) ++ zs) e.set ∙ (sym (children_split F next place lt) ∙ node_children runs c.args.goes_on node course fits))
    (looks_stop runs c.args.limits Fits (FitsTask runs task) xs (task.set.items ∷ []) zs c.args.level.now c.loop-place.level c.take_task.new.level turn c.loop-place.invariant.looks stopped)

pub loop-place-preserved : goal.loop-place-preserved
loop-place-preserved g c =
    let t = c.args.trial.now in
    let runs = g.T.Trial.runs t in
    let node = c.args.node.now in
    let F = node.set.items in
    let next = node.next.items in
    let place = c.loop-place.place in
    let task = c.in_ok-task.task in
    let e = c.in_ok-task.ensures in
    let own : vec_len node.next ≡ length next = search rules in
    let lt : place < length next = omega (arith, own, c.len-place-end.ensures, c.loop-place-test.true) in
    let Fits : Course → Type 0 = FitNodes runs c.args.goes_on (node ∷ []) in
    let turn : (course : Course) → Fits course → FitsTask runs task course = λ course fits.
    child_fits runs (g.met.T.Trial.offers_all t) course c.args.goes_on node place task fits lt e.set e.asleep e.goes_on in
    let L : Bool → Type 0 = λ b. Looks runs c.args.limits (FitsTask runs task) (task.set.items ∷ []) c.loop-place.level b c.take_task.new.level in
    let taken : L true = subst L c.if-not-branch.false c.in_ok-take_task.ensures.looks in
    let xs = map (λ k. F ++ k ∷ []) (take place next) in
    record {
      looks = looks_same runs c.args.limits Fits (xs ++ task.set.items ∷ []) (map (λ k. F ++ k ∷ []) (take (place + 1) next)) c.args.level.now c.take_task.new.level true
          (λ course fits. ap (λ s. xs ++ s ∷ []) e.set ∙ sym (children_more F next place lt))
          (looks_more runs c.args.limits Fits (FitsTask runs task) xs (task.set.items ∷ []) c.args.level.now c.loop-place.level c.take_task.new.level turn c.loop-place.invariant.looks taken);
      limit = c.in_ok-take_task.ensures.limit;
    }

pub returns-clause-looks : goal.returns-clause-looks
returns-clause-looks g c =
    let runs = g.T.Trial.runs c.args.trial.now in
    let node = c.args.node.now in
    let F = node.set.items in
    let next = node.next.items in
    let own : vec_len node.next ≡ length next = search rules in
    let whole : take c.loop-place.place next ≡ next = take_all c.loop-place.place next (omega (arith, own, c.len-place-end.ensures, c.loop-place-test.false)) in
    let Fits : Course → Type 0 = FitNodes runs c.args.goes_on (node ∷ []) in
    looks_same runs c.args.limits Fits (map (λ k. F ++ k ∷ []) (take c.loop-place.place next)) (children (next_keys runs.offers) F) c.args.level.now c.loop-place.level true
    (λ course fits. ap (map (λ k. F ++ k ∷ [])) whole ∙ node_children runs c.args.goes_on node course fits) c.loop-place.invariant.looks

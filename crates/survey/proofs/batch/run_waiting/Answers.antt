use Rattle.std.proofs.Common.{rules, ◌≡◌, ◌∙◌, ℕ, ◌+◌, ◌<◌, ◌≤◌, ◌++◌, ◌∷◌, [], List, take, length, get_or, ap, append_assoc, refl, sym, subst, arith, vec_len}
use Rattle.std.specs.List.{All}
use Rattle.std.proofs.lemmas.List.{length-map}
use Rattle.survey.specs.FaultSet.{IsSet}
use Rattle.survey.specs.Search.{AreOutcomes, IsAt, IsKept, IsOutcome, IsTask, sets_of}
use Rattle.survey.specs.Breaks.{breaks_of}
use Rattle.survey.specs.declared.level.Level.{Level}
use Rattle.survey.specs.declared.task.Task.{Task}
use Rattle.survey.proofs.Outcomes.{outcome_at, zip_length}
use Rattle.survey.proofs.Course.{at_more, sets_more, smaller_here, none_waits, task_at}
use Rattle.survey.proofs.batch.run_waiting.Goals as goal

pub run_tasks-requires-clause-sets : goal.run_tasks-requires-clause-sets
run_tasks-requires-clause-sets g c =
    let runs = g.T.Trial.runs c.args.trial.now in
    let q = c.requires.in_course in
    let P : List Task → Type 0 = λ t. All (λ (x : Task). IsSet runs.bound x.set.items) t in
    subst P (sym c.deref.ensures.value) (λ k d lt. let one : IsTask runs q.0.size q.0.goes_on (get_or c.args.level.now.waiting.items k d) = q.2.3 k d lt in one.set)

pub index-requires-in-loop-place : goal.index-requires-in-loop-place
index-requires-in-loop-place g c =
    let runs = g.T.Trial.runs c.args.trial.now in
    let count : vec_len c.in_ok-outcomes.outcomes ≡ length c.in_ok-outcomes.outcomes.items = search rules in
    let own : vec_len c.args.level.now.waiting ≡ length c.args.level.now.waiting.items = search rules in
    let P : List Task → Type 0 = λ t. AreOutcomes runs t c.in_ok-outcomes.outcomes.items in
    let are = subst P c.deref.ensures.value c.in_ok-outcomes.ensures.outcomes in
    omega (arith, zip_length (IsOutcome runs) c.args.level.now.waiting.items c.in_ok-outcomes.outcomes.items are, count, own, c.len-place-end.ensures, c.loop-place-test.true)

pub end_task-requires-clause-set : goal.end_task-requires-clause-set
end_task-requires-clause-set g c =
    let runs = g.T.Trial.runs c.args.trial.now in
    let q = c.requires.in_course in
    let tasks = c.args.level.now.waiting.items in
    let own : vec_len c.args.level.now.waiting ≡ length tasks = search rules in
    let lt : c.loop-place.place < length tasks = omega (arith, own, c.len-place-end.ensures, c.loop-place-test.true) in
    (task_at runs q.0 tasks c.loop-place.level.waiting.items c.loop-place.place c.index.result.now q.2.3 c.loop-place.invariant.waiting lt c.index.ensures).0.set

pub end_task-requires-clause-outcome : goal.end_task-requires-clause-outcome
end_task-requires-clause-outcome g c =
    let runs = g.T.Trial.runs c.args.trial.now in
    let q = c.requires.in_course in
    let tasks = c.args.level.now.waiting.items in
    let task = c.index.result.now in
    let own : vec_len c.args.level.now.waiting ≡ length tasks = search rules in
    let lt : c.loop-place.place < length tasks = omega (arith, own, c.len-place-end.ensures, c.loop-place-test.true) in
    let at = task_at runs q.0 tasks c.loop-place.level.waiting.items c.loop-place.place task q.2.3 c.loop-place.invariant.waiting lt c.index.ensures in
    let P : List Task → Type 0 = λ t. AreOutcomes runs t c.in_ok-outcomes.outcomes.items in
    let are = subst P c.deref.ensures.value c.in_ok-outcomes.ensures.outcomes in
    outcome_at runs tasks c.in_ok-outcomes.outcomes.items c.loop-place.place task c.index-in-loop-place.result.now are lt at.1 c.index-in-loop-place.ensures

pub end_task-requires-clause-kept : goal.end_task-requires-clause-kept
end_task-requires-clause-kept g c =
    let runs = g.T.Trial.runs c.args.trial.now in
    let q = c.requires.in_course in
    let inv = c.loop-place.invariant in
    let tasks = c.args.level.now.waiting.items in
    let own : vec_len c.args.level.now.waiting ≡ length tasks = search rules in
    let lt : c.loop-place.place < length tasks = omega (arith, own, c.len-place-end.ensures, c.loop-place-test.true) in
    let at = task_at runs q.0 tasks c.loop-place.level.waiting.items c.loop-place.place c.index.result.now q.2.3 inv.waiting lt c.index.ensures in
    let K : ℕ → Type 0 = λ k. IsKept runs.bound k runs.holds runs.claims (breaks_of c.loop-place.level.found.items) in
    subst K (sym at.0.of_size) (inv.at q.0 q.2.0 q.2.1 q.2.3).kept

pub end_task-requires-clause-smaller : goal.end_task-requires-clause-smaller
end_task-requires-clause-smaller g c =
    let runs = g.T.Trial.runs c.args.trial.now in
    let q = c.requires.in_course in
    let inv = c.loop-place.invariant in
    let tasks = c.args.level.now.waiting.items in
    let task = c.index.result.now in
    let own : vec_len c.args.level.now.waiting ≡ length tasks = search rules in
    let lt : c.loop-place.place < length tasks = omega (arith, own, c.len-place-end.ensures, c.loop-place-test.true) in
    let at = task_at runs q.0 tasks c.loop-place.level.waiting.items c.loop-place.place task q.2.3 inv.waiting lt c.index.ensures in
    smaller_here runs q.0 (q.2.0 ++ take c.loop-place.place (sets_of tasks)) c.loop-place.level task.set.items (inv.at q.0 q.2.0 q.2.1 q.2.3) at.0.of_size

pub loop-place-preserved : goal.loop-place-preserved
loop-place-preserved g c =
    let runs = g.T.Trial.runs c.args.trial.now in
    let inv = c.loop-place.invariant in
    let tasks = c.args.level.now.waiting.items in
    let task = c.index.result.now in
    let place = c.loop-place.place in
    let e = c.in_ok-end_task.ensures in
    let own : vec_len c.args.level.now.waiting ≡ length tasks = search rules in
    let lt : place < length tasks = omega (arith, own, c.len-place-end.ensures, c.loop-place-test.true) in
    let level : Level = record { found = c.end_task.new.found; trials = c.loop-place.level.trials + 1; nodes = c.end_task.new.nodes; waiting = c.loop-place.level.waiting } in
    record {
      waiting = inv.waiting;
      trials = omega (arith, inv.trials);
      at = λ course done is all.
          let at = task_at runs course tasks c.loop-place.level.waiting.items place task all inv.waiting lt c.index.ensures in
          let before = done ++ take place (sets_of tasks) in
          let one = at_more runs course before c.loop-place.level level task (inv.at course done is all) at.0 e.kept e.lists e.settled e.node refl in
          let P : List (List ℕ) → Type 0 = λ t. IsAt runs course t level in
          subst P (append_assoc done (take place (sets_of tasks)) (task.set.items ∷ []) ∙ ap (λ t. done ++ t) (sym (sets_more tasks place task lt at.1))) one;
    }

pub returns-clause-tried : goal.returns-clause-tried
returns-clause-tried g c course tried has =
    let runs = g.T.Trial.runs c.args.trial.now in
    let tasks = c.args.level.now.waiting.items in
    let own : vec_len c.args.level.now.waiting ≡ length tasks = search rules in
    let level : Level = record { found = c.loop-place.level.found; trials = c.loop-place.level.trials; nodes = c.loop-place.level.nodes; waiting = c.clear.new.self } in
    let all : length (sets_of tasks) ≤ c.loop-place.place = omega (arith, own, c.len-place-end.ensures, c.loop-place-test.false, length-map tasks (λ (t : Task). t.set.items)) in
    none_waits runs course tried has.0 c.args.level.now c.loop-place.level level c.loop-place.place (c.loop-place.invariant.at course has.0 has.1 has.3) all has.2 refl refl refl c.clear.ensures.items

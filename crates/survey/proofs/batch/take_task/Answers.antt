use Rattle.std.proofs.Common.{rules, ◌≡◌, ℕ, ◌+◌, ◌++◌, ◌∷◌, [], List, length, refl, subst, arith, vec_len}
use Rattle.survey.specs.Breaks.{breaks_of}
use Rattle.survey.specs.Turns.{IsPruned, IsWorthRun}
use Rattle.survey.specs.declared.broken.Broken.{Broken}
use Rattle.survey.specs.declared.level.Level.{Level}
use Rattle.survey.proofs.Course.{waits_more, looks_pruned, looks_full, looks_taken}
use Rattle.survey.proofs.batch.take_task.Goals as goal

pub returns-then-is_pruned-clause-looks : goal.returns-then-is_pruned-clause-looks
returns-then-is_pruned-clause-looks g c course tried has fits =
    let runs = g.T.Trial.runs c.args.trial.now in
    let level = c.args.level.now in
    let task = c.args.task in
    let P : List Broken → List ℕ → ℕ → Type 0 = λ f s m. IsPruned m (breaks_of f) s in
    let A : List Broken → Type 0 = λ f. P f c.deref-2.result.now c.claims.result in
    let B : List ℕ → Type 0 = λ s. P level.found.items s c.claims.result in
    let C : ℕ → Type 0 = λ m. P level.found.items task.set.items m in
    let pruned : IsPruned runs.claims (breaks_of level.found.items) task.set.items =
    subst C c.claims.ensures.value (subst B c.deref-2.ensures.value (subst A c.deref.ensures.value c.if-is_pruned.ensures.is_pruned)) in
    looks_pruned runs c.args.limits course tried level task has fits pruned

pub returns-then-level-len-clause-looks : goal.returns-then-level-len-clause-looks
returns-then-level-len-clause-looks g c course tried has fits =
    let runs = g.T.Trial.runs c.args.trial.now in
    let level = c.args.level.now in
    let task = c.args.task in
    let P : List Broken → List ℕ → ℕ → Type 0 = λ f s m. IsWorthRun m (breaks_of f) s in
    let A : List Broken → Type 0 = λ f. P f c.deref-2.result.now c.claims.result in
    let B : List ℕ → Type 0 = λ s. P level.found.items s c.claims.result in
    let C : ℕ → Type 0 = λ m. P level.found.items task.set.items m in
    let worth : IsWorthRun runs.claims (breaks_of level.found.items) task.set.items =
    subst C c.claims.ensures.value (subst B c.deref-2.ensures.value (subst A c.deref.ensures.value c.if-is_pruned.ensures.is_pruned)) in
    let own : vec_len level.waiting ≡ length level.waiting.items = search rules in
    let full : level.trials + length level.waiting.items ≡ c.args.limits.trials = omega (arith, own, c.requires.in_course.4, c.if-level-len.true, c.len.ensures) in
    looks_full runs c.args.limits course tried level task has fits worth full

pub run_waiting-requires-clause-in_course : goal.run_waiting-requires-clause-in_course
run_waiting-requires-clause-in_course g c =
    let runs = g.T.Trial.runs c.args.trial.now in
    let q = c.requires.in_course in
    let old = c.args.level.now in
    let next : Level = record { found = old.found; trials = old.trials; nodes = old.nodes; waiting = c.push.new.self } in
    (q.0, q.1 ++ c.args.task.set.items ∷ [], waits_more runs q.0 q.1 old next c.args.task refl refl refl c.in_ok-push.ensures.items q.3 q.2)

pub returns-in_ok-run_waiting-clause-looks : goal.returns-in_ok-run_waiting-clause-looks
returns-in_ok-run_waiting-clause-looks g c course tried has fits =
    let runs = g.T.Trial.runs c.args.trial.now in
    let old = c.args.level.now in
    let task = c.args.task in
    let next : Level = record { found = old.found; trials = old.trials; nodes = old.nodes; waiting = c.push.new.self } in
    let P : List Broken → List ℕ → ℕ → Type 0 = λ f s m. IsWorthRun m (breaks_of f) s in
    let A : List Broken → Type 0 = λ f. P f c.deref-2.result.now c.claims.result in
    let B : List ℕ → Type 0 = λ s. P old.found.items s c.claims.result in
    let C : ℕ → Type 0 = λ m. P old.found.items task.set.items m in
    let worth : IsWorthRun runs.claims (breaks_of old.found.items) task.set.items =
    subst C c.claims.ensures.value (subst B c.deref-2.ensures.value (subst A c.deref.ensures.value c.if-is_pruned.ensures.is_pruned)) in
    let waits = waits_more runs course tried old next task refl refl refl c.in_ok-push.ensures.items fits has in
    looks_taken runs c.args.limits course tried old c.run_waiting.new.level task has fits worth (c.in_ok-run_waiting.ensures.tried course (tried ++ task.set.items ∷ []) waits)

pub returns-else-len-from-clause-looks : goal.returns-else-len-from-clause-looks
returns-else-len-from-clause-looks g c course tried has fits =
    let runs = g.T.Trial.runs c.args.trial.now in
    let old = c.args.level.now in
    let task = c.args.task in
    let next : Level = record { found = old.found; trials = old.trials; nodes = old.nodes; waiting = c.push.new.self } in
    let P : List Broken → List ℕ → ℕ → Type 0 = λ f s m. IsWorthRun m (breaks_of f) s in
    let A : List Broken → Type 0 = λ f. P f c.deref-2.result.now c.claims.result in
    let B : List ℕ → Type 0 = λ s. P old.found.items s c.claims.result in
    let C : ℕ → Type 0 = λ m. P old.found.items task.set.items m in
    let worth : IsWorthRun runs.claims (breaks_of old.found.items) task.set.items =
    subst C c.claims.ensures.value (subst B c.deref-2.ensures.value (subst A c.deref.ensures.value c.if-is_pruned.ensures.is_pruned)) in
    let waits = waits_more runs course tried old next task refl refl refl c.in_ok-push.ensures.items fits has in
    looks_taken runs c.args.limits course tried old next task has fits worth waits

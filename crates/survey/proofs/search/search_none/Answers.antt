use Rattle.std.proofs.Common.{◌≡◌, ℕ, ◌+◌, [], ◌∷◌, List, length, ltb, ap, refl, sym, subst, arith}
use Rattle.std.specs.Bool.{MatchBool}
use Rattle.std.proofs.lemmas.Bool.{lt-ltb}
use Rattle.survey.specs.Breaks.{breaks_of}
use Rattle.survey.specs.Search.{FitsTask, Looks}
use Rattle.survey.specs.Turns.{Picks, StopsIn}
use Rattle.survey.specs.declared.task.Task.{Task}
use Rattle.survey.proofs.Between.{begin, course_of, end_size, first_between, first_task}
use Rattle.survey.proofs.search.search_none.Goals as goal

pub take_task-requires-clause-in_course : goal.take_task-requires-clause-in_course
take_task-requires-clause-in_course g c =
    let runs = g.T.Trial.runs c.args.trial.now in
    let old = c.args.level.now in
    let first = c.requires.first in
    let b = first_between runs old first in
    let goes_on = ltb 0 c.args.limits.faults in
    let task : Task = record { set = c.new.result; asleep = c.new-2.result; goes_on = goes_on } in (
      course_of runs 0 ([] ∷ []) goes_on old b,
      [],
      begin runs 0 ([] ∷ []) goes_on old old b refl refl refl first.nodes,
      first_task runs old b goes_on task c.new.ensures.items c.new-2.ensures.items refl,
      omega (arith, first.trials, ap length first.waiting),
    )

pub run_waiting-requires-clause-in_course : goal.run_waiting-requires-clause-in_course
run_waiting-requires-clause-in_course g c =
    let runs = g.T.Trial.runs c.args.trial.now in
    let old = c.args.level.now in
    let first = c.requires.first in
    let b = first_between runs old first in
    let goes_on = ltb 0 c.args.limits.faults in
    let task : Task = record { set = c.new.result; asleep = c.new-2.result; goes_on = goes_on } in
    let course = course_of runs 0 ([] ∷ []) goes_on old b in
    let a = c.in_ok-more.ensures.looks course [] (begin runs 0 ([] ∷ []) goes_on old old b refl refl refl first.nodes)
    (first_task runs old b goes_on task c.new.ensures.items c.new-2.ensures.items refl) in
    (course, a.0, a.1)

pub returns : goal.returns
returns g c =
    let t = c.args.trial.now in
    let runs = g.T.Trial.runs t in
    let old = c.args.level.now in
    let first = c.requires.first in
    let b = first_between runs old first in
    let goes_on = ltb 0 c.args.limits.faults in
    let task : Task = record { set = c.new.result; asleep = c.new-2.result; goes_on = goes_on } in
    let course = course_of runs 0 ([] ∷ []) goes_on old b in
    let mid = c.take_task.new.level in
    let next = c.run_waiting.new.level in
    let more = c.in_ok-more.more in
    let start = breaks_of old.found.items in
    let L : List ℕ → Type 0 = λ F. Looks runs c.args.limits (FitsTask runs task) (F ∷ []) old more mid in
    let a = (subst L c.new.ensures.items c.in_ok-more.ensures.looks) course [] (begin runs 0 ([] ∷ []) goes_on old old b refl refl refl first.nodes)
    (first_task runs old b goes_on task c.new.ensures.items c.new-2.ensures.items refl) in
    let counted : next.trials ≡ mid.trials + length mid.waiting.items = c.in_ok-run_waiting.ensures.counted in
    let M : ℕ → Type 0 = λ k. MatchBool more (Picks runs.claims start ([] ∷ []) a.0) (StopsIn runs.claims start ([] ∷ []) a.0 × (k ≡ c.args.limits.trials)) in
    record {
      ends = end_size runs (g.met.T.Trial.offers_all t) c.args.limits 0 ([] ∷ []) goes_on more old next b a.0
          (c.in_ok-run_waiting.ensures.tried course a.0 a.1) c.in_ok-run_waiting.ensures.none_waits (subst M (sym counted) a.2)
          (omega (arith, counted, c.in_ok-more.ensures.limit)) (λ less. lt-ltb 0 c.args.limits.faults less);
    }

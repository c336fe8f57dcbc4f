use Rattle.std.proofs.Common.{◌≡◌, ◌∙◌, ℕ, ◌+◌, [], List, length, ltb, ap, refl, sym, subst, arith, Vec, Global}
use Rattle.std.specs.Bool.{MatchBool}
use Rattle.std.proofs.lemmas.Bool.{lt-ltb}
use Rattle.survey.specs.Breaks.{breaks_of}
use Rattle.survey.specs.Search.{children_of, FitNodes, Looks}
use Rattle.survey.specs.Turns.{Picks, StopsIn}
use Rattle.survey.specs.declared.level.Level.{Level}
use Rattle.survey.specs.declared.task.Node.{Node}
use Rattle.survey.proofs.Between.{begin, course_of, end_size}
use Rattle.survey.proofs.search.search_size.Goals as goal

pub take_size-requires-clause-in_course : goal.take_size-requires-clause-in_course
take_size-requires-clause-in_course g c =
    let runs = g.T.Trial.runs c.args.trial.now in
    let old = c.args.level.now in
    let b = c.requires.between.between in
    let sets = children_of runs.offers old.nodes.items in
    let goes_on = ltb c.args.size c.from.result in
    let level : Level = record { found = old.found; trials = old.trials; nodes = c.replace-nodes.new.dest; waiting = old.waiting } in
    let course = course_of runs c.args.size sets goes_on old b in
    let none : level.nodes.items ≡ [] = ap (λ (v : Vec Node Global). v.items) c.replace-nodes.ensures.after ∙ c.new.ensures.items in
    let nodes : c.deref.result.now ≡ old.nodes.items = c.deref.ensures.value ∙ ap (λ (v : Vec Node Global). v.items) c.replace-nodes.ensures.value in
    let P : List Node → Type 0 = λ t. FitNodes runs goes_on t course in (
      course,
      [],
      begin runs c.args.size sets goes_on old level b refl refl refl none,
      subst P (sym nodes) (refl, c.requires.between.nodes),
      omega (arith, c.requires.limit, ap length b.none),
    )

pub run_waiting-requires-clause-in_course : goal.run_waiting-requires-clause-in_course
run_waiting-requires-clause-in_course g c =
    let runs = g.T.Trial.runs c.args.trial.now in
    let old = c.args.level.now in
    let b = c.requires.between.between in
    let sets = children_of runs.offers old.nodes.items in
    let goes_on = ltb c.args.size c.from.result in
    let level : Level = record { found = old.found; trials = old.trials; nodes = c.replace-nodes.new.dest; waiting = old.waiting } in
    let course = course_of runs c.args.size sets goes_on old b in
    let none : level.nodes.items ≡ [] = ap (λ (v : Vec Node Global). v.items) c.replace-nodes.ensures.after ∙ c.new.ensures.items in
    let nodes : c.deref.result.now ≡ old.nodes.items = c.deref.ensures.value ∙ ap (λ (v : Vec Node Global). v.items) c.replace-nodes.ensures.value in
    let P : List Node → Type 0 = λ t. FitNodes runs goes_on t course in
    let a = c.in_ok-more.ensures.looks course [] (begin runs c.args.size sets goes_on old level b refl refl refl none) (subst P (sym nodes) (refl, c.requires.between.nodes)) in
    (course, a.0, a.1)

pub returns : goal.returns
returns g c =
    let t = c.args.trial.now in
    let runs = g.T.Trial.runs t in
    let old = c.args.level.now in
    let b = c.requires.between.between in
    let sets = children_of runs.offers old.nodes.items in
    let goes_on = ltb c.args.size c.from.result in
    let level : Level = record { found = old.found; trials = old.trials; nodes = c.replace-nodes.new.dest; waiting = old.waiting } in
    let course = course_of runs c.args.size sets goes_on old b in
    let none : level.nodes.items ≡ [] = ap (λ (v : Vec Node Global). v.items) c.replace-nodes.ensures.after ∙ c.new.ensures.items in
    let nodes : c.deref.result.now ≡ old.nodes.items = c.deref.ensures.value ∙ ap (λ (v : Vec Node Global). v.items) c.replace-nodes.ensures.value in
    let P : List Node → Type 0 = λ t. FitNodes runs goes_on t course in
    let mid = c.take_size.new.level in
    let next = c.run_waiting.new.level in
    let more = c.in_ok-more.more in
    let start = breaks_of old.found.items in
    let L : List Node → Type 0 = λ n. Looks runs c.args.limits (FitNodes runs goes_on c.deref.result.now) (children_of runs.offers n) level more mid in
    let a = (subst L nodes c.in_ok-more.ensures.looks) course [] (begin runs c.args.size sets goes_on old level b refl refl refl none) (subst P (sym nodes) (refl, c.requires.between.nodes)) in
    let counted : next.trials ≡ mid.trials + length mid.waiting.items = c.in_ok-run_waiting.ensures.counted in
    let M : ℕ → Type 0 = λ k. MatchBool more (Picks runs.claims start sets a.0) (StopsIn runs.claims start sets a.0 × (k ≡ c.args.limits.trials)) in
    let few : c.from.result ≡ c.args.limits.faults = c.from.ensures in
    record {
      ends = end_size runs (g.met.T.Trial.offers_all t) c.args.limits c.args.size sets goes_on more old next b a.0
          (c.in_ok-run_waiting.ensures.tried course a.0 a.1) c.in_ok-run_waiting.ensures.none_waits (subst M (sym counted) a.2)
          (omega (arith, counted, c.in_ok-more.ensures.limit)) (λ less. lt-ltb c.args.size c.from.result (omega (arith, few)));
    }

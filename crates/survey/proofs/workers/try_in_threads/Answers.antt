use Rattle.std.proofs.Common.{rules, ◌≡◌, ◌∙◌, ◌+◌, ◌*◌, ◌/◌, ◌≤◌, ◌<◌, ◌%◌, min, Vec, Global, IfOk, subst, sym, arith, get_or, length, vec_len}
use Rattle.std.proofs.lemmas.Grind.{div_ceil_times}
use Rattle.survey.specs.Joins.{Joins}
use Rattle.survey.specs.Search.{AreOutcomes}
use Rattle.survey.specs.declared.task.Outcome.{Outcome}
use Rattle.survey.proofs.Parts.{AreParts, if_ok, joined_answers}
use Rattle.survey.proofs.workers.try_in_threads.Goals as goal

pub returns : goal.returns
returns g c =
    let runs = g.T.Trial.runs c.args.trial.now in
    let tasks = c.args.tasks.now in
    let size = length tasks / c.from.result + 1 in
    let parts = c.in_ok-parts.parts in
    let count : vec_len parts ≡ length parts.items = search rules in
    let len : length parts.items ≡ length tasks / size + min 1 (length tasks % size) = sym count ∙ c.in_ok-parts.ensures.len in
    let positive : 0 < size = omega arith in
    let covered : length tasks ≤ length parts.items * size = subst (λ k. length tasks ≤ k * size) (sym len) (div_ceil_times (length tasks) size positive).0 in
    let are : AreParts runs size parts.items tasks = λ n d lt.
    let one = (c.in_ok-parts.ensures.each n d lt).1 in
    subst (λ t. IfOk (get_or parts.items n d) (λ (v : Vec Outcome Global). AreOutcomes runs t v.items)) one.argument_is.value one.call in
    let P : Vec Outcome Global → Type 0 = λ v. Joins parts.items v.items in
    let Q : Vec Outcome Global → Type 0 = λ v. AreOutcomes runs tasks v.items in
    record { outcomes = if_ok P Q c.joined.result (λ v joins. joined_answers runs size parts.items tasks v.items are covered joins) c.joined.ensures.joins }

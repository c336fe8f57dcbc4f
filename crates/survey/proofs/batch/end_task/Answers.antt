use Rattle.std.proofs.Common.{◌≡◌, ℕ, List, subst, ◌∙◌}
use Rattle.survey.specs.Breaks.{breaks_of, IsSettled}
use Rattle.survey.specs.Order.{asleep, awake}
use Rattle.survey.specs.declared.task.Node.{Node}
use Rattle.survey.proofs.batch.end_task.Goals as goal

pub returns-in_ok-push-clause-settled : goal.returns-in_ok-push-clause-settled
returns-in_ok-push-clause-settled g c =
    let runs = g.T.Trial.runs c.args.trial.now in
    let P : List ℕ → Type 0 = λ F. IsSettled runs.holds runs.claims (breaks_of c.record_set.new.found.items) F in
    subst P c.deref.ensures.value c.in_ok-record_set.ensures.settled

pub returns-else-task-clause-settled : goal.returns-else-task-clause-settled
returns-else-task-clause-settled g c =
    let runs = g.T.Trial.runs c.args.trial.now in
    let P : List ℕ → Type 0 = λ F. IsSettled runs.holds runs.claims (breaks_of c.record_set.new.found.items) F in
    subst P c.deref.ensures.value c.in_ok-record_set.ensures.settled

pub returns-in_ok-push-clause-node : goal.returns-in_ok-push-clause-node
returns-in_ok-push-clause-node g c goes asleep_is =
    let runs = g.T.Trial.runs c.args.trial.now in
    let node : Node = record { set = c.in_ok-set.set; asleep = c.in_ok-asleep.asleep; next = c.in_ok-next.next } in
    let S : List ℕ → Type 0 = λ t. c.in_ok-next.next.items ≡ awake t c.deref-then-task-2.result.now in
    let O : List ℕ → Type 0 = λ t. c.in_ok-next.next.items ≡ awake (asleep runs.offers c.args.task.now.set.items) t in (
      node,
      c.in_ok-push.ensures.items,
      record {
        set = c.in_ok-set.ensures.items_if_clones_equal (λ x y e. e) ∙ c.deref-then-task-3.ensures.value;
        asleep = c.in_ok-asleep.ensures.items_if_clones_equal (λ x y e. e) ∙ c.deref-then-task-4.ensures.value ∙ asleep_is;
        next = subst O (c.deref-then-task-2.ensures.value ∙ c.requires.outcome.1 goes) (subst S (c.deref-then-task.ensures.value ∙ asleep_is) c.in_ok-next.ensures.value);
      },
    )

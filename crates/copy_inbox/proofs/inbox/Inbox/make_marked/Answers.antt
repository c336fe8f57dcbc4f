use Rattle.std.proofs.Common.{ap, ◌∙◌}
use Rattle.copy_inbox.specs.Handles.{taker_state_in}
use Rattle.copy_inbox.proofs.Moves.{forks_marks_as}
use Rattle.copy_inbox.proofs.inbox.Inbox.make_marked.Goals as goal

pub another-nobody-requires-clause-rule : goal.another-nobody-requires-clause-rule
another-nobody-requires-clause-rule c =
    let fresh = ap (λ t. t.state.made) c.taker.view_is ∙ ap (λ d. d.made) c.in_ok-inbox.ensures.empty in
    forks_marks_as _ _ (taker_state_in c.taker.inside.pass.me.view.client) c.taker.invariant.0.taker.is fresh

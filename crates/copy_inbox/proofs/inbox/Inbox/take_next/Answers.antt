use Rattle.std.proofs.Common.{◌≡◌, ap, subst}
use Rattle.copy_inbox.specs.Gathered.{known_of}
use Rattle.copy_inbox.specs.Handles.{taker_state_in, MayBeTaken}
use Rattle.copy_inbox.specs.declared.rule.TakerState.{TakerState}
use Rattle.copy_inbox.proofs.Moves.{takes_as, learns}
use Rattle.copy_inbox.proofs.Kept.{next_made, next_few, next_down, keeps_taken}
use Rattle.copy_inbox.proofs.Takers.{next_known, none_known}
use Rattle.copy_inbox.proofs.inbox.Inbox.take_next.Goals as goal

pub pop_as-requires-clause-rule : goal.pop_as-requires-clause-rule
pop_as-requires-clause-rule g c = (takes_as _ _ (taker_state_in c.taker.inside.pass.me.view.client) c.taker.invariant.0.taker.is, learns _ _)

pub returns-in_err-item-clause-none : goal.returns-in_err-item-clause-none
returns-in_err-item-clause-none g c =
    let matches = c.in_err-item.ensures.rule in
    let v = c.taker.inside.pass.me.view.client in
    let none = none_known _ _ _ c.taker.invariant.0.taker matches.1 in
    let P : TakerState → Type 0 = λ d. known_of d.gathered d.taken ≡ 0 in
    rw c.from_residual.ensures (subst P (ap (λ t. t.state) c.taker.view_is) none)

pub count_taken-gathered-requires-clause-made : goal.count_taken-gathered-requires-clause-made
count_taken-gathered-requires-clause-made g c =
    let matches = c.in_ok-item.ensures.rule in
    next_made c.taker.inside.pass.me.view.client c.taker.inside.first c.taker.inside.counts.items c.taker.inside.known c.in_ok-item.item matches.0.1.0 c.taker.invariant.0 matches.0.1.1

pub count_taken-gathered-requires-clause-can_count : goal.count_taken-gathered-requires-clause-can_count
count_taken-gathered-requires-clause-can_count g c =
    let matches = c.in_ok-item.ensures.rule in
    next_few c.taker.inside.pass.me.view.client c.taker.inside.first c.taker.inside.counts.items c.taker.inside.known c.in_ok-item.item matches.0.1.0 c.taker.invariant.0 matches.0.1.1

pub overflow_sub-taker : goal.overflow_sub-taker
overflow_sub-taker g c =
    let matches = c.in_ok-item.ensures.rule in
    next_down c.taker.inside.pass.me.view.client c.taker.inside.first _ c.taker.inside.known c.in_ok-item.item matches.0.1.0 c.taker.invariant.0 matches.0.1.1 _ _ _ c.count_taken-gathered.ensures.counts_taken c.from.ensures

pub invariant_of-taker-2 : goal.invariant_of-taker-2
invariant_of-taker-2 g c =
    let matches = c.in_ok-item.ensures.rule in
    let queue = c.in_ok-item.ensures.queue in
    (keeps_taken c.taker.inside.pass.me.view.client c.taker.inside.first _ c.taker.inside.known c.in_ok-item.item matches.0.1.0 c.taker.invariant.0 matches.0.1.1 _ _ _ c.count_taken-gathered.ensures.counts_taken c.from.ensures _ matches.0.0, queue.0.1, queue.0.2)

pub returns-clause-next : goal.returns-clause-next
returns-clause-next g c =
    let matches = c.in_ok-item.ensures.rule in
    let next = next_known c.taker.inside.pass.me.view.client c.in_ok-item.item matches.0.1.0 c.taker.invariant.0.taker.is matches.0.1.1 in
    let P : TakerState → Type 0 = λ d. MayBeTaken d c.in_ok-item.item in
    subst P (ap (λ t. t.state) c.taker.view_is) next

pub returns-clause-items : goal.returns-clause-items
returns-clause-items g c =
    let matches = c.in_ok-item.ensures.rule in
    let taker = (keeps_taken c.taker.inside.pass.me.view.client c.taker.inside.first _ c.taker.inside.known c.in_ok-item.item matches.0.1.0 c.taker.invariant.0 matches.0.1.1 _ _ _ c.count_taken-gathered.ensures.counts_taken c.from.ensures _ matches.0.0).taker in
    (taker.begun, taker.of_made)

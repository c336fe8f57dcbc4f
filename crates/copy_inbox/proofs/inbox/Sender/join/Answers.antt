use Rattle.std.proofs.Common.{ap, arith, subst, ◌∙◌}
use Rattle.copy_inbox.specs.Handles.{taker_state_in, sender_state_in}
use Rattle.copy_inbox.specs.Items.{HasPrefix, Packets, part}
use Rattle.copy_inbox.specs.declared.rule.SenderState.{SenderState}
use Rattle.copy_inbox.proofs.Moves.{merges_as, learns}
use Rattle.copy_inbox.proofs.Kept.{joined_first, joined_there, joined_at, keeps_joined, keeps_forgetting}
use Rattle.copy_inbox.proofs.Takers.{joined_less, joined_fits, joined_begins, joined_packets}
use Rattle.copy_inbox.proofs.inbox.Sender.join.Goals as goal

pub absorb-requires-clause-rule : goal.absorb-requires-clause-rule
absorb-requires-clause-rule g c = merges_as _ _ (taker_state_in c.taker.inside.pass.me.view.client) _ _ (sender_state_in c.self.inside.pass.me.view.client) c.taker.invariant.0.taker.is c.self.invariant.0.is

pub len_as-held-requires-clause-rule : goal.len_as-held-requires-clause-rule
len_as-held-requires-clause-rule g c = learns _ _

pub overflow_sub-index : goal.overflow_sub-index
overflow_sub-index g c =
    let held = c.len_as-held.ensures.rule in
    joined_first c.taker.inside.pass.me.view.client c.self.inside.pass.me.view.client _ _ _ _ _ _ held.0 c.taker.invariant.0 c.self.invariant.0 c.self.invariant.1 c.absorb.ensures.rule held.2

pub index-count-requires : goal.index-count-requires
index-count-requires g c =
    let held = c.len_as-held.ensures.rule in
    let there = joined_there c.taker.inside.pass.me.view.client c.self.inside.pass.me.view.client _ _ c.taker.inside.counts.items _ _ _ held.0 c.taker.invariant.0 c.self.invariant.0 c.self.invariant.1 c.absorb.ensures.rule held.2 in
    omega arith

pub overflow_sub-taker : goal.overflow_sub-taker
overflow_sub-taker g c =
    let held = c.len_as-held.ensures.rule in
    let at = joined_at c.taker.inside.pass.me.view.client c.self.inside.pass.me.view.client _ _ _ _ _ _ held.0 c.taker.invariant.0 c.self.invariant.0 c.self.invariant.1 c.absorb.ensures.rule held.2 _ c.index-count.ensures in
    joined_less c.taker.inside.pass.me.view.client c.self.inside.pass.me.view.client _ _ _ _ _ held.0 _ c.taker.invariant.0.taker c.self.invariant.0 c.self.invariant.1 c.absorb.ensures.rule held.2 at

pub index_mut-requires : goal.index_mut-requires
index_mut-requires g c =
    let held = c.len_as-held.ensures.rule in
    let there = joined_there c.taker.inside.pass.me.view.client c.self.inside.pass.me.view.client _ _ c.taker.inside.counts.items _ _ _ held.0 c.taker.invariant.0 c.self.invariant.0 c.self.invariant.1 c.absorb.ensures.rule held.2 in
    omega arith

pub overflow_add-taker : goal.overflow_add-taker
overflow_add-taker g c =
    let held = c.len_as-held.ensures.rule in
    let at = joined_at c.taker.inside.pass.me.view.client c.self.inside.pass.me.view.client _ _ _ _ _ _ held.0 c.taker.invariant.0 c.self.invariant.0 c.self.invariant.1 c.absorb.ensures.rule held.2 _ c.index-count.ensures in
    let few = joined_fits c.taker.inside.pass.me.view.client c.self.inside.pass.me.view.client _ _ _ _ _ c.len_as-held.result held.0 _ c.taker.invariant.0.taker c.self.invariant.0 c.self.invariant.1 c.absorb.ensures.rule held.2 at held.1 in
    let top = c.len_as-held.type_inv in
    omega arith

pub invariant_of-taker : goal.invariant_of-taker
invariant_of-taker g c =
    let held = c.len_as-held.ensures.rule in
    let queue = c.len_as-held.ensures.queue in
    let joined = keeps_joined c.taker.inside.pass.me.view.client c.self.inside.pass.me.view.client _ _ _ _ _ _ held.0 c.taker.invariant.0 c.self.invariant.0 c.self.invariant.1 c.absorb.ensures.rule held.2 _ _ c.index-count.ensures queue.2 in
    (keeps_forgetting _ _ _ _ _ _ joined c.forget_first.ensures.forgets, queue.0.1, queue.0.2)

pub returns-clause-begun : goal.returns-clause-begun
returns-clause-begun g c =
    let held = c.len_as-held.ensures.rule in
    let b = joined_begins c.taker.inside.pass.me.view.client c.self.inside.pass.me.view.client _ c.len_as-held.new.pass.me.view.client _ _ _ held.0 c.taker.invariant.0.taker c.self.invariant.0 c.absorb.ensures.rule held.2 c.len_as-held.ensures.queue.2 in
    let P : SenderState → Type 0 = λ p. HasPrefix p.pushed (part p.number (taker_state_in c.len_as-held.new.pass.me.view.client).taken) in
    subst P (ap (λ s. s.state) c.self.view_is) b

pub returns-clause-plain : goal.returns-clause-plain
returns-clause-plain g c = λ none.
    let held = c.len_as-held.ensures.rule in
    let none' = ap (λ t. t.state.marked) c.taker.view_is ∙ none in
    let b = joined_packets c.taker.inside.pass.me.view.client c.self.inside.pass.me.view.client _ _ _ _ held.0 c.taker.invariant.0.taker c.self.invariant.0 c.absorb.ensures.rule held.2 none' in
    let P : SenderState → Type 0 = λ p. Packets p.pushed in
    subst P (ap (λ s. s.state) c.self.view_is) b

use Rattle.std.proofs.Common.{◌≡◌, ◌+◌, length, sym, ap, ◌∙◌, subst, arith, length-append, List}
use Rattle.std.specs.List.{AllByRecursion as Each}
use Rattle.copy_exchange.specs.Inboxes.{IsFresh}
use Rattle.copy_inbox.specs.Handles.{InboxId, TakerView}
use Rattle.copy_exchange.proofs.Lists.{each_more}
use Rattle.copy_exchange.proofs.inboxes.make_inboxes.Goals as goal

pub loop-preserved : goal.loop-preserved
loop-preserved c =
    let i = c.loop.invariant in
    let p = c.push_reserved.ensures in
    let made = c.in_ok-make_inbox.ensures in
    let F : InboxId × TakerView → Type 0 = λ pair. IsFresh pair.0 pair.1 in
    let K : InboxId × TakerView → Type 0 = λ pair. pair.1.state.marked ≡ c.args.marked in
    let room = i.room in
    let capacity = p.capacity in
    record {
      fresh = subst (λ (l : List (InboxId × TakerView)). Each F l) (sym p.items) (each_more F c.loop.pairs.items _ i.fresh made.fresh);
      kind = subst (λ (l : List (InboxId × TakerView)). Each K l) (sym p.items) (each_more K c.loop.pairs.items _ i.kind made.marked);
      count = ap length p.items ∙ (length-append c.loop.pairs.items _ ∙ ap (λ n. n + 1) i.count);
      room = omega arith;
    }

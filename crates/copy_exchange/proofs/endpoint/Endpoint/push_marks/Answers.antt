use Rattle.std.proofs.Common.{arith}
use Rattle.copy_exchange.proofs.Marked.{on_inboxes_stays, marks_stay, marked_none, marked_more, marked_all, can_mark}
use Rattle.copy_exchange.proofs.endpoint.Endpoint.push_marks.Goals as goal

pub loop-to-init : goal.loop-to-init
loop-to-init g c = record { on_inboxes = c.requires.on_inboxes; marks = c.requires.marked; marked = marked_none c.args.window c.args.self.now }

pub push_mark_to-requires-clause-in_range : goal.push_mark_to-requires-clause-in_range
push_mark_to-requires-clause-in_range g c =
    let count = c.loop-to.invariant.on_inboxes.count in
    let inside = c.loop-to-test.true in
    omega arith

pub push_mark_to-requires-clause-sender : goal.push_mark_to-requires-clause-sender
push_mark_to-requires-clause-sender g c =
    can_mark c.args.inboxes.now c.loop-to.self c.loop-to.to c.index-inboxes-to.result c.loop-to.invariant.on_inboxes c.loop-to.invariant.marks c.loop-to-test.true c.index-inboxes-to.is

pub loop-to-preserved : goal.loop-to-preserved
loop-to-preserved g c =
    let i = c.loop-to.invariant in
    let one = c.in_ok-push_mark_to.ensures.marks in
    record {
      on_inboxes = on_inboxes_stays c.args.inboxes.now c.loop-to.self c.push_mark_to.new.self one.stays i.on_inboxes;
      marks = marks_stay c.loop-to.self c.push_mark_to.new.self one.stays i.marks;
      marked = marked_more c.args.inboxes.now c.loop-to.to c.args.window c.args.self.now c.loop-to.self c.push_mark_to.new.self c.requires.on_inboxes c.loop-to-test.true i.marked one;
    }

pub returns-clause-pushes : goal.returns-clause-pushes
returns-clause-pushes g c =
    let over = c.loop-to-test.false in
    marked_all c.args.inboxes.now c.loop-to.to c.args.window c.args.self.now c.loop-to.self (omega arith) c.loop-to.invariant.marked

pub returns-clause-on_inboxes : goal.returns-clause-on_inboxes
returns-clause-on_inboxes g c = c.loop-to.invariant.on_inboxes

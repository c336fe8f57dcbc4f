use Rattle.std.proofs.Common.{◌≡◌, subst, arith}
use Rattle.copy_inbox.specs.Gathered.{TookFronts}
use Rattle.copy_inbox.specs.Handles.{TakerView}
use Rattle.copy_inbox.specs.Items.{OfMade}
use Rattle.copy_inbox.proofs.Counts.{whole_of}
use Rattle.copy_inbox.proofs.Drains.{drain_goes, known_to}
use Rattle.copy_inbox.proofs.inbox.Inbox.take_packets.Goals as goal

pub loop-preserved : goal.loop-preserved
loop-preserved g c =
    let i = c.loop.invariant in
    let d = drain_goes c.args.taker.now c.loop.taker c.take_next.new.taker c.loop.copies.items _ c.loop.counter c.in-Some.item c.in-Packet.copy i.drained c.in-Some.ensures.taken c.in-Some.ensures.next c.in-Packet.is c.push_reserved.ensures.items in
    let len = c.push_reserved.ensures.len in
    let capacity = c.push_reserved.ensures.capacity in
    let long = i.long in
    let room = i.room in
    record { drained = d; long = omega arith; room = omega arith }

pub returns-clause-drained : goal.returns-clause-drained
returns-clause-drained g c =
    let end = c.loop-test.false in
    let top = c.loop.auto.counter-end in
    let P : TakerView → Type 0 = λ t. TookFronts t.state.gathered t.state.taken in
    let M : TakerView → Type 0 = λ t. OfMade t.state.made t.state.taken in
    let begun = subst P c.taker.view_is c.taker.invariant.0.taker.begun in
    record {
      begun = begun;
      made = subst M c.taker.view_is c.taker.invariant.0.taker.of_made;
      whole = λ all.
          let n = all.0 in
          let known = c.loop.invariant.drained.later all.1 (omega arith) in
          let none : known_to c.loop.taker ≡ 0 = omega arith in
          whole_of c.loop.taker.state.gathered c.loop.taker.state.taken none begun;
      others = λ all.
          let n = all.0 in
          c.loop.invariant.drained.others all.1 (omega arith);
    }

use Rattle.std.proofs.Common.{List, sym, subst}
use Rattle.copy_exchange.specs.Expected.{position_of, TakesExpected}
use Rattle.copy_exchange.specs.Marks.{AreTakersCounts}
use Rattle.copy_inbox.specs.Handles.{TakerView}
use Rattle.radio_packet.specs.declared.copy.RadioCopy.{RadioCopy}
use Rattle.copy_exchange.proofs.MarksCounted.{takes_none, takes_more}
use Rattle.copy_exchange.proofs.take.MarkTaker.take_window.Goals as goal

pub loop-init : goal.loop-init
loop-init g c =
    let p = position_of c.args.window_position.now in
    let taker = c.args.taker.now in
    record {
      took = subst (λ (copies : List RadioCopy). TakesExpected p taker taker copies)
          (sym c.new-arrived.ensures.items) (takes_none p taker);
      counts = c.requires.counts;
    }

pub loop-preserved-in-Continue-1 : goal.loop-preserved-in-Continue-1
loop-preserved-in-Continue-1 g c =
    let item = c.in-Some-take_next.item in
    let matches = c.in-Some-take_next.ensures in
    let heard = c.in_ok-record_item-in-Some-take_next.ensures in
    record {
      took = takes_more (position_of c.args.window_position.now) c.args.taker.now c.loop.taker c.take_next.new.taker item c.loop.arrived.items c.record_item.new.arrived.items c.loop.invariant.took matches.next.number matches.taken heard.arrived;
      counts = subst (λ (t : TakerView). AreTakersCounts c.record_item.new.marks.items t.state) (sym matches.taken) (heard.counts c.loop.taker.state c.loop.invariant.counts matches.next);
    }

pub loop-preserved : goal.loop-preserved
loop-preserved g c =
    let p = position_of c.args.window_position.now in
    let same = sym c.in-None-take_next.ensures.same in
    record {
      took = subst (λ (t : TakerView). TakesExpected p c.args.taker.now t c.loop.arrived.items)
          same c.loop.invariant.took;
      counts = subst (λ (t : TakerView). AreTakersCounts c.loop.self.counts.items t.state) same c.loop.invariant.counts;
    }

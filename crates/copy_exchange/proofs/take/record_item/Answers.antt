use Rattle.std.proofs.Common.{arith}
use Rattle.copy_exchange.proofs.MarksCounted.{count_fits, counts_packet, counts_mark}
use Rattle.copy_exchange.proofs.take.record_item.Goals as goal

pub overflow_add-index_mut : goal.overflow_add-index_mut
overflow_add-index_mut c =
    let few = count_fits c.args.marks.now.items c.requires.is_next.0 c.args.item c.in-Mark.field-0 c.index_mut.result.now c.requires.is_next.1 c.requires.is_next.2 c.in-Mark.is c.index_mut.ensures.value in
    record { fits = omega arith }

pub returns-in_ok-add_expected-in-Packet-clause-counts : goal.returns-in_ok-add_expected-in-Packet-clause-counts
returns-in_ok-add_expected-in-Packet-clause-counts c = λ d counts next. counts_packet c.args.marks.now.items d c.args.item c.in-Packet.copy counts next c.in-Packet.is

pub returns-in-Mark-clause-counts : goal.returns-in-Mark-clause-counts
returns-in-Mark-clause-counts c = λ d counts next. counts_mark c.args.marks.now.items d c.args.item c.in-Mark.field-0 c.index_mut.result.now counts next c.in-Mark.is c.index_mut.ensures.value

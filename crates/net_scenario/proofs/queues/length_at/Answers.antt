use Rattle.std.proofs.Common.{sym, arith}
use Rattle.net_scenario.proofs.Members.{length_kept, length_fits, length_read}
use Rattle.net_scenario.proofs.queues.length_at.Goals as goal

pub natural_at-requires : goal.natural_at-requires
natural_at-requires c = record { holds_number = length_fits _ _ (length_kept _ _ _ c.requires.no_fault (sym c.in-Some.ensures.value)) }

pub overflow_cast-result : goal.overflow_cast-result
overflow_cast-result c =
    let read = length_read _ _ _ (length_kept _ _ _ c.requires.no_fault (sym c.in-Some.ensures.value)) c.natural_at.ensures.value in
    omega (arith, read.1)

pub returns-in-Some-clause-shortest : goal.returns-in-Some-clause-shortest
returns-in-Some-clause-shortest c = (length_read _ _ _ (length_kept _ _ _ c.requires.no_fault (sym c.in-Some.ensures.value))
    c.natural_at.ensures.value).0

pub returns-in-Some-clause-longest : goal.returns-in-Some-clause-longest
returns-in-Some-clause-longest c = (length_read _ _ _ (length_kept _ _ _ c.requires.no_fault (sym c.in-Some.ensures.value))
    c.natural_at.ensures.value).1

use Rattle.worker_window.proofs.Orders.{first_next, lesser_next}
use Rattle.worker_window.proofs.own.least.Goals as goal

pub returns-in_default-wake : goal.returns-in_default-wake
returns-in_default-wake c = record { is_next = rw c.in_default-wake.is (first_next c.in-Some.first.now c.args.copies.now c.in-Some.ensures.value c.requires.rising) }

pub returns : goal.returns
returns c = record { is_next = rw (c.min.ensures, c.in-Some-wake.is) (lesser_next c.in-Some-wake.moment c.in-Some.first.now c.args.copies.now c.in-Some.ensures.value c.requires.rising) }

use Rattle.std.proofs.Common.{arith}
use Rattle.std.proofs.lemmas.Fmt.{length-decimal-le}
use Rattle.itoa.proofs.Decimal.{length_one, length_step_wide}
use Rattle.trace_printer.proofs.words.digits.Goals as goal

pub overflow_add-count : goal.overflow_add-count
overflow_add-count c = record { fits = omega (arith, length-decimal-le 20 c.args.number (omega arith) (omega arith) c.ranges.number.fits, length_step_wide c.loop-left.left c.loop-left-test.true (omega (arith, c.loop-left.auto.left-fits.fits)), c.loop-left.invariant) }

pub loop-left-preserved : goal.loop-left-preserved
loop-left-preserved c = omega (arith, length_step_wide c.loop-left.left c.loop-left-test.true (omega (arith, c.loop-left.auto.left-fits.fits)), c.loop-left.invariant)

pub returns-clause-value : goal.returns-clause-value
returns-clause-value c = omega (arith, length_one c.loop-left.left c.loop-left-test.false, c.loop-left.invariant)

pub returns-clause-bounded : goal.returns-clause-bounded
returns-clause-bounded c = omega (arith, length-decimal-le 20 c.args.number (omega arith) (omega arith) c.ranges.number.fits, length_one c.loop-left.left c.loop-left-test.false, c.loop-left.invariant)

use Rattle.std.proofs.Common.{arith}
use Rattle.trace_printer.proofs.ShortNumbers.{short_is, short_count, put_entry}
use Rattle.trace_printer.proofs.words.put_short_number.Goals as goal

pub overflow_sub-result : goal.overflow_sub-result
overflow_sub-result c = omega (arith, short_count c.args.number c.requires.short_fits.0)

pub returns-clause-put : goal.returns-clause-put
returns-clause-put c = put_entry c.args.number c.args.at _ c.args.room.now c.requires.short_fits.0 c.requires.short_fits.1 (omega (arith, short_count c.args.number c.requires.short_fits.0, c.from.ensures))

pub returns-clause-end : goal.returns-clause-end
returns-clause-end c = omega (arith, short_count c.args.number c.requires.short_fits.0, c.from.ensures)

pub returns-clause-bounded : goal.returns-clause-bounded
returns-clause-bounded c = omega (arith, short_count c.args.number c.requires.short_fits.0, (short_is c.args.number c.requires.short_fits.0).few, c.from.ensures)

use Rattle.std.proofs.Common.{◌∙◌, append_assoc, refl}
use Rattle.trace_printer.proofs.Digits.{decimal_thousands}
use Rattle.trace_printer.proofs.words.put_thousands.Goals as goal

pub returns-clause-put : goal.returns-clause-put
returns-clause-put c =
    c.put_last_three.ensures.put ∙ rw (c.put_short_number-end.ensures.put, decimal_thousands c.args.number c.requires.size.0 c.requires.size.1, append_assoc) refl

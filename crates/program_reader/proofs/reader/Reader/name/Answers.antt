use Rattle.program_reader.proofs.NameSteps.{named_reads}
use Rattle.program_reader.proofs.reader.Reader.name.Goals as goal

pub returns-clause-ok : goal.returns-clause-ok
returns-clause-ok c = named_reads _ _ _ _ _ _ c.in_ok-number.ensures.ok c.advance.ensures.after

use Rattle.std.proofs.Common.{arith}
use Rattle.program_reader.proofs.BlockLaws.{within_limits}
use Rattle.program_reader.proofs.reader.Reader.flat_block.Goals as goal

pub returns-clause-ok : goal.returns-clause-ok
returns-clause-ok c = rw c.in_ok-flat.ensures.tree c.in_ok-block.ensures.ok

pub returns-clause-numbered : goal.returns-clause-numbered
returns-clause-numbered c = rw c.in_ok-flat.ensures.tree c.in_ok-block.ensures.numbered

pub returns-clause-fits : goal.returns-clause-fits
returns-clause-fits c = rw c.in_ok-flat.ensures.tree c.in_ok-block.ensures.fits

pub returns-clause-within : goal.returns-clause-within
returns-clause-within c =
    rw c.in_ok-flat.ensures.tree (within_limits _ _ _ (omega (arith, c.requires.outermost, c.in_ok-block.ensures.shallow))
    c.in_ok-block.ensures.counts c.block.new.self.scope.few_statements)

use Rattle.std.proofs.Common.{refl}
use Rattle.program_reader.proofs.StatementSteps.{target_ok, target_numbered}
use Rattle.program_reader.proofs.reader.Reader.target.Goals as goal

pub returns-clause-ok : goal.returns-clause-ok
returns-clause-ok c = target_ok _ _ _ _ _ _ _ c.requires.at_name c.in_ok-variable.ensures.finds
    c.in_ok-variable.ensures.room refl c.advance.ensures.after

pub returns-clause-numbered : goal.returns-clause-numbered
returns-clause-numbered c = target_numbered _ _ _ _ c.in_ok-variable.ensures.finds

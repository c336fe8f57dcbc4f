use Rattle.std.proofs.Common.{◌∷◌}
use Rattle.program_tree.specs.Grammar.{at_simple}
use Rattle.program_reader.specs.Machine as machine
use Rattle.program_reader.specs.Steps.{read_scope}
use Rattle.program_reader.proofs.BlockLaws.{block_read}
use Rattle.program_reader.proofs.HeadLaws.{new_goes}
use Rattle.program_reader.proofs.reader.Reader.ctimer.Goals as goal

pub returns-clause-ok : goal.returns-clause-ok
returns-clause-ok c =
    block_read (read_scope c.args.self.now.scope) c.new_name.new.scope c.flat_block.new.self.scope
    c.in_ok-new_name.ensures.ok c.in_ok-block.ensures.ok c.in_ok-block.ensures.names c.in_ok-block.ensures.numbered
    (λ f. new_goes _ _ _ _ _ _ (machine.block at_simple ∷ f) c.in_ok-new_name.ensures.ok)

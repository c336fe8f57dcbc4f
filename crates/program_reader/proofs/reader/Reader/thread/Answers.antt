use Rattle.std.proofs.Common.{ap}
use Rattle.program_tree.specs.FlatBlock.{tree_in}
use Rattle.program_reader.specs.Steps.{read_scope}
use Rattle.program_reader.proofs.BlockLaws.{block_read, thread_goes, spawns_earlier, thread_fails, thread_block_fails}
use Rattle.program_reader.proofs.ListLaws.{handed_on}
use Rattle.program_reader.proofs.reader.Reader.thread.Goals as goal

pub returns-clause-ok : goal.returns-clause-ok
returns-clause-ok c =
    block_read (read_scope c.args.self.now.scope) c.new_name.new.scope c.flat_block.new.self.scope
    c.in_ok-name.ensures.ok c.in_ok-block.ensures.ok c.in_ok-block.ensures.names c.in_ok-block.ensures.numbered
    (λ f. thread_goes _ _ _ _ _ f c.in_ok-name.ensures.ok)

pub returns-clause-earlier : goal.returns-clause-earlier
returns-clause-earlier c = spawns_earlier _ _ _ (tree_in c.in_ok-block.block)
    (ap (λ z. z.names.threads) c.in_ok-name.ensures.ok.added) c.in_ok-block.ensures.fits

pub returns-in_err-name-clause-err : goal.returns-in_err-name-clause-err
returns-in_err-name-clause-err c = λ f e more.
    thread_fails _ more _ _ (c.in_err-name.ensures.err f (handed_on c.from_residual.ensures.1 e))

pub returns-in_err-block-clause-err : goal.returns-in_err-block-clause-err
returns-in_err-block-clause-err c = λ f e more.
    thread_block_fails _ _ _ more _ _ _ c.in_ok-name.ensures.ok
    (c.in_err-block.ensures.err f (handed_on c.from_residual-in_err-block.ensures.1 e))

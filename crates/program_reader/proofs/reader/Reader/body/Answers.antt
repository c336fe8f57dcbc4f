use Rattle.program_reader.proofs.BlockLaws.{body_read}
use Rattle.program_reader.proofs.reader.Reader.body.Goals as goal

pub returns-clause-ok : goal.returns-clause-ok
returns-clause-ok c = body_read c.args.self.now.scope c.flat_block.new.self.scope c.if-not-accept.ensures.read
    c.in_ok-block.ensures.ok c.in_ok-block.ensures.names c.in_ok-block.ensures.numbered

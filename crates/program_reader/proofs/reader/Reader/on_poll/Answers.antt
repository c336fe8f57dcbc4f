use Rattle.std.proofs.Common.{refl}
use Rattle.program_reader.proofs.BlockLaws.{handler_read}
use Rattle.program_reader.proofs.reader.Reader.on_poll.Goals as goal

pub returns-clause-ok : goal.returns-clause-ok
returns-clause-ok c = handler_read c.args.self.now.scope c.flat_block.new.self.scope c.if-not-accept.ensures.read
    c.in_ok-block.ensures.ok c.in_ok-block.ensures.names c.in_ok-block.ensures.numbered (λ f. refl)

use Rattle.program_reader.proofs.StartLaws.{receiver_read, process_within}
use Rattle.program_reader.proofs.reader.Reader.receiver.Goals as goal

pub returns-clause-ok : goal.returns-clause-ok
returns-clause-ok c =
    receiver_read _ _ _ _ _ _ c.if-not-accept.ensures.read c.in_ok-process.ensures.ok
    c.in_ok-process.ensures.numbered (process_within _ _ _ c.in_ok-process.ensures.fits) c.in_ok-sign.ensures.ok

use Rattle.protothread.proofs.Splits.{reads_the_text}
use Rattle.protothread.proofs.Follows.{text_runs}
use Rattle.protothread.proofs.laws.runs_are_the_text.Goals as goal

pub returns : goal.returns
returns c = record {
  runs_are_the_text =
      λ code part vars now later h out.
      (reads_the_text code part vars now later h out, text_runs code part vars now later h out);
}

use Rattle.std.proofs.Common.{None, arith}
use Rattle.trace_printer.specs.Words.{fate_word}
use Rattle.radio_packet.specs.declared.fate.Fate.{Fate}
use Rattle.trace_printer.proofs.Pieces.{spaced_more, spaced_end}
use Rattle.trace_printer.proofs.lines.put_fates.Goals as goal

-- the default value for a place past the end of a list of fates
abbrev no_fate : Fate
no_fate = record { to = 0; at = None }

pub loop-fate-preserved : goal.loop-fate-preserved
loop-fate-preserved c = spaced_more fate_word c.args.fates.now c.loop-fate.fate-index no_fate c.loop-fate.page _ _ (omega arith) c.in_ok-put_fate.ensures.appended c.loop-fate.invariant

pub returns : goal.returns
returns c = record { appended = spaced_end fate_word c.args.fates.now c.loop-fate.fate-index c.loop-fate.page _ (omega arith) c.loop-fate.invariant }

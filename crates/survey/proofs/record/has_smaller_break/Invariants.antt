use Rattle.std.proofs.Common.{take}
use Rattle.survey.specs.Breaks.{breaks_of}
use Rattle.survey.specs.Turns.{HasSmallerBreak}
use Rattle.survey.proofs.record.has_smaller_break.Given as goal

abbrev pub invariant-loop-known : goal.invariant-loop-known
invariant-loop-known l = HasSmallerBreak (breaks_of (take l.known-index l.found)) l.set l.claim → ⊥

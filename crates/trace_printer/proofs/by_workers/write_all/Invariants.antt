use Rattle.std.proofs.Common.{◌-◌, drop}
use Rattle.std.specs.List.{concat}
use Rattle.trace_printer.specs.Page.{Written}
use Rattle.trace_printer.proofs.by_workers.write_all.Given as goal

-- the remaining lines are left to write
abbrev pub invariant-rounds : goal.invariant-rounds
invariant-rounds g l = record {
  written : Written (g.W.Write.contents l.fn.writer) (g.W.Write.contents l.writer) (concat (g.T.Numbered.texts l.lines)) (concat (drop l.skip (g.T.Numbered.texts l.lines)));
}

abbrev pub decreases-rounds : goal.decreases-rounds
decreases-rounds g l = l.all - l.skip

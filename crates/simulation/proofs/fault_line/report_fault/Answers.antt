use Rattle.std.proofs.Common.{sym, subst, ap, ◌∙◌}
use Rattle.simulation.specs.FaultLines.{WritesLine, written_line}
use Rattle.simulation.specs.declared.error.SimError.TheVariants as fault
use Rattle.simulation.proofs.fault_line.report_fault.Goals as goal

pub returns-in-Scenario-Program : goal.returns-in-Scenario-Program
returns-in-Scenario-Program g c =
    let same = rw c.in-Scenario-Program.is at c.in-Scenario-Program.field-0-is in
    record {
      writes =
          subst (λ f. WritesLine (g.E.Write.contents c.args.errors.now) (g.E.Write.contents c.report_program.new.errors) c.report_program.result (written_line f))
          (sym (c.in-Scenario-Program.is ∙ ap fault.Scenario same)) c.report_program.ensures.writes;
    }

use Rattle.std.proofs.lemmas.Grind.{common_steps}
use Rattle.std.proofs.Common.{arith, sym, ◌∙◌}
use Rattle.trace_printer.proofs.Written.{written_none, written_more, written_kept, written_stops}
use Rattle.claim_check.proofs.output.write_bytes.Goals as goal

pub loop-rest-init : goal.loop-rest-init
loop-rest-init g c = written_none _ _

pub loop-rest-preserved : goal.loop-rest-preserved
loop-rest-preserved g c = written_more _ _ _ _ _ _ _ c.loop-rest.invariant c.in-Ok.ensures.bytes (grind (arith, common_steps))

pub returns-in-Ok-eq0 : goal.returns-in-Ok-eq0
returns-in-Ok-eq0 g c = record {
  writes =
      written_stops _ _ _ _ (written_more _ _ _ _ _ c.loop-rest.rest.now _ c.loop-rest.invariant c.in-Ok-eq0.ensures.bytes (grind (arith, common_steps))) (sym c.is_empty.ensures ∙ c.loop-rest-test.true);
}

pub returns-in-Err : goal.returns-in-Err
returns-in-Err g c = record { writes = written_stops _ _ _ _ (written_kept _ _ _ _ _ c.loop-rest.invariant c.in-Err.ensures.bytes) (sym c.is_empty.ensures ∙ c.loop-rest-test.true) }

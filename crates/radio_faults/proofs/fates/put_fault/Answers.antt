use Rattle.std.proofs.Common.{arith}
use Rattle.std.proofs.lemmas.List.Edits.{map_over_more}
use Rattle.radio_faults.specs.Faults.{fate_after}
use Rattle.radio_faults.proofs.fates.put_fault.Goals as goal

pub loop-place-preserved : goal.loop-place-preserved
loop-place-preserved c =
    rw c.in_ok-fate.ensures.value
    (map_over_more (fate_after c.args.fault c.args.sent.now) c.args.all.now.items c.loop-place.all.items c.loop-place.place _ (omega arith) c.loop-place.invariant c.index.ensures)

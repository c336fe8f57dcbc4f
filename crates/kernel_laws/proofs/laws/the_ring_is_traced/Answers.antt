use Rattle.kernel_laws.proofs.Emptied.{run_empties_ring}
use Rattle.kernel_laws.proofs.Ring.{boot_tells_packets, calls_tell_packets, run_tells_packets}
use Rattle.kernel_laws.proofs.laws.the_ring_is_traced.Goals as goal

pub returns-clause-within : goal.returns-clause-within
returns-clause-within c = calls_tell_packets

pub returns-clause-boot : goal.returns-clause-boot
returns-clause-boot c = boot_tells_packets

pub returns-clause-run : goal.returns-clause-run
returns-clause-run c = run_tells_packets

pub returns-clause-emptied : goal.returns-clause-emptied
returns-clause-emptied c = run_empties_ring

use Rattle.kernel_laws.proofs.Packets.{packets_are_handed}
use Rattle.kernel_laws.proofs.Timers.{timers_are_traced}
use Rattle.kernel_laws.proofs.laws.what_waits_is_traced.Goals as goal

pub returns-clause-packets : goal.returns-clause-packets
returns-clause-packets c = packets_are_handed

pub returns-clause-timers : goal.returns-clause-timers
returns-clause-timers c = timers_are_traced

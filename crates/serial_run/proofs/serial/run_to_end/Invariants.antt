use Rattle.std.proofs.Common.{length}
use Rattle.mote_net.specs.Meaning.{net_of}
use Rattle.net_agenda.specs.Buckets.{first_key}
use Rattle.serial_run.specs.Ended.{HasReached}
use Rattle.serial_run.specs.IsInState.{IsWhole}
use Rattle.net_agenda.proofs.Ranks.{turns_left}
use Rattle.serial_run.proofs.serial.run_to_end.Given as goal

abbrev pub invariant-turns : goal.invariant-turns
invariant-turns l = record { whole : IsWhole (net_of l.net) l.engine; reached : HasReached l.faults (net_of l.net) l.engine }

abbrev pub decreases-turns : goal.decreases-turns
decreases-turns l = turns_left (length (net_of l.net).motes) l.end (first_key l.engine.agenda.buckets)

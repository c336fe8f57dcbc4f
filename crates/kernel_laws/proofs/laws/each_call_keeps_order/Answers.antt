use Rattle.kernel_laws.proofs.Motes.{in_order, boot_adds, run_adds, poll_keeps, packet_keeps, note_keeps}
use Rattle.kernel_laws.proofs.Traces.{no_lines_first}
use Rattle.kernel_laws.proofs.laws.each_call_keeps_order.Goals as goal

pub returns-clause-in_order : goal.returns-clause-in_order
returns-clause-in_order c = in_order

pub returns-clause-first : goal.returns-clause-first
returns-clause-first c = no_lines_first

pub returns-clause-boot : goal.returns-clause-boot
returns-clause-boot c = boot_adds

pub returns-clause-run : goal.returns-clause-run
returns-clause-run c = run_adds

pub returns-clause-poll : goal.returns-clause-poll
returns-clause-poll c = poll_keeps

pub returns-clause-packet : goal.returns-clause-packet
returns-clause-packet c = packet_keeps

pub returns-clause-note : goal.returns-clause-note
returns-clause-note c = note_keeps

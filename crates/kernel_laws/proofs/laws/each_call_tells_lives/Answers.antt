use Rattle.kernel_laws.proofs.BodyMotes.{telling_is_of_lives, telling_is_of_lives_so_far, no_lines_tell_first, boot_tells, run_tells, poll_tells, packet_tells, note_tells}
use Rattle.kernel_laws.proofs.laws.each_call_tells_lives.Goals as goal

pub returns-clause-lives : goal.returns-clause-lives
returns-clause-lives c = telling_is_of_lives

pub returns-clause-lives_so_far : goal.returns-clause-lives_so_far
returns-clause-lives_so_far c = telling_is_of_lives_so_far

pub returns-clause-first : goal.returns-clause-first
returns-clause-first c = no_lines_tell_first

pub returns-clause-boot : goal.returns-clause-boot
returns-clause-boot c = boot_tells

pub returns-clause-run : goal.returns-clause-run
returns-clause-run c = run_tells

pub returns-clause-poll : goal.returns-clause-poll
returns-clause-poll c = poll_tells

pub returns-clause-packet : goal.returns-clause-packet
returns-clause-packet c = packet_tells

pub returns-clause-note : goal.returns-clause-note
returns-clause-note c = note_tells

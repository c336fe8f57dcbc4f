use Rattle.serial_run.proofs.Stamps.{log_counts_up, traces_never_go_back}
use Rattle.serial_run.proofs.laws.moments_and_numbers_rise.Goals as goal

pub returns-clause-traces : goal.returns-clause-traces
returns-clause-traces c = traces_never_go_back

pub returns-clause-log : goal.returns-clause-log
returns-clause-log c = log_counts_up

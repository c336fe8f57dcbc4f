use Rattle.kernel_laws.proofs.Resting.{calls_keep_step, listed_are_running, only_the_running}
use Rattle.kernel_laws.proofs.laws.the_listed_are_running.Goals as goal

pub returns-clause-called : goal.returns-clause-called
returns-clause-called c = only_the_running

pub returns-clause-within : goal.returns-clause-within
returns-clause-within c = calls_keep_step

pub returns-clause-between : goal.returns-clause-between
returns-clause-between c = listed_are_running

use Rattle.std.proofs.Common.{rules}
use Rattle.program_tree.specs.Program.{tree_of}
use Rattle.process_kernel.specs.Etimer.{add_timer}
use Rattle.process_kernel.proofs.machine.Machine.timer_is_set.Goals as goal

pub returns-clause-exact : goal.returns-clause-exact
unfolding add_timer
returns-clause-exact c = search (rules, c.poll.ensures.exact (tree_of c.args.program.now))

use Rattle.std.proofs.Common.{rules}
use Rattle.program_tree.specs.Program.{tree_of}
use Rattle.process_kernel.specs.Process.{poll_turn_of}
use Rattle.process_kernel.proofs.machine.Machine.poll_in_turn.Goals as goal

pub returns : goal.returns
unfolding poll_turn_of
returns c = record {
  follows = record {
    exact = λ k enough. search (rules, c.set_needs_poll.ensures.exact (tree_of c.args.program.now));
    continues = search rules;
    grows = search rules;
  };
}

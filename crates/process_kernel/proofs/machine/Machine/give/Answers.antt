use Rattle.std.proofs.Common.{rules}
use Rattle.program_tree.specs.Program.{tree_of}
use Rattle.process_kernel.specs.Process.{give_of}
use Rattle.process_kernel.proofs.machine.Machine.give.Goals as goal

pub returns-in_err-write : goal.returns-in_err-write
unfolding give_of
returns-in_err-write c = record {
  follows = record {
    exact = λ k enough. search (rules, c.in_err-write.ensures.exact (tree_of c.args.program.now));
    continues = search rules;
    grows = search rules;
  };
}

pub returns : goal.returns
unfolding give_of
returns c = record {
  follows = record {
    exact = λ k enough. search (rules, c.in_ok-write.ensures.exact (tree_of c.args.program.now));
    continues = search rules;
    grows = search rules;
  };
}

use Rattle.std.proofs.Common.{rules}
use Rattle.program_tree.specs.Program.{tree_of, code_of}
use Rattle.process_kernel.proofs.First.{one_more}
use Rattle.process_kernel.proofs.room.first_variables.Goals as goal

pub loop-process-preserved : goal.loop-process-preserved
loop-process-preserved c =
    one_more (tree_of c.args.program.now).codes c.loop-process.process
    (code_of c.process.result.now) c.loop-process.variables.items c.push.new.self.items c.process.ensures.code
    (search rules) c.loop-process.invariant

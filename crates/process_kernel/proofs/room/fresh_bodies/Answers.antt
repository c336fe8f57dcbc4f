use Rattle.std.proofs.Common.{rules, arith, refl, None}
use Rattle.std.proofs.lemmas.List.{length-map}
use Rattle.program_tree.specs.Program.{tree_of, code_of}
use Rattle.process_kernel.proofs.First.{AreFresh-push, fresh_remainders}
use Rattle.process_kernel.proofs.room.fresh_bodies.Goals as goal

pub loop-process-preserved : goal.loop-process-preserved
loop-process-preserved c =
    (search rules, rw c.in_ok-push.ensures.items (AreFresh-push c.loop-process.threads.items None c.loop-process.invariant.1 (λ code. refl)))

pub returns : goal.returns
returns c = record {
  fresh =
      let p = c.args.program.now in
      fresh_remainders (tree_of p).codes c.loop-process.threads.items c.loop-process.invariant.1 (omega (arith, p.each_code, c.loop-process.invariant.0, length-map p.codes.items code_of));
}

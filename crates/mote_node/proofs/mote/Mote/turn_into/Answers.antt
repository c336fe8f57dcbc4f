use Rattle.std.proofs.Common.{rules, IsSome}
use Rattle.program_tree.specs.Program.{tree_of}
use Rattle.process_kernel.specs.Public.{kernel_in}
use Rattle.mote_node.proofs.TurnLemmas.{some_after, some_anyhow}
use Rattle.mote_node.proofs.mote.Mote.turn_into.Goals as goal

pub invariant_of-self : goal.invariant_of-self
invariant_of-self c =
    let program = tree_of c.args.program.now in
    let before : IsSome (kernel_in program c.deref_mut.result.now) = rw c.deref_mut.ensures.value (c.args.self.now.running program c.if-self.false) in
    let some = some_after _ _ _ _ _ c.in-Ok.ensures.goes_on before in
    record {
      early = c.requires.moment_bounded;
      running = λ t e. some_anyhow program t c.turn_in_net-turned.new.kernel some;
      wakes = λ t e. search (rules, c.wake_after-self.ensures.value t);
      sleeps = search rules;
    }

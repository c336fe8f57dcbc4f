use Rattle.std.proofs.lemmas.Result.{on_ok_weaker}
use Rattle.program_tree.specs.Program.{tree_of}
use Rattle.mote_node.proofs.TurnLemmas.{halted_turn, whole_turn}
use Rattle.mote_node.proofs.turn.turn_mote.Goals as goal

pub returns-then-is_halted : goal.returns-then-is_halted
returns-then-is_halted c = record {
  goes_on =
      let t = tree_of c.args.program.now in
      halted_turn c.args.moment c.args.packets.now _ _ c.args.out.now c.boot.new.out c.in_ok-boot.ensures.goes_on (rw c.if-is_halted.true at (c.is_halted.ensures.model t));
}

pub returns : goal.returns
returns c = record {
  goes_on =
      let t = tree_of c.args.program.now in
      on_ok_weaker c.run_all.result
      (whole_turn c.args.moment c.args.packets.now _ _ _ _ _ c.args.out.now c.boot.new.out c.hear_all.new.out c.run_all.new.out
      c.in_ok-boot.ensures.goes_on (rw c.if-is_halted.false at (c.is_halted.ensures.model t)) (c.in_ok-hear_all.ensures.goes_on t) (c.poll_etimer.ensures.polls_due t)) c.run_all.ensures.goes_on;
}

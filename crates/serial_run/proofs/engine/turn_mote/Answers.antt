use Rattle.std.proofs.Common.{◌≡◌, ◌∙◌, ℕ, ap, sym, subst, get_or}
use Rattle.std.specs.Prelude.{IfSome}
use Rattle.mote_net.specs.Meaning.{net_of}
use Rattle.mote_node.specs.declared.mote.Mote.{Mote}
use Rattle.mote_node.specs.Public.{node_in, turn_out_of}
use Rattle.mote_node.specs.Turn.{Node}
use Rattle.net_agenda.specs.NetSystem.{tree_at}
use Rattle.serial_run.specs.OnTime.{CanTurn}
use Rattle.serial_run.proofs.Steps.{turn_stamps}
use Rattle.serial_run.proofs.engine.turn_mote.Goals as goal

pub returns-clause-stamped : goal.returns-clause-stamped
returns-clause-stamped c =
    let n = net_of c.args.net.now in
    let m = c.args.number in
    let t = c.args.moment in
    let xs = c.args.motes.now.items in
    let old = c.index_mut-mote.result.now in
    let here : get_or xs m old ≡ old = sym (c.index_mut-mote.ensures.value ∙ ap (λ k. get_or xs k old) c.from.ensures) in
    turn_stamps n c.args.faults.now m t c.args.packets.now old c.turn_on.new.mote (turn_out_of c.turn_on.new.out c.in_ok-wake.wake)
    (subst (λ (x : Mote). CanTurn t (node_in (tree_at n m) x)) here (c.requires.ready old))
    (subst (λ (x : Mote). IfSome (node_in (tree_at n m) x) (λ (y : Node). y.mote.state.mote ≡ m)) here (c.requires.numbered old))
    c.in_ok-wake.ensures.turned

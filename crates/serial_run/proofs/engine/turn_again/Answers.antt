use Rattle.std.proofs.Common.{subst, sym}
use Rattle.mote_net.specs.Meaning.{net_of}
use Rattle.serial_run.specs.OnTime.{CanTurn}
use Rattle.serial_run.proofs.EachTurn.{again_can_turn}
use Rattle.serial_run.proofs.engine.turn_again.Goals as goal

pub own_turn-requires-clause-ready : goal.own_turn-requires-clause-ready
own_turn-requires-clause-ready c =
    subst (CanTurn c.args.moment) (sym c.in_ok-boot_again.ensures.again) (again_can_turn (net_of c.args.net.now) c.args.number c.args.moment _ c.requires.running)

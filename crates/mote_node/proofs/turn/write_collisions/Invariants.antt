use Rattle.std.proofs.Common.{◌≡◌, ◌++◌, map, take}
use Rattle.mote_node.specs.Turn.{collision_line}
use Rattle.mote_node.proofs.turn.write_collisions.Given as goal

abbrev pub invariant-loop-packet : goal.invariant-loop-packet
invariant-loop-packet l =
    (l.out.lines.items ≡ l.fn.out.lines.items ++ map (collision_line l.moment) (take l.packet-index l.packets))
    × (l.out.sends.items ≡ l.fn.out.sends.items)

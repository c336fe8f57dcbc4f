use Rattle.std.proofs.Common.{◌≡◌, ◌<◌, ℕ, [], length, map, Option, Some}
use Rattle.std.specs.declared.alloc.Global.{Global}
use Rattle.std.specs.Prelude.{slice_index_or, Vec}
use Rattle.mote_node.specs.declared.mote.Mote.{Mote}
use Rattle.mote_node.specs.Public.{node_in}
use Rattle.trace_lines.specs.declared.line.Line.{Line}
use Rattle.mote_net.specs.Meaning.{net_of}
use Rattle.window_laws.specs.Agenda.{Wake, up_to}
use Rattle.net_agenda.specs.Buckets.{HoldsItems}
use Rattle.net_agenda.specs.NetSystem.{first_node_in, tree_at}
use Rattle.serial_run.proofs.engine.Engine.boot.Given as goal

abbrev pub invariant-loop-number : goal.invariant-loop-number
invariant-loop-number l = let n = net_of l.net in record {
  motes : length l.engine.motes.items ≡ l.number;
  kept : length l.engine.wakes.items ≡ l.number;
  traced : length l.engine.traces.items ≡ l.number;
  nodes : (k : ℕ) (d : Mote) → k < l.number → node_in (tree_at n k) (slice_index_or l.engine.motes.items k d) ≡ Some (first_node_in n k);
  wakes : (k : ℕ) (d : Option ℕ) → k < l.number → slice_index_or l.engine.wakes.items k d ≡ Some 0;
  traces : (k : ℕ) (d : Vec Line Global) → k < l.number → (slice_index_or l.engine.traces.items k d).items ≡ [];
  log : l.engine.log.items ≡ [];
  agenda : HoldsItems l.engine.agenda.buckets (map (λ k. Wake 0 k) (up_to l.number));
}

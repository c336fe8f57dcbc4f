use Rattle.process_kernel.specs.Public.{kernel_in}
use Rattle.mote_node.specs.Public.{node_in}
use Rattle.mote_node.proofs.TurnLemmas.{kept_wake}
use Rattle.mote_node.proofs.mote.Mote.wake.Goals as goal

pub returns : goal.returns
unfolding node_in
returns c = record {
  value = λ t.
      let m = c.args.self.now in
      kept_wake m.failed (kernel_in t m.kernel.value) m.last m.wake m.collide m.sleeps (m.running t) (m.wakes t);
}

use Rattle.mote_node.proofs.TurnLemmas.{sent_there, sent_wakes}
use Rattle.mote_node.proofs.mote.Mote.set_sent.Goals as goal

pub invariant_of-self : goal.invariant_of-self
invariant_of-self c =
    let m = c.args.self.now in
    record {
      early = m.early;
      running = λ t e. sent_there c.args.sent _ _ (c.set_sent.ensures.model t) (rw c.deref_mut.ensures.value (m.running t e));
      wakes = λ t e.
          sent_wakes c.args.sent _ _ m.wake m.last (c.set_sent.ensures.model t) (rw c.deref_mut.ensures.value (m.wakes t e));
      sleeps = m.sleeps;
    }

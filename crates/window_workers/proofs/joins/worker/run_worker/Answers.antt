use Rattle.std.proofs.Common.{◌≡◌, sym, ap, ◌∙◌, subst, true, length}
use Rattle.std.specs.List.{AllByRecursion as Each}
use Rattle.copy_exchange.proofs.Delivered.{endpoint_again}
use Rattle.copy_exchange.specs.Crossed.{is_own}
use Rattle.copy_exchange.specs.Takers.{taken_by, gathered_by}
use Rattle.mote_net.specs.Meaning.{net_of}
use Rattle.radio_packet.specs.declared.copy.RadioCopy.{RadioCopy}
use Rattle.window_workers.specs.JoinedWorker.{IsFirstOf}
use Rattle.worker_window.specs.Window.{RunsWindow, IsOutgoing}
use Rattle.window_workers.proofs.Sent.{leaves_sent}
use Rattle.window_workers.proofs.JoinedArrived.{arrived_have}
use Rattle.window_workers.proofs.joins.worker.run_worker.Goals as goal

pub run_window-requires-clause-ready : goal.run_window-requires-clause-ready
run_window-requires-clause-ready g c = c.requires.ready.takes_in c.collect.new.self c.in-Ok.arrived.items c.in-Ok.ensures.collects

pub run_window-requires-clause-to_own : goal.run_window-requires-clause-to_own
run_window-requires-clause-to_own g c =
    arrived_have (λ (copy : RadioCopy). is_own c.args.window.now.owners.now c.args.worker.share.worker copy.to ≡ true) c.args.worker.endpoint c.collect.new.self c.in-Ok.arrived.items c.in-Ok.ensures.collects
    (subst (λ w. Each (λ (copy : RadioCopy). is_own c.args.window.now.owners.now w copy.to ≡ true) (gathered_by c.args.worker.endpoint.taker)) (sym c.requires.ready.same) c.requires.ready.own)

pub deliver-requires-clause-leaves : goal.deliver-requires-clause-leaves
deliver-requires-clause-leaves g c =
    rw c.deref-2.ensures.value
    (leaves_sent (net_of c.args.window.now.net.now) c.args.window.now.owners.now (length c.args.window.now.inboxes.now) c.collect.new.self.worker c.in_ok-outgoing.outgoing.items c.requires.ready.cut
    (subst (λ w. Each (IsOutgoing (net_of c.args.window.now.net.now) c.args.window.now.owners.now w) c.in_ok-outgoing.outgoing.items) (c.requires.ready.same ∙ sym c.in-Ok.ensures.collects.stays.worker) c.in_ok-outgoing.ensures.out))

pub returns-clause-runs : goal.returns-clause-runs
returns-clause-runs g c = record {
  arrived = c.in-Ok.arrived.items;
  outgoing = c.in_ok-outgoing.outgoing.items;
  between = c.collect.new.self;
  collects = c.in-Ok.ensures.collects;
  delivers = rw c.deref-2.ensures.value at c.in-Ok-deliver.ensures.delivers;
  endpoint = endpoint_again c.args.window.now.inboxes.now c.args.window.now.owners.now c.collect.new.self c.deliver.new.self c.deref-2.result.now c.in-Ok.ensures.endpoint c.in-Ok-deliver.ensures.delivers c.in-Ok-deliver.ensures.on_inboxes;
  runs = λ from motes keeps le short later.
      subst (λ t. RunsWindow (net_of c.args.window.now.net.now) c.args.window.now.owners.now c.args.worker.endpoint.worker from c.args.window.now.until motes t c.run_window.new.self c.in_ok-outgoing.outgoing.items)
      (sym (ap taken_by c.in-Ok-deliver.ensures.delivers.taker ∙ c.in-Ok.ensures.collects.adds))
      (c.in_ok-outgoing.ensures.window c.args.worker.endpoint.worker from motes (taken_by c.args.worker.endpoint.taker) keeps le short later);
  out = subst (λ w. Each (IsOutgoing (net_of c.args.window.now.net.now) c.args.window.now.owners.now w) c.in_ok-outgoing.outgoing.items) c.requires.ready.same c.in_ok-outgoing.ensures.out;
  first = subst (λ l. IsFirstOf l c.first_of-first_out.result) c.deref.ensures.value c.first_of-first_out.ensures.is_first_of;
}

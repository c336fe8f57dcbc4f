use Rattle.std.proofs.Common.{subst, append-nil, List, length}
use Rattle.std.specs.List.{AllByRecursion as Each}
use Rattle.mote_net.specs.Meaning.{net_of}
use Rattle.radio_packet.specs.declared.copy.RadioCopy.{RadioCopy}
use Rattle.worker_window.specs.Window.{IsOutgoing, RunsWindow}
use Rattle.window_workers.proofs.Sent.{leaves_sent}
use Rattle.window_workers.proofs.marks.thread.MarkRunner.send_window.Goals as goal

pub deliver_window-requires-clause-leaves : goal.deliver_window-requires-clause-leaves
deliver_window-requires-clause-leaves g c =
    let n = net_of c.args.self.now.run.net.now in
    let owners = c.args.self.now.run.owners.now in
    rw c.deref.ensures.value
    (leaves_sent n owners (length c.args.self.now.run.inboxes.now) c.args.worker.now.endpoint.worker c.in_ok-outgoing.outgoing.items c.requires.cut
    (subst (λ w. Each (IsOutgoing n owners w) c.in_ok-outgoing.outgoing.items) c.requires.same c.in_ok-outgoing.ensures.out))

pub returns-clause-sends : goal.returns-clause-sends
returns-clause-sends g c =
    let n = net_of c.args.self.now.run.net.now in
    let owners = c.args.self.now.run.owners.now in
    let none = c.new-none.ensures.items in
    let window = rw none at c.in_ok-outgoing.ensures.window in
    record {
      outgoing = c.in_ok-outgoing.outgoing.items;
      runs = λ worker from motes taken keeps up short.
          subst (λ (l : List RadioCopy). RunsWindow n owners worker from c.args.until motes l c.run_window.new.self c.in_ok-outgoing.outgoing.items) (append-nil taken) (window worker from motes taken keeps up short tt);
      out = c.in_ok-outgoing.ensures.out;
      pushes = rw c.deref.ensures.value at c.in-Ok.ensures.pushes;
    }

use Rattle.worker_window.proofs.TakesIn.{takes_in}
use Rattle.worker_window.proofs.share.Share.take_in.Goals as goal

pub returns : goal.returns
returns c = record {
  takes_in =
      λ n owners worker from motes taken keeps come.
      takes_in n owners worker from motes taken c.args.arrived.now c.args.self.now c.put_copies.new.self keeps come (c.in_ok-put_copies.ensures.adds keeps.agenda.items keeps.agenda.holds);
}

use Rattle.worker_window.proofs.Idle.{first_from, moved_on, least_later, empty_later, no_copies}
use Rattle.worker_window.proofs.share.Share.next.Goals as goal

pub returns-in-Some : goal.returns-in-Some
returns-in-Some c = record {
  tells_next =
      λ n owners worker from motes taken keeps.
      let share = c.args.self.now in
      let t = c.in-Some.moment in
      let m = c.in-Some.field-0-1 in
      let least = c.in-Some.ensures.least keeps.agenda.items keeps.agenda.holds in
      record {
        wakes = first_from n owners worker from motes taken share keeps t m least;
        idle = λ moment le h. moved_on n owners worker from motes taken share keeps moment le (least_later n owners worker from motes taken share keeps t m moment least h);
        no_copies = λ moment h. no_copies n owners worker from motes taken share keeps moment (least_later n owners worker from motes taken share keeps t m moment least h);
      };
}

pub returns-in-None : goal.returns-in-None
returns-in-None c = record {
  tells_next =
      λ n owners worker from motes taken keeps.
      let share = c.args.self.now in
      let empty = c.in-None.ensures.least keeps.agenda.items keeps.agenda.holds in
      record {
        wakes = tt;
        idle = λ moment le h. moved_on n owners worker from motes taken share keeps moment le (empty_later n owners worker from motes taken share keeps moment empty);
        no_copies = λ moment h. no_copies n owners worker from motes taken share keeps moment (empty_later n owners worker from motes taken share keeps moment empty);
      };
}

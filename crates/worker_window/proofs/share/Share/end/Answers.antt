use Rattle.std.proofs.Common.{◌∙◌}
use Rattle.net_agenda.specs.NetSystem.{tree_at}
use Rattle.window_laws.specs.Agenda.{packets}
use Rattle.worker_window.specs.Share.{IsBetweenWindows, mote_here}
use Rattle.worker_window.proofs.Places.{some_with, some_within}
use Rattle.worker_window.proofs.Traces.{all_kept, rest_lines, trace_at}
use Rattle.worker_window.proofs.share.Share.end.Goals as goal

pub returns : goal.returns
returns c = record {
  tells_at_end =
      λ n owners worker from motes taken keeps.
      let all = c.args.self.motes.items in
      let traces = c.in_ok-traces.traces.items in
      let are = c.in_ok-traces.ensures.traces in
      record {
        traces_kept = all_kept traces all are ∙ keeps.places;
        traces = λ k mine d.
            let there = keeps.rests k mine in
            trace_at traces all are k (some_within all k (some_with (IsBetweenWindows (tree_at n k) (motes k)) (mote_here all k) there)) d ∙ rest_lines (tree_at n k) (motes k) (mote_here all k) there;
        log = keeps.log;
        fates = keeps.fates;
        rest = packets keeps.agenda.items;
        rest_is = keeps.agenda.copies;
        left = c.in_ok-left.ensures.count keeps.agenda.items keeps.agenda.holds;
      };
}

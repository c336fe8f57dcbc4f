use Rattle.std.proofs.Common.{◌≡◌, ◌+◌, ◌<◌, length, map, None, sym, ap, ◌∙◌, subst}
use Rattle.std.specs.List.{sum_by, AllByRecursion as Each}
use Rattle.copy_exchange.specs.Inboxes.{IsSettled}
use Rattle.copy_exchange.specs.Takers.{taken_by, gathered_by}
use Rattle.mote_net.specs.Report.{report_of}
use Rattle.mote_net.specs.declared.report.Report.{Report}
use Rattle.net_agenda.proofs.Systems.{system_is}
use Rattle.window_workers.specs.Crossed.{Pair, AllCrossed}
use Rattle.worker_window.specs.declared.share.EndedShare.{EndedShare}
use Rattle.window_workers.proofs.ByWorkers.{reported_equals, all_crossed}
use Rattle.window_workers.proofs.AllTraces.{all_fates, all_places, workers_there}
use Rattle.window_workers.proofs.Logs.{as_many, places_kept, traces_kept}
use Rattle.window_workers.proofs.Pairs.{each_zip, firsts}
use Rattle.window_workers.proofs.workers.make_report.Goals as goal

pub left_of_all-requires : goal.left_of_all-requires
left_of_all-requires c = record {
  settled =
      subst (Each (λ (pair : Pair). IsSettled pair.0 pair.1)) (sym (c.deref-2.ensures.value ∙ c.in-Ok.ensures.pairs))
      (each_zip IsSettled c.args.group.inboxes.items c.args.group.takers.items c.requires.at_end.1.at.settled);
}

pub joined_traces-requires-clause-workers : goal.joined_traces-requires-clause-workers
joined_traces-requires-clause-workers c =
    let n = c.requires.at_end.0 in
    let end = c.requires.at_end.1 in
    subst (λ k. Each (λ worker. worker < k) c.args.owners.now) (sym (as_many c.in_ok-ended.ended.items c.in_ok-medium.rest.items c.in_ok-medium.ensures.traces))
    (workers_there n (system_is n end.sound.0 end.sound.1) c.args.owners.now c.args.group end.at c.in_ok-ended.ended.items c.in_ok-ended.ensures.tells_what_it_kept)

pub joined_traces-requires-clause-places : goal.joined_traces-requires-clause-places
joined_traces-requires-clause-places c =
    let n = c.requires.at_end.0 in
    let end = c.requires.at_end.1 in
    places_kept (length c.args.owners.now) c.in_ok-ended.ended.items c.in_ok-medium.rest.items c.in_ok-medium.ensures.traces
    (all_places n (system_is n end.sound.0 end.sound.1) c.args.owners.now c.args.group end.at c.in_ok-ended.ended.items c.in_ok-ended.ensures.tells_what_it_kept)

pub returns-clause-report : goal.returns-clause-report
returns-clause-report c = λ n end.
    let r : Report = record { traces = c.in_ok-traces.traces; medium = c.in_ok-medium.medium; left = c.in_ok-left.left } in
    reported_equals n end.sound.0 end.sound.1 c.args.owners.now c.args.group end.at c.in_ok-ended.ended.items c.in_ok-ended.ensures.tells_what_it_kept r
    (traces_kept c.args.owners.now c.in_ok-ended.ended.items c.in_ok-medium.rest.items c.in_ok-traces.traces.items c.in_ok-medium.ensures.traces c.in_ok-traces.ensures.are_traces_of)
    (c.in_ok-medium.ensures.log n (all_fates n (system_is n end.sound.0 end.sound.1) c.args.owners.now c.args.group end.at c.in_ok-ended.ended.items c.in_ok-ended.ensures.tells_what_it_kept))
    (subst (λ l. sum_by (λ (one : EndedShare). one.left) c.in_ok-ended.ended.items + sum_by (λ (pair : Pair). length (gathered_by pair.1)) l ≡ c.in_ok-left.left + sum_by (λ (pair : Pair). length (taken_by pair.1)) l) (c.deref-2.ensures.value ∙ c.in-Ok.ensures.pairs)
    (subst (λ l. sum_by (λ (one : EndedShare). one.left) l + sum_by (λ (pair : Pair). length (gathered_by pair.1)) c.deref-2.result.now ≡ c.in_ok-left.left + sum_by (λ (pair : Pair). length (taken_by pair.1)) c.deref-2.result.now) c.deref.ensures.value c.in_ok-left.ensures.balanced))

pub returns-clause-inboxes : goal.returns-clause-inboxes
returns-clause-inboxes c = ap (map (λ (pair : Pair). pair.0)) c.in-Ok.ensures.pairs ∙ firsts IsSettled c.args.group.inboxes.items c.args.group.takers.items c.requires.at_end.1.at.settled

pub returns-clause-settled : goal.returns-clause-settled
returns-clause-settled c =
    subst (Each (λ (pair : Pair). IsSettled pair.0 pair.1)) (sym c.in-Ok.ensures.pairs)
    (each_zip IsSettled c.args.group.inboxes.items c.args.group.takers.items c.requires.at_end.1.at.settled)

pub returns-clause-crossed : goal.returns-clause-crossed
returns-clause-crossed c = λ n end.
    let r : Report = record { traces = c.in_ok-traces.traces; medium = c.in_ok-medium.medium; left = c.in_ok-left.left } in
    subst (AllCrossed n c.args.owners.now (report_of r)) (sym c.in-Ok.ensures.pairs)
    (all_crossed n end.sound.0 end.sound.1 c.args.owners.now c.args.group end.at c.in_ok-ended.ended.items c.in_ok-ended.ensures.tells_what_it_kept (report_of r) (returns-clause-report c n end))

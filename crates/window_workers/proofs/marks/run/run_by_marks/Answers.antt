use Rattle.std.proofs.Common.{◌≡◌, ◌<◌, ◌≤◌, suc, None, ap, ◌∙◌, subst, refl}
use Rattle.std.specs.List.{AllByRecursion as Each}
use Rattle.copy_inbox.specs.Gathered.{Whole}
use Rattle.copy_inbox.specs.Handles.{TakerView}
use Rattle.mote_net.specs.Meaning.{net_of}
use Rattle.net_agenda.specs.NetSystem.{system_of}
use Rattle.window_laws.proofs.Lists.{every_weaker}
use Rattle.window_workers.specs.MarkedBounds.{windows_of}
use Rattle.window_workers.specs.MarkedRun.{GroupRunsMarked}
use Rattle.window_workers.specs.MarkedThread.{IsBeforeFirstWindow}
use Rattle.window_workers.specs.WindowLength.{length_of_window}
use Rattle.window_workers.specs.WorkerGroup.{WorkersAreAt}
use Rattle.window_workers.specs.declared.group.WorkerGroup.{WorkerGroup}
use Rattle.window_workers.specs.declared.worker.Worker.{Worker}
use mir.Syntax.{erased}
use Rattle.window_workers.proofs.Starts.{all_settled}
use Rattle.window_workers.proofs.MarkedCrossing.{runner_sync}
use Rattle.window_workers.proofs.MarkedReady.{ready, together_first, none_gathered_first}
use Rattle.window_workers.proofs.MarkedRuns.{all_back, all_on_inboxes, ended}
use Rattle.window_workers.proofs.marks.run.run_by_marks.Goals as goal

-- the last lifetime is that of the value to which the runner refers; its name in a type doesn't matter for sharing
pub run_threads-requires-sync-W : goal.run_threads-requires-sync-W
run_threads-requires-sync-W g c κs within =
    record { shared = λ x b o. (runner_sync (record { mir = erased; lft = κs.1.1.1.1.0 }) _ _ c.type_bounds.sync-R c.type_bounds.sync-G).shared x b o }

pub run_threads-requires-clause-settled : goal.run_threads-requires-clause-settled
run_threads-requires-clause-settled g c κs within = rw c.deref-2.ensures.value (all_settled c.args.group.inboxes.items c.args.group.takers.items c.requires.ready.fresh)

-- the width is the same for all workers, and each worker is in its first state
pub run_threads-requires-clause-ready : goal.run_threads-requires-clause-ready
run_threads-requires-clause-ready g c κs within =
    let n = net_of c.args.net.now in
    let owners = c.args.owners.now in
    let width = c.window_length-width.result in
    let ids = c.args.group.inboxes.items in
    let wide = c.window_length-width.ensures.above_zero in
    let short = subst (λ l. width ≤ l) c.lookahead_of.ensures.value c.window_length-width.ensures.within in
    rw (c.deref.ensures.value, c.deref-2.ensures.value) (λ workers made.
    every_weaker (IsBeforeFirstWindow n owners ids) (λ (worker : Worker). (0 < width) × (width ≤ (system_of n).lookahead) × IsBeforeFirstWindow n owners ids worker) (λ worker first. (wide, short, first)) workers
    (ready ids c.args.group.takers.items c.args.group.shares.items workers made c.requires.ready.fresh n owners c.requires.ready.cut c.requires.ready.first c.requires.marked))

pub gather_back-requires-clause-workers : goal.gather_back-requires-clause-workers
gather_back-requires-clause-workers g c =
    let n = net_of c.args.net.now in
    let ids = c.args.group.inboxes.items in
    let width = c.window_length-width.result in
    let w = rw (c.deref.ensures.value, c.deref-2.ensures.value) at c.in_ok-done.ensures.worked in
    rw (c.deref-3.ensures.value, c.in_ok-shares.ensures.endpoints)
    (all_back n c.args.owners.now width (windows_of width n.end) ids w.first c.in_ok-done.done.items
    (together_first ids c.args.group.takers.items c.args.group.shares.items w.first w.are_made c.requires.ready.fresh c.requires.ready.first.count) w.ran)

pub gather_back-requires-clause-on_inboxes : goal.gather_back-requires-clause-on_inboxes
gather_back-requires-clause-on_inboxes g c =
    let n = net_of c.args.net.now in
    let width = c.window_length-width.result in
    let w = rw (c.deref.ensures.value, c.deref-2.ensures.value) at c.in_ok-done.ensures.worked in
    rw (c.deref-3.ensures.value, c.in_ok-shares.ensures.endpoints)
    (all_on_inboxes n c.args.owners.now width (windows_of width n.end) c.args.group.inboxes.items w.first c.in_ok-done.done.items w.ran)

-- the workers at the end
abbrev after : (g : _) (c : goal.In-Ok g) → WorkerGroup
after g c = record { shares = c.in_ok-shares.shares; inboxes = c.args.group.inboxes; takers = c.in-Ok.takers; first_out = None }

-- the run of the workers
ran : (g : _) (c : goal.In-Ok g) → GroupRunsMarked (net_of c.args.net.now) c.args.owners.now c.window_length-width.result c.args.group (after g c)
ran g c =
    let ids = c.args.group.inboxes.items in
    let w = rw (c.deref.ensures.value, c.deref-2.ensures.value) at c.in_ok-done.ensures.worked in
    record {
      first = w.first;
      done = c.in_ok-done.done.items;
      together = together_first ids c.args.group.takers.items c.args.group.shares.items w.first w.are_made c.requires.ready.fresh c.requires.ready.first.count;
      none_gathered = none_gathered_first ids c.args.group.takers.items c.args.group.shares.items w.first w.are_made c.requires.ready.fresh c.requires.ready.first.count;
      ran = w.ran;
      shares = c.in_ok-shares.ensures.shares;
      back = rw c.in_ok-shares.ensures.endpoints at c.in-Ok.ensures.gathers_back;
      inboxes = refl;
      first_out = refl;
    }

-- so the workers are at the end
at_end : (g : _) (c : goal.In-Ok g) → WorkersAreAt (net_of c.args.net.now) c.args.owners.now (suc (net_of c.args.net.now).end) (after g c) × Each (λ (t : TakerView). Whole t.state.gathered t.state.taken) c.in-Ok.takers.items
at_end g c =
    let short = subst (λ l. c.window_length-width.result ≤ l) c.lookahead_of.ensures.value c.window_length-width.ensures.within in
    ended (net_of c.args.net.now) c.lookahead_of.ensures.forward c.args.owners.now c.window_length-width.result c.window_length-width.ensures.above_zero short c.args.group (after g c) c.requires.ready.cut (ran g c)

pub returns-clause-at_moment : goal.returns-clause-at_moment
returns-clause-at_moment g c = (at_end g c).0

pub returns-clause-all_taken : goal.returns-clause-all_taken
returns-clause-all_taken g c = (at_end g c).1

pub returns-clause-windows : goal.returns-clause-windows
returns-clause-windows g c =
    let n = net_of c.args.net.now in
    subst (λ width. GroupRunsMarked n c.args.owners.now width c.args.group (after g c))
    (c.window_length-width.ensures.value ∙ ap (λ l. length_of_window l c.args.longest) c.lookahead_of.ensures.value) (ran g c)

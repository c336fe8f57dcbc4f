use Rattle.std.proofs.Common.{refl}
use Rattle.mote_net.specs.Meaning.{net_of}
use mir.Syntax.{erased}
use Rattle.window_workers.proofs.JoinedCrossing.{runner_sync}
use Rattle.window_workers.proofs.JoinedReady.{ready}
use Rattle.window_workers.proofs.JoinedReturned.{ran, returned}
use Rattle.window_workers.proofs.joins.window.run_window.Goals as goal

-- the last lifetime is that of the value to which the runner refers; its name in a type doesn't matter for sharing
pub run_threads-requires-sync-W : goal.run_threads-requires-sync-W
run_threads-requires-sync-W g c κs within =
    record { shared = λ x b o. (runner_sync (record { mir = erased; lft = κs.1.1.1.1.0 }) _ _ c.type_bounds.sync-R c.type_bounds.sync-G).shared x b o }

pub run_threads-requires-clause-ready : goal.run_threads-requires-clause-ready
run_threads-requires-clause-ready g c κs within =
    rw (c.deref.ensures.value, c.deref-2.ensures.value)
    (ready (net_of c.args.net.now) c.args.owners.now c.requires.in_state.0 c.args.until c.args.group c.requires.in_state.1 c.requires.in_state.2 c.requires.until_bounded c.requires.plain)

pub gather_window-requires : goal.gather_window-requires
gather_window-requires g c = record {
  all_return =
      let worked = rw (c.deref.ensures.value, c.deref-2.ensures.value) at c.in_ok-done.ensures.worked in
      rw (c.deref-4.ensures.value, c.in_ok-shares.ensures.endpoints)
      (returned (net_of c.args.net.now) c.args.owners.now c.requires.in_state.0 c.args.until c.args.group c.requires.in_state.1 c.in_ok-done.done.items worked);
}

pub returns-clause-runs : goal.returns-clause-runs
returns-clause-runs g c =
    let worked = rw (c.deref.ensures.value, c.deref-2.ensures.value) at c.in_ok-done.ensures.worked in
    record {
      endpoints = worked.are_made.endpoints;
      done = c.in_ok-done.done.items;
      together = worked.are_made.together;
      starts = worked.are_made.starts;
      ran = ran (net_of c.args.net.now) c.args.owners.now c.requires.in_state.0 c.args.until c.args.group c.requires.in_state.1 c.in_ok-done.done.items worked;
      shares = c.in_ok-shares.ensures.shares;
      gathering = rw c.in_ok-shares.ensures.endpoints at c.in-Ok.ensures.gathers;
      settled = rw c.deref-4.ensures.value at c.in-Ok.ensures.settled;
      inboxes = refl;
      first = rw c.deref-3.ensures.value at c.first_of_all-first_out.ensures.first_of_all;
    }

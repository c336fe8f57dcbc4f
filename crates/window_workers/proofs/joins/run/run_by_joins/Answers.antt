use Rattle.std.proofs.Common.{◌≡◌, ◌∙◌, ℕ, suc, ◌<◌, ◌≤◌, ap, sym, refl, subst, arith}
use Rattle.mote_net.specs.Meaning.{net_of}
use Rattle.net_agenda.specs.NetSystem.{system_of}
use Rattle.window_workers.specs.JoinedLaws.{GroupRunsUntil}
use Rattle.window_workers.specs.JoinedRun.{BeginsAt, GroupRunsNext}
use Rattle.window_workers.specs.WindowLength.{end_of_window, length_of_window}
use Rattle.window_workers.specs.declared.group.WorkerGroup.{WorkerGroup}
use Rattle.window_workers.proofs.JoinedMoved.{moved}
use Rattle.window_workers.proofs.JoinedRuns.{begins_later, short_enough, in_state_there}
use Rattle.window_workers.proofs.joins.run.run_by_joins.Goals as goal

pub windows-init : goal.windows-init
windows-init g c = record {
  at = in_state_there (net_of c.args.net.now) c.args.owners.now 0 c.end-end.result c.args.group c.window_start-from.result c.requires.at_moment (omega arith) c.window_start-from.ensures.value c.lookahead_of.ensures.forward;
  plain = c.requires.plain;
  early = c.window_start-from.ensures.within;
  inboxes = refl;
  windows = (0, refl);
  begins = subst (λ (e : ℕ). BeginsAt e c.args.group c.window_start-from.result) c.end-end.ensures.value c.window_start-from.ensures.value;
}

pub windows-smaller : goal.windows-smaller
windows-smaller g c =
    let up = c.window_end-until.ensures.later in
    let short = short_enough c.windows.from c.window_length-width.result c.lookahead_of.result _ c.window_end-until.result c.window_end-until.ensures.short c.window_length-width.ensures.within c.lookahead_of.ensures.value in
    let then = moved (net_of c.args.net.now) c.lookahead_of.ensures.forward c.args.owners.now c.windows.from c.window_end-until.result c.windows.group c.in_ok-group.group c.windows.invariant.at up short c.in_ok-group.ensures.runs in
    let on = begins_later (net_of c.args.net.now) c.args.owners.now c.window_end-until.result c.end-end.result c.in_ok-group.group _ then c.window_end-until.ensures.within c.window_start-from-in-windows.ensures.value in
    let there = c.windows-test.true in
    omega arith

pub windows-preserved : goal.windows-preserved
windows-preserved g c =
    let up = c.window_end-until.ensures.later in
    let short = short_enough c.windows.from c.window_length-width.result c.lookahead_of.result _ c.window_end-until.result c.window_end-until.ensures.short c.window_length-width.ensures.within c.lookahead_of.ensures.value in
    let then = moved (net_of c.args.net.now) c.lookahead_of.ensures.forward c.args.owners.now c.windows.from c.window_end-until.result c.windows.group c.in_ok-group.group c.windows.invariant.at up short c.in_ok-group.ensures.runs in
    let n = net_of c.args.net.now in
    let width = length_of_window (system_of n).lookahead c.args.longest in
    let is : c.window_end-until.result ≡ end_of_window n.end width c.windows.from =
    c.window_end-until.ensures.value
    ∙ (ap (λ e. end_of_window e c.window_length-width.result c.windows.from) c.end-end.ensures.value
    ∙ ap (λ l. end_of_window n.end l c.windows.from) (c.window_length-width.ensures.value ∙ ap (λ l. length_of_window l c.args.longest) c.lookahead_of.ensures.value)) in
    -- the window that was run is the next one
    let next : GroupRunsNext n c.args.owners.now width c.windows.group c.in_ok-group.group = record {
      from = c.windows.from;
      begins = c.windows.invariant.begins;
      there = (let end = c.end-end.ensures.value in let before = c.windows-test.true in omega arith);
      runs = subst (λ (until : ℕ). GroupRunsUntil n c.args.owners.now until c.windows.group c.in_ok-group.group) is c.in_ok-group.ensures.runs;
    } in
    record {
      at = in_state_there (net_of c.args.net.now) c.args.owners.now c.window_end-until.result c.end-end.result c.in_ok-group.group _ then c.window_end-until.ensures.within c.window_start-from-in-windows.ensures.value c.lookahead_of.ensures.forward;
      plain = c.in_ok-group.ensures.plain;
      early = c.window_start-from-in-windows.ensures.within;
      inboxes = c.in_ok-group.ensures.runs.inboxes ∙ c.windows.invariant.inboxes;
      windows = (suc c.windows.invariant.windows.0, (c.windows.group, c.windows.invariant.windows.1, next));
      begins = subst (λ (e : ℕ). BeginsAt e c.in_ok-group.group c.window_start-from-in-windows.result) c.end-end.ensures.value c.window_start-from-in-windows.ensures.value;
    }

pub returns-clause-windows : goal.returns-clause-windows
returns-clause-windows g c = record {
  windows = c.windows.invariant.windows.0;
  runs = c.windows.invariant.windows.1;
  next = c.windows.from;
  begins = c.windows.invariant.begins;
  over = (let end = c.end-end.ensures.value in let after = c.windows-test.false in omega arith);
}

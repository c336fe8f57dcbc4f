use Rattle.std.proofs.Common.{rules, ◌≡◌, ◌≤◌, ℕ, List, length, map, vec_len, Vec, None, sym, ap, ◌∙◌, subst}
use Rattle.std.proofs.lemmas.List.{length-map}
use Rattle.std.specs.List.{AllZip, zip, AllByRecursion as Each}
use Rattle.std.specs.Prelude.{All, IfOk}
use Rattle.std.specs.declared.alloc.Global.{Global}
use Rattle.copy_exchange.specs.Inboxes.{IsFresh, IsSettled}
use Rattle.copy_inbox.specs.Gathered.{known_of}
use Rattle.copy_inbox.specs.Handles.{InboxId, TakerView}
use Rattle.kernel_laws.specs.Going.{IsInOrder}
use Rattle.mote_net.specs.Meaning.{net_of}
use Rattle.mote_net.specs.Net.{NetModel}
use Rattle.mote_net.specs.Report.{report_of}
use Rattle.mote_net.specs.declared.report.Report.{Report}
use Rattle.serial_run.specs.NetRun.{IsReportOf}
use Rattle.trace_lines.specs.declared.line.Line.{Line}
use Rattle.window_workers.specs.Crossed.{Pair, AllCrossed}
use Rattle.window_workers.specs.Fits.{cut_fault}
use Rattle.window_workers.specs.Over.{AreAtEnd}
use Rattle.window_workers.specs.Start.{AreFirst}
use Rattle.window_workers.specs.Sync.{IsForKind}
use Rattle.window_workers.specs.WorkerGroup.{IsCut}
use Rattle.window_workers.specs.declared.sync.SyncKind.TheVariants.{Marks}
use Rattle.window_workers.proofs.ByWorkers.{one_trace_each, all_hand_on}
use Rattle.window_workers.proofs.Fitting.{fits_is}
use Rattle.window_workers.proofs.NoneKnown.{none_known}
use Rattle.window_workers.proofs.Pairs.{zip_each, seconds_have, if_ok, all_ok}
use Rattle.window_workers.proofs.workers.run_fitting.Goals as goal

long_as : (v : Vec (Vec Line Global) Global) → vec_len v ≡ length v.items
long_as v = search rules

-- the partition is one among the workers of these inboxes, of which there are at most 16
is_cut : (motes : ℕ) (pairs : List Pair) (inboxes : List InboxId) (owners : List ℕ) → cut_fault motes (length pairs) owners ≡ None → inboxes ≡ map (λ (pair : Pair). pair.0) pairs
    → (length inboxes ≤ 16) × IsCut motes (length inboxes) owners
is_cut motes pairs inboxes owners none same =
    let long : length pairs ≡ length inboxes = sym (length-map pairs (λ (pair : Pair). pair.0)) ∙ ap length (sym same) in
    subst (λ k. (k ≤ 16) × IsCut motes k owners) long (fits_is motes (length pairs) owners none)

are_fresh : (pairs : List Pair) (inboxes : List InboxId) (takers : List TakerView) → inboxes ≡ map (λ (pair : Pair). pair.0) pairs → takers ≡ map (λ (pair : Pair). pair.1) pairs → Each (λ (pair : Pair). IsFresh pair.0 pair.1) pairs
    → AllZip IsFresh inboxes takers
are_fresh pairs inboxes takers e f fresh =
    subst (λ l. AllZip IsFresh l takers) (sym e) (subst (λ l. AllZip IsFresh (map (λ (pair : Pair). pair.0) pairs) l) (sym f) (zip_each IsFresh pairs fresh))

pub new-requires-clause-cut : goal.new-requires-clause-cut
new-requires-clause-cut g c =
    rw c.as_slice-owners.ensures.value
    (is_cut (length (net_of c.args.net.now).motes) c.args.pairs.items c.in-Ok.inboxes.items c.args.cut.now.of.items c.requires.fits c.in-Ok.ensures.inboxes).1

pub new-requires-clause-fresh : goal.new-requires-clause-fresh
new-requires-clause-fresh g c = are_fresh c.args.pairs.items c.in-Ok.inboxes.items c.in-Ok.takers.items c.in-Ok.ensures.inboxes c.in-Ok.ensures.takers c.requires.fresh

pub run_by_kind-requires-clause-ready : goal.run_by_kind-requires-clause-ready
run_by_kind-requires-clause-ready g c κs within =
    let n = net_of c.args.net.now in
    let owners = c.as_slice-owners.result.now in
    let group = c.in-Ok-new.group in
    let inboxes = c.in-Ok-new.ensures.inboxes.0 ∙ c.in-Ok.ensures.inboxes in
    let takers = c.in-Ok-new.ensures.inboxes.1 ∙ c.in-Ok.ensures.takers in
    let fits : (length group.inboxes.items ≤ 16) × IsCut (length n.motes) (length group.inboxes.items) owners =
    rw c.as_slice-owners.ensures.value (is_cut (length n.motes) c.args.pairs.items group.inboxes.items c.args.cut.now.of.items c.requires.fits inboxes) in
    record {
      few = fits.0;
      cut = fits.1;
      fresh = are_fresh c.args.pairs.items group.inboxes.items group.takers.items inboxes takers c.requires.fresh;
      first = subst (λ l. AreFirst n owners (length l) group.shares.items) (sym c.in-Ok-new.ensures.inboxes.0) c.in-Ok-new.ensures.first;
    }

pub run_by_kind-requires-clause-kind : goal.run_by_kind-requires-clause-kind
run_by_kind-requires-clause-kind g c κs within =
    subst (Each (IsForKind c.args.sync)) (sym (c.in-Ok-new.ensures.inboxes.1 ∙ c.in-Ok.ensures.takers)) (seconds_have (IsForKind c.args.sync) c.args.pairs.items c.requires.kind)

pub make_report-requires : goal.make_report-requires
make_report-requires g c = record { at_end = (net_of c.args.net.now, c.in_ok-group.ensures.at_end) }

pub returns-clause-report : goal.returns-clause-report
returns-clause-report g c =
    let n = net_of c.args.net.now in
    if_ok (λ (r : Report × Vec Pair Global). (m : NetModel) → AreAtEnd m c.as_slice-owners.result.now c.in_ok-group.group → IsReportOf m (report_of r.0))
    (λ (r : Report × Vec Pair Global). IsReportOf n (report_of r.0)) c.make_report.result (λ r h. h n c.in_ok-group.ensures.at_end) c.make_report.ensures.report

pub returns-clause-traces : goal.returns-clause-traces
returns-clause-traces g c =
    let n = net_of c.args.net.now in
    if_ok (λ (r : Report × Vec Pair Global). IsReportOf n (report_of r.0))
    (λ (r : Report × Vec Pair Global). (vec_len r.0.traces ≡ length n.motes) × All (λ (v : Vec Line Global). IsInOrder v.items) r.0.traces.items)
    c.make_report.result (λ r h. (long_as r.0.traces ∙ one_trace_each n r.0 h, all_hand_on n r.0 h)) (returns-clause-report g c)

pub returns-clause-crossed : goal.returns-clause-crossed
returns-clause-crossed g c =
    let n = net_of c.args.net.now in
    let owners = c.as_slice-owners.result.now in
    subst (λ l. IfOk c.make_report.result (λ (r : Report × Vec Pair Global). AllCrossed n l (report_of r.0) r.1.items)) c.as_slice-owners.ensures.value
    (if_ok (λ (r : Report × Vec Pair Global). (m : NetModel) → AreAtEnd m owners c.in_ok-group.group → AllCrossed m owners (report_of r.0) r.1.items)
    (λ (r : Report × Vec Pair Global). AllCrossed n owners (report_of r.0) r.1.items) c.make_report.result (λ r h. h n c.in_ok-group.ensures.at_end) c.make_report.ensures.crossed)

pub returns-clause-inboxes : goal.returns-clause-inboxes
returns-clause-inboxes g c =
    let group = c.in_ok-group.group in
    let ids : List Pair → List InboxId = map (λ (pair : Pair). pair.0) in
    let Same : Report × Vec Pair Global → Type 0 = λ r. ids r.1.items ≡ ids c.args.pairs.items in
    let AllSettled : Report × Vec Pair Global → Type 0 = λ r. Each (λ (pair : Pair). IsSettled pair.0 pair.1) r.1.items in
    let Known : List Pair → Type 0 = Each (λ (pair : Pair). known_of pair.1.state.gathered pair.1.state.taken ≡ 0) in
    let NoneKnown : Report × Vec Pair Global → Type 0 = λ r. c.args.sync ≡ Marks → Known r.1.items in
    let back = c.in_ok-group.ensures.inboxes ∙ (c.in-Ok-new.ensures.inboxes.0 ∙ c.in-Ok.ensures.inboxes) in
    all_ok Same AllSettled NoneKnown c.make_report.result
    (if_ok (λ (r : Report × Vec Pair Global). ids r.1.items ≡ group.inboxes.items) Same c.make_report.result (λ r e. e ∙ back) c.make_report.ensures.inboxes)
    c.make_report.ensures.settled
    (if_ok (λ (r : Report × Vec Pair Global). r.1.items ≡ zip group.inboxes.items group.takers.items) NoneKnown c.make_report.result
    (λ r e marks. subst Known (sym e) (none_known group.inboxes.items group.takers.items (c.in_ok-group.ensures.all_taken marks))) c.make_report.ensures.pairs)

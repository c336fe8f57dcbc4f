use Rattle.std.proofs.Common.{refl}
use Rattle.mote_net.specs.Meaning.{net_of}
use Rattle.serial_run.proofs.Reports.{report_is, all_live}
use Rattle.serial_run.proofs.serial.run_with_faults.Goals as goal

pub run_to_end-requires-clause-boot : goal.run_to_end-requires-clause-boot
run_to_end-requires-clause-boot c = c.in_ok-engine.ensures.in_state c.args.faults.now

pub returns-clause-report : goal.returns-clause-report
returns-clause-report c =
    let n = net_of c.args.net.now in
    let at = c.in_ok-run_to_end.ensures.ended in
    let whole = c.in_ok-run_to_end.ensures.is_whole in
    report_is c.args.faults.now n c.run_to_end.new.engine _ (record { motes = whole.motes; wakes = whole.wakes; traces = whole.traces }) at refl refl (c.in_ok-left.ensures.count at.last.agenda at.in_state.agenda)

pub returns-clause-lives : goal.returns-clause-lives
returns-clause-lives c =
    let n = net_of c.args.net.now in
    let whole = c.in_ok-run_to_end.ensures.is_whole in
    all_live c.args.faults.now n c.run_to_end.new.engine (record { motes = whole.motes; wakes = whole.wakes; traces = whole.traces }) c.in_ok-run_to_end.ensures.ended

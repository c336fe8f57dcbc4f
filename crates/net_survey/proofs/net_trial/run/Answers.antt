use Rattle.mote_net.specs.Meaning.{net_of}
use Rattle.net_survey.proofs.Determined.{run_is}
use Rattle.net_survey.proofs.net_trial.run.Goals as goal

pub returns : goal.returns
returns c =
    let medium = c.check_medium.ensures in
    record { is_report = run_is (net_of c.args.net.now) medium.no_fault medium.placed c.args.faults.now c.run_with_faults.result c.run_with_faults.ensures.report }

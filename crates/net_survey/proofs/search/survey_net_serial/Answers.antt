use Rattle.mote_net.specs.Meaning.{net_of}
use Rattle.net_survey.proofs.Determined.{surveyed}
use Rattle.net_survey.proofs.search.survey_net_serial.Goals as goal

pub returns : goal.returns
returns c =
    let medium = c.check_medium.ensures in
    record {
      is_survey_of = surveyed (net_of c.args.net.now) medium.no_fault medium.placed c.args.claims.now c.args.candidates.now c.args.limits c.survey.result c.survey.ensures.is_survey;
    }

use mir.Syntax.{erased}
use Rattle.mote_net.specs.Meaning.{net_of}
use Rattle.net_survey.proofs.Crossing.{trial_sync}
use Rattle.net_survey.proofs.Determined.{surveyed}
use Rattle.net_survey.proofs.search.survey_net.Goals as goal

pub returns : goal.returns
returns g c =
    let medium = c.check_medium.ensures in
    record {
      is_survey_of = surveyed (net_of c.args.net.now) medium.no_fault medium.placed c.args.claims.now c.args.candidates.now c.args.limits c.survey_in_threads.result c.survey_in_threads.ensures.is_survey;
    }

-- the lifetime is that of the net; its name in a type doesn't matter for sharing
pub survey_in_threads-requires-sync-T : goal.survey_in_threads-requires-sync-T
survey_in_threads-requires-sync-T g c κs within = record { shared = λ x b o. (trial_sync (record { mir = erased; lft = κs.1.1.1.1.0 })).shared x b o }

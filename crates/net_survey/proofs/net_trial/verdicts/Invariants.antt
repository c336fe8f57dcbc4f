use Rattle.mote_net.specs.Report.{report_of}
use Rattle.net_survey.specs.Judged.{claim_holds}
use Rattle.survey.specs.Answers.{AreAnswers}
use Rattle.net_survey.proofs.net_trial.verdicts.Given as goal

abbrev pub invariant-loop-number : goal.invariant-loop-number
invariant-loop-number l = AreAnswers (claim_holds l.claims (report_of l.report)) l.number l.all.items

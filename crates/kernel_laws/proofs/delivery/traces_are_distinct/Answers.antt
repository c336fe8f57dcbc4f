use Rattle.kernel_laws.proofs.StartsAndHalts.{others_broken}
use Rattle.kernel_laws.proofs.Broken.{broken}
use Rattle.kernel_laws.proofs.Whole.{pass, whole}
use Rattle.kernel_laws.proofs.delivery.traces_are_distinct.Goals as goal

pub returns-clause-traces_that_deliver : goal.returns-clause-traces_that_deliver
returns-clause-traces_that_deliver c = whole

pub returns-clause-broken : goal.returns-clause-broken
returns-clause-broken c = broken

pub returns-clause-unseen : goal.returns-clause-unseen
returns-clause-unseen c = pass

pub returns-clause-others : goal.returns-clause-others
returns-clause-others c = others_broken

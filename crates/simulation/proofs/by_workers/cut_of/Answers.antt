use Rattle.std.proofs.Common.{◌≡◌, None, ap, ◌∙◌}
use Rattle.std.proofs.lemmas.Result.{IfOk-weaker}
use Rattle.copy_exchange.specs.Cut.{block_cut, stripe_cut}
use Rattle.window_workers.specs.Fits.{cut_fault}
use Rattle.simulation.proofs.Cuts.{block_fits, stripe_fits}
use Rattle.simulation.proofs.by_workers.cut_of.Goals as goal

pub returns-in-Block-clause-fits : goal.returns-in-Block-clause-fits
returns-in-Block-clause-fits c =
    let a = c.args in
    IfOk-weaker c.block.result (λ cut. cut.of.items ≡ block_cut a.motes a.workers) (λ cut. cut_fault a.motes a.workers cut.of.items ≡ None)
    (λ cut is. ap (cut_fault a.motes a.workers) is ∙ block_fits a.motes a.workers c.requires.motes c.requires.workers) c.block.ensures.owners

pub returns-in-Stripe-clause-fits : goal.returns-in-Stripe-clause-fits
returns-in-Stripe-clause-fits c =
    let a = c.args in
    IfOk-weaker c.stripe.result (λ cut. cut.of.items ≡ stripe_cut a.motes a.workers) (λ cut. cut_fault a.motes a.workers cut.of.items ≡ None)
    (λ cut is. ap (cut_fault a.motes a.workers) is ∙ stripe_fits a.motes a.workers c.requires.motes c.requires.workers) c.stripe.ensures.owners

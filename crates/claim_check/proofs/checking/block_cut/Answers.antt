use Rattle.std.proofs.Common.{◌≡◌, None, ap, ◌∙◌}
use Rattle.std.proofs.lemmas.Result.{IfOk-weaker}
use Rattle.copy_exchange.specs.Cut.{block_cut}
use Rattle.window_workers.specs.Fits.{cut_fault}
use Rattle.simulation.proofs.Cuts.{block_fits}
use Rattle.claim_check.proofs.checking.block_cut.Goals as goal

pub returns : goal.returns
returns c = record {
  fits =
      let a = c.args in
      IfOk-weaker c.block.result (λ cut. cut.of.items ≡ block_cut a.motes a.workers) (λ cut. cut_fault a.motes a.workers cut.of.items ≡ None)
      (λ cut is. ap (cut_fault a.motes a.workers) is ∙ block_fits a.motes a.workers c.requires.motes c.requires.workers) c.block.ensures.owners;
}

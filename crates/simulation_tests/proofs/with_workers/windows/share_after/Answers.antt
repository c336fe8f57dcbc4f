use Rattle.std.proofs.Common.{subst, sym, zero-le}
use Rattle.std.specs.List.{AllByRecursion}
use Rattle.simulation_tests.proofs.with_workers.windows.share_after.Goals as goal

pub run_window-requires-clause-ready : goal.run_window-requires-clause-ready
run_window-requires-clause-ready g c = record {
  worker = 0;
  from = 0;
  motes = _;
  taken = _;
  keeps = c.in_ok-share.ensures.keeps;
  order = zero-le;
  expected = subst (AllByRecursion _) (sym c.new-2.ensures.items) tt;
}

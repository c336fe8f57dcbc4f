use Rattle.std.proofs.Common.{◌≡◌, ◌+◌, suc, length, None}
use Rattle.fork_join.specs.Kept.{AllPromised}
use Rattle.fork_join.proofs.fork.fork_all.Given as goal

abbrev pub invariant-loop-worker : goal.invariant-loop-worker
invariant-loop-worker g l = record {
  going : l.refused ≡ None;
  promised : AllPromised l.work l.yielded l.started.items;
  parts : l.all.parts + length l.yielded ≡ suc (length l.fn.workers.items);
  none : l.all.amount ≡ 0;
}

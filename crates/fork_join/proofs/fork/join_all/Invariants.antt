use Rattle.std.proofs.Common.{◌≡◌, ◌+◌, length, None}
use Rattle.fork_join.specs.Kept.{AllKept}
use Rattle.fork_join.proofs.Tokens.{HaveTokens}
use Rattle.fork_join.proofs.fork.join_all.Given as goal

-- If nothing has failed so far, each thread has kept its promise.
abbrev pub invariant-loop-handle : goal.invariant-loop-handle
invariant-loop-handle g l = record {
  kept : l.failed ≡ None → AllKept g.W.Work.makes l.yielded l.done.items;
  parts : l.all.parts ≡ l.fn.all.parts + length l.yielded;
  tokens : l.fn.all.amount ≡ 0 → HaveTokens l.failed l.all.amount;
}

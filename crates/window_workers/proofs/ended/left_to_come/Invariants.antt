use Rattle.std.proofs.Common.{◌≡◌, take}
use Rattle.std.specs.List.{sum_by}
use Rattle.worker_window.specs.declared.share.EndedShare.{EndedShare}
use Rattle.window_workers.proofs.ended.left_to_come.Given as goal

abbrev pub invariant-loop-one : goal.invariant-loop-one
invariant-loop-one l = l.left ≡ sum_by (λ (one : EndedShare). one.left) (take l.one-index l.ended)

use Rattle.std.proofs.Common.{ℕ, ◌<◌, slice_index_or}
use Rattle.copy_exchange.proofs.heard.all_past.Given as goal

abbrev pub invariant-loop-sender : goal.invariant-loop-sender
invariant-loop-sender l = (s none : ℕ) → s < l.sender → l.window < slice_index_or l.marks s none

use Rattle.std.proofs.Common.{◌≡◌, ℕ, ◌<◌, ◌≤◌, length, slice_index, slice_index_or, Vec}
use Rattle.std.specs.declared.alloc.Global.{Global}
use Rattle.trace_lines.specs.declared.line.Line.{Line}
use Rattle.window_workers.specs.Over.{reported_trace}
use Rattle.worker_window.specs.declared.share.EndedShare.{EndedShare}
use Rattle.window_workers.proofs.traces.joined_traces.Given as goal

abbrev pub invariant-loop-mote : goal.invariant-loop-mote
invariant-loop-mote l = record {
  count : length l.traces.items ≡ l.mote;
  long : length l.ended.items ≡ length l.fn.ended.items;
  places : (w : ℕ) (d : EndedShare) → length (slice_index_or l.ended.items w d).traces.items ≡ length (slice_index_or l.fn.ended.items w d).traces.items;
  taken : (k : ℕ) (d : EndedShare) (e : Vec Line Global) → k < l.mote → slice_index_or l.traces.items k e ≡ reported_trace l.fn.ended.items (slice_index l.owners k) k d e;
  left : (w k : ℕ) (d : EndedShare) (e : Vec Line Global) → l.mote ≤ k → reported_trace l.ended.items w k d e ≡ reported_trace l.fn.ended.items w k d e;
}

-- The results of the workers at the end.
use Rattle.std.specs.Prelude.{ℕ, suc, ◌≡◌, ◌<◌, Bool, List, length, map, slice_index, slice_index_or, Vec}
use Rattle.std.specs.Prelude.{IsPermutation}
use Rattle.std.specs.List.{flat_map}
use Rattle.std.specs.List.Sorted.{IsSortedBy}
use Rattle.std.specs.declared.alloc.Global.{Global}
use Rattle.trace_lines.specs.declared.line.Line.{Line}
use Rattle.radio_packet.specs.declared.sent.Sent.{Sent}
use Rattle.radio_packet.specs.declared.copy.RadioCopy.{RadioCopy}
use Rattle.mote_net.specs.Net.{NetModel}
use Rattle.window_laws.specs.Sorts.{is_sooner}
use Rattle.worker_window.specs.declared.share.Share.{Share}
use Rattle.worker_window.specs.declared.share.EndedShare.{EndedShare}
use Rattle.worker_window.specs.Share.{Motes, IsWholeShare}
use Rattle.worker_window.specs.Ended.{TellsAtEnd}
use Rattle.worker_window.specs.Log.{packets_in}
use Rattle.window_workers.specs.declared.group.WorkerGroup.{WorkerGroup}
use Rattle.window_workers.specs.WindowLength.{HasSoundMedium}
use Rattle.window_workers.specs.WorkerGroup.{WorkersAreAt}
use Rattle.mote_net.specs.declared.report.LogLine.{LogLine}
use Rattle.mote_net.specs.Report.{Packet}
use Rattle.serial_run.specs.NetRun.{packet_with_fates}

-- the workers of a net at its end
pub record AreAtEnd (model : NetModel) (owners : List ℕ) (group : WorkerGroup) : Type 0 where
  pub sound : HasSoundMedium model
  pub at : WorkersAreAt model owners (suc model.end) group

-- taking a share apart returns the share's contents
abbrev pub TellsWhatItKept : Share → EndedShare → Type 0
TellsWhatItKept share ended = (model : NetModel) (owners : List ℕ) (worker from : ℕ) (motes : Motes)
    (taken : List RadioCopy)
    → IsWholeShare model owners worker from motes taken share → TellsAtEnd model owners worker from motes taken ended

-- the packets of all workers with their fates, one worker after another
abbrev pub log_lines_of : List EndedShare → List LogLine
log_lines_of ended = flat_map (λ one. one.log.items) ended

-- the packets of all workers without their fates, one worker after another
abbrev pub logs_of : List EndedShare → List Sent
logs_of ended = flat_map (λ one. packets_in one.log.items) ended

-- the lines of several logs, one log after another
abbrev pub log_lines_in : List (Vec LogLine Global) → List LogLine
log_lines_in logs = flat_map (λ log. log.items) logs

-- one line is before another: by moment, then sender, then number of their packets
abbrev pub is_sooner_line : LogLine → LogLine → Bool
is_sooner_line a b = is_sooner a.sent b.sent

-- the worker has a trace for the mote with this number
abbrev pub HasTrace : (worker mote : ℕ) → List EndedShare → Type 0
HasTrace worker mote ended = (d : EndedShare) → mote < length (slice_index_or ended worker d).traces.items

-- the new results have the same traces as the old results
abbrev pub KeepsTraces : EndedShare → EndedShare → Type 0
KeepsTraces old new = new.traces ≡ old.traces

-- the log has these packets by moment, then sender, then number, each with the fates of its copies
pub record IsLogOf (model : NetModel) (sends : List Sent) (log : List Packet) : Type 0 where
  pub sorted : List Sent
  pub same : IsPermutation sends sorted
  pub in_order : IsSortedBy is_sooner sorted
  pub matches : log ≡ map (packet_with_fates model.radio) sorted

-- the trace of one mote that one worker reports
abbrev pub reported_trace : List EndedShare → (worker mote : ℕ) → EndedShare → Vec Line Global → Vec Line Global
reported_trace ended worker mote d e = slice_index_or (slice_index_or ended worker d).traces.items mote e

-- one mote's trace was taken from one worker, and no trace of another mote was taken
pub record TakesOneTrace (worker mote : ℕ) (old new : List EndedShare) (trace : Vec Line Global) : Type 0 where
  pub taken : (d : EndedShare) (e : Vec Line Global) → trace ≡ reported_trace old worker mote d e
  pub count : length new ≡ length old
  pub places : (w : ℕ) (d : EndedShare) → length (slice_index_or new w d).traces.items
      ≡ length (slice_index_or old w d).traces.items
  pub others : (w k : ℕ) (d : EndedShare) (e : Vec Line Global) → (k ≡ mote → ⊥) → reported_trace new w k d e
      ≡ reported_trace old w k d e

-- each mote's trace is the trace that the mote's worker reports
pub record AreTracesOf (owners : List ℕ) (ended : List EndedShare) (traces : List (Vec Line Global)) : Type 0 where
  pub count : length traces ≡ length owners
  pub each : (k : ℕ) (d : EndedShare) (e : Vec Line Global) → k < length owners → slice_index_or traces k e
      ≡ reported_trace ended (slice_index owners k) k d e

-- The copies that are left for one worker at the end: those pending for its motes and those in its inbox.
use Rattle.std.proofs.Common.{◌≡◌, ℕ, suc, ◌+◌, ◌≤◌, false, not, ltb, List, [], ◌++◌, length, sym, ap, ◌∙◌, arith, append-nil, length-append, Option}
use Rattle.std.proofs.lemmas.Bool.Decides.{nat_tests}
use Rattle.std.proofs.lemmas.List.Elements.{filter-append}
use Rattle.std.proofs.lemmas.List.Sorted.{length_permutation}
use Rattle.std.specs.List.{filter}
use Rattle.std.specs.Prelude.{IsPermutation}
use Rattle.copy_exchange.proofs.CutWindows.{coming}
use Rattle.copy_exchange.specs.Crossed.{is_own, is_to, copies_seen}
use Rattle.copy_exchange.specs.Takers.{taken_by, gathered_by}
use Rattle.copy_inbox.specs.Handles.{TakerView}
use Rattle.mote_net.specs.Net.{NetModel}
use Rattle.net_agenda.specs.NetSystem.{system_of}
use Rattle.radio_packet.specs.declared.copy.RadioCopy.{RadioCopy}
use Rattle.window_laws.proofs.Lists.{filter_filter, filter_none, every_weaker}
use Rattle.window_laws.specs.Forward.{RunsForward}
use Rattle.window_laws.specs.Windows.{first_mote, Windows, NoneBefore, is_from_sender}
use Rattle.window_workers.specs.WorkerGroup.{IsWorkerAt}
use Rattle.worker_window.specs.Share.{Motes, is_to_come}
use Rattle.worker_window.specs.declared.share.Share.{Share}
use Rattle.window_workers.proofs.Waiting.{same_copies, rest_later, waiting, gathered_is, to_come_is}
use Rattle.serial_run.specs.Counted.{is_by}

is_late : (end at : ℕ) → suc end ≤ at → not (ltb end at) ≡ false
is_late end at h = grind (arith, nat_tests)

module _ (n : NetModel) (fine : RunsForward (system_of n)) (owners : List ℕ) (from : ℕ) (motes : Motes) (led : Windows (system_of n) 0 from (first_mote (system_of n)) motes) (first : Option ℕ) (starts : NoneBefore from first)
    (v : ℕ) (share : Share) (taker : TakerView) (here : IsWorkerAt n owners from motes first v share taker) where
  -- all copies in the inbox
  abbrev lying : List RadioCopy
  lying = waiting n fine owners from motes led first starts v share taker here

  abbrev taken_of : ℕ → List RadioCopy
  taken_of s = filter (is_from_sender s) (taken_by taker)

  -- this worker's part of the copies left
  pub left_here : (left : ℕ) (rest : List RadioCopy) → left ≡ length rest → ((s : ℕ) → filter (is_from_sender s) rest ≡ filter (is_to_come (is_own owners v) from) (copies_seen (system_of n) (is_own owners v) motes (taken_by taker) s))
      → left + length (gathered_by taker) ≡ length (filter (is_to owners v) (coming (system_of n) fine from motes)) + length (taken_by taker)
  left_here left rest is matches =
      let gathered = length_permutation (gathered_by taker) (taken_by taker ++ lying) (gathered_is n fine owners from motes led first starts v share taker here) in
      let comes = length_permutation (filter (is_to owners v) (coming (system_of n) fine from motes)) (rest ++ lying) (to_come_is n fine owners from motes led first starts v share taker here rest matches) in
      let taken_and = length-append (taken_by taker) lying in
      let rest_and = length-append rest lying in
      omega arith

  -- the gathered copies that arrive no later than the end were taken
  pub taken_by_end : (end : ℕ) → from ≡ suc end → IsPermutation (filter (is_by end) (gathered_by taker)) (filter (is_by end) (taken_by taker))
  taken_by_end end is = same_copies (filter (is_by end) (gathered_by taker)) (filter (is_by end) (taken_by taker)) each
    where
      past : from ≡ suc end → (at : ℕ) → from ≤ at → not (ltb end at) ≡ false
      past e at h = is_late end at (omega arith)

      none : (s : ℕ) → filter (is_by end) ((here.waits s).rest) ≡ []
      none s =
          filter_none (is_by end) ((here.waits s).rest)
          (every_weaker (λ (c : RadioCopy). from ≤ c.at) (λ c. is_by end c ≡ false) (λ c h. past is c.at h) ((here.waits s).rest) (rest_later n fine owners from motes led first starts v share taker here s))

      each : (s : ℕ) → filter (is_from_sender s) (filter (is_by end) (gathered_by taker)) ≡ filter (is_from_sender s) (filter (is_by end) (taken_by taker))
      each s =
          filter_filter (is_from_sender s) (is_by end) (gathered_by taker)
          ∙ (ap (filter (is_by end)) (here.waits s).all
          ∙ (filter-append (is_by end) (taken_of s) ((here.waits s).rest)
          ∙ (ap (λ l. filter (is_by end) (taken_of s) ++ l) (none s)
          ∙ (append-nil _ ∙ sym (filter_filter (is_from_sender s) (is_by end) (taken_by taker))))))

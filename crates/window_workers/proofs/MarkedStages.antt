-- All motes before each window: the windows of all workers are windows as in the law of windows.
use Rattle.std.proofs.Common.{◌≡◌, ℕ, zero, suc, ◌+◌, ◌<◌, ◌≤◌, true, List, [], ◌++◌, length, refl, sym, ap, ◌∙◌, subst, inl, inr, arith, append-nil, Option, Some, None}
use Rattle.std.proofs.lemmas.Bool.{cases_Bool}
use Rattle.std.specs.List.{filter, slice_get}
use Rattle.std.specs.Option.{option_map_or}
use Rattle.copy_exchange.proofs.Parts.{from, from-append}
use Rattle.copy_exchange.specs.Crossed.{is_own, is_to, copies_seen, is_for_others}
use Rattle.copy_exchange.specs.CutLaws.{GatheredCopies}
use Rattle.copy_exchange.specs.Pushes.{sent_before}
use Rattle.mote_net.specs.Net.{NetModel}
use Rattle.net_agenda.specs.NetSystem.{system_of}
use Rattle.radio_packet.specs.declared.copy.RadioCopy.{RadioCopy}
use Rattle.window_laws.specs.Forward.{RunsForward}
use Rattle.window_laws.specs.Windows.{Alone, first_mote, Windows, is_at, Last}
use Rattle.window_workers.specs.MarkedBounds.{bound, AreWindows}
use Rattle.window_workers.specs.WorkerGroup.{IsCut}
use Rattle.worker_window.specs.Share.{Motes}
use Rattle.worker_window.specs.Window.{RunsOwnMote, outgoing_by}
use Rattle.window_workers.proofs.MarkedAll.{AllRan}
use Rattle.window_workers.proofs.Lookups.{each_at}
use Rattle.window_workers.proofs.Same.{own_copies_same}
use Rattle.window_workers.proofs.Starts.{none_crossed}
use Rattle.window_workers.proofs.Step.{own_of, led_next, traced_next}
use Rattle.window_workers.proofs.MarkedBounds.{at_first, begins_before, no_wider}
use Rattle.window_workers.proofs.MarkedExpected.{all_arrived}
use Rattle.window_workers.proofs.MarkedLists.{none_before}
use Rattle.window_workers.proofs.MarkedPairs.{sent_to}
use Rattle.window_workers.proofs.MarkedSeen.{sent_so_far, of_worker, of_nobody, sees, seen}

module _ (n : NetModel) (fine : RunsForward (system_of n)) (owners : List ℕ) (width windows workers : ℕ) (all : AllRan n owners width windows workers) (cut : IsCut (length n.motes) workers owners) (are : AreWindows width n.end windows)
    (short : width ≤ (system_of n).lookahead) where
  -- the state of all motes before a window, each mote with the state that its worker had
  abbrev pub stage : ℕ → Motes
  stage zero = first_mote (system_of n)
  stage (suc k) = λ m. option_map_or (λ w. (all.histories w).motes (suc k) m) (slice_get owners m) (stage k m)

  pub own_stage : (v : ℕ) → v < workers → (k m : ℕ) → is_own owners v m ≡ true → (all.histories v).motes k m ≡ stage k m
  own_stage v lv zero m mine = ap (λ f. f m) (all.ran v lv).first
  own_stage v lv (suc k) m mine = sym (ap (λ o. option_map_or (λ w. (all.histories w).motes (suc k) m) o (stage k m)) (own_of owners v m mine))

  abbrev so_far : (v k : ℕ) → List RadioCopy
  so_far = sent_so_far n owners width windows workers all cut are

  pub record Reached (k : ℕ) : Type 0 where
    pub led : Windows (system_of n) 0 (bound width n.end k) (first_mote (system_of n)) (stage k)
    pub matches : (v : ℕ) → v < workers → GatheredCopies (system_of n) owners (stage k) v (so_far v k)

  first_reached : Reached 0
  first_reached = record {
    led = subst (λ t. Windows (system_of n) 0 t (first_mote (system_of n)) (first_mote (system_of n))) (sym (at_first width n.end)) Last;
    matches = λ v lv s.
        none_before s (λ w. sent_before 0 (sent_to n owners width windows workers all w v)) workers (λ w lw. refl) ∙ sym (none_crossed (system_of n) owners v s);
  }

  module _ (k : ℕ) (low : k < windows) where
    abbrev start : ℕ
    start = bound width n.end k

    abbrev until : ℕ
    until = bound width n.end (suc k)

    -- the copies that the worker had and that the window can see for a mote are exactly those that were sent before
    -- the window
    same_known : (v : ℕ) → v < workers → (m s : ℕ)
        → filter (sees n owners width windows workers all cut are k m) (copies_seen (system_of n) (is_own owners v) ((all.histories v).motes k) ((all.histories v).arrived k) s)
        ≡ filter (sees n owners width windows workers all cut are k m) (copies_seen (system_of n) (is_own owners v) (stage k) (so_far v k) s)
    same_known v lv m s = elim (cases_Bool (is_own owners v s)) [
      | inl e ↦ rw e (ap (filter (sees n owners width windows workers all cut are k m)) (own_copies_same n owners v ((all.histories v).motes k) (stage k) (own_stage v lv k) s e))
      | inr e ↦ rw e (ap (λ l. filter (sees n owners width windows workers all cut are k m) (from s l)) (all_arrived n owners width windows workers all are v lv k (omega arith)) ∙ seen n owners width windows workers all cut are v lv k low m s e)
    ]

    own_runs : (v : ℕ) → v < workers → (m : ℕ) → is_own owners v m ≡ true → RunsOwnMote n (is_own owners v) start until (stage k) ((all.histories v).motes (suc k)) (so_far v k) m
    own_runs v lv m mine =
        let ran = ((all.ran v lv).runs k low).runs m mine in
        record {
          given = ran.given;
          is_given = λ t s. ran.is_given t s ∙ ap (filter (is_at t)) (same_known v lv m s);
          alone = subst (λ x. Alone (system_of n) m until ran.given x ((all.histories v).motes (suc k) m)) (own_stage v lv k m mine) ran.alone;
        }

    same_out : (v : ℕ) → v < workers → (s : ℕ) → outgoing_by n (is_own owners v) ((all.histories v).motes k) s ≡ outgoing_by n (is_own owners v) (stage k) s
    same_out v lv s = elim (cases_Bool (is_own owners v s)) [
      | inl e ↦ rw e (ap (filter (is_for_others (is_own owners v))) (own_copies_same n owners v ((all.histories v).motes k) (stage k) (own_stage v lv k) s e))
      | inr e ↦ rw e refl
    ]

    own_out : (v : ℕ) → v < workers → (s : ℕ) → outgoing_by n (is_own owners v) ((all.histories v).motes (suc k)) s ≡ outgoing_by n (is_own owners v) (stage k) s ++ from s ((all.histories v).outgoing k)
    own_out v lv s = ((all.ran v lv).runs k low).out s ∙ ap (λ l. l ++ from s ((all.histories v).outgoing k)) (same_out v lv s)

    -- the copies sent, with one more window
    sent_more : (v s : ℕ) (o : Option ℕ) → slice_get owners s ≡ o
        → from s (so_far v (suc k)) ≡ from s (so_far v k) ++ option_map_or (λ u. from s (filter (is_to owners v) ((all.histories u).outgoing k))) o []
    sent_more v s None e =
        of_nobody n owners width windows workers all cut are v (suc k) s (omega arith) e
        ∙ sym (append-nil (from s (so_far v k)) ∙ of_nobody n owners width windows workers all cut are v k s (omega arith) e)
    sent_more v s (Some u) e =
        let lu = each_at (λ w. w < workers) owners s u cut.there e in
        let to = sent_to n owners width windows workers all u v in
        of_worker n owners width windows workers all cut are v (suc k) s u (omega arith) lu e
        ∙ (from-append s (sent_before k to) (to k) ∙ ap (λ l. l ++ from s (to k)) (sym (of_worker n owners width windows workers all cut are v k s u (omega arith) lu e)))

    narrow : until ≤ start + (system_of n).lookahead
    narrow = let w = no_wider width n.end windows are k low in omega arith

    next_reached : Reached k → Reached (suc k)
    next_reached at = record {
      led = led_next n fine owners workers cut start until (stage k) (begins_before width n.end windows are k low) narrow (λ v. so_far v k) (λ v. so_far v k) (λ v. (all.histories v).outgoing k) (λ v. (all.histories v).motes (suc k)) at.matches
          (λ v lv s. refl) own_runs own_out (λ v lv. ((all.ran v lv).runs k low).goes) at.led;
      matches = λ v lv.
          traced_next n fine owners workers cut start until (stage k) (begins_before width n.end windows are k low) narrow (λ v. so_far v k) (λ v. so_far v k) (λ v. (all.histories v).outgoing k) (λ v. (all.histories v).motes (suc k)) at.matches
          (λ v lv s. refl) own_runs own_out (λ v lv. ((all.ran v lv).runs k low).goes) v lv (so_far v (suc k)) (λ s. sent_more v s (slice_get owners s) refl);
    }

  pub reached : (k : ℕ) → k ≤ windows → Reached k
  reached zero le = first_reached
  reached (suc k) le = next_reached k (omega arith) (reached k (omega arith))

-- The items that a worker had taken before a window are a prefix of all that it took.
use Rattle.std.proofs.Common.{◌≡◌, ℕ, zero, suc, ◌+◌, ◌-◌, ◌≤◌, List, [], ◌++◌, sym, ap, ◌∙◌, arith, append_assoc, append-nil}
use Rattle.copy_inbox.proofs.Parts.{part-append}
use Rattle.copy_inbox.specs.Items.{part}
use Rattle.copy_inbox.specs.declared.items.Carried.{Carried}
use Rattle.copy_inbox.specs.declared.items.Item.{Item}
use Rattle.mote_net.specs.Net.{NetModel}
use Rattle.window_workers.specs.MarkedWorkerHistory.{WorkerHistory, WorkerRunsWindows}

module _ (n : NetModel) (owners : List ℕ) (width windows workers worker made : ℕ) (taken : List Item) (pushed : ℕ → List Carried) (history : WorkerHistory) (ran : WorkerRunsWindows n owners width windows workers worker made taken pushed history) where
  grows : (k m : ℕ) → k + m ≤ windows → (more : List Item) × (history.taken (k + m) ≡ history.taken k ++ more)
  grows k zero h = let e : k + zero ≡ k = omega arith in ([], ap history.taken e ∙ sym (append-nil (history.taken k)))
  grows k (suc m) h =
      let e : k + suc m ≡ suc (k + m) = omega arith in
      let before = grows k m (omega arith) in
      let next = ran.goes_on (k + m) (omega arith) in
      (before.0 ++ next.0, ap history.taken e ∙ (next.1 ∙ (ap (λ l. l ++ next.0) before.1 ∙ append_assoc (history.taken k) before.0 next.0)))

  pub part_begins : (k : ℕ) → k ≤ windows → (sender : ℕ) → (more : List Carried) × (part sender taken ≡ part sender (history.taken k) ++ more)
  part_begins k h sender =
      let e : k + (windows - k) ≡ windows = omega arith in
      let all = grows k (windows - k) (omega arith) in
      (part sender all.0, ap (part sender) (sym ran.all ∙ (ap history.taken (sym e) ∙ all.1)) ∙ part-append sender (history.taken k) all.0)

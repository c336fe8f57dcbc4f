-- One more window of a worker's thread.
use Rattle.std.proofs.Common.{◌≡◌, ◌≢◌, ℕ, zero, suc, ◌<◌, ◌≤◌, cond, eqb, List, [], ◌∷◌, ◌++◌, map, refl, sym, ap, ◌∙◌, subst, inl, inr, arith, eq-eqb}
use Rattle.std.proofs.lemmas.Bool.{cases_eq, ne_eqb}
use Rattle.std.specs.List.{filter}
use Rattle.copy_exchange.specs.Crossed.{is_to}
use Rattle.copy_exchange.specs.Expected.{Position, expected_in, position}
use Rattle.copy_exchange.specs.Pushes.{marks_in, pushes}
use Rattle.copy_inbox.specs.Items.{part, OfMade}
use Rattle.copy_inbox.specs.declared.items.Carried.{Carried}
use Rattle.copy_inbox.specs.declared.items.Item.{Item}
use Rattle.mote_net.specs.Net.{NetModel}
use Rattle.net_agenda.specs.NetSystem.{system_of}
use Rattle.radio_packet.specs.declared.copy.RadioCopy.{RadioCopy}
use Rattle.window_laws.specs.Windows.{first_mote}
use Rattle.window_workers.specs.MarkedBounds.{bound}
use Rattle.window_workers.specs.MarkedWorkerHistory.{WorkerHistory, RunsMotes, WorkerRunsWindows}
use Rattle.worker_window.specs.Share.{Motes}
use Rattle.copy_inbox.specs.declared.items.Carried.TheVariants.{Packet, Mark}

-- a family with one member replaced
abbrev pub edit : {X : Type 0} → (ℕ → X) → ℕ → X → ℕ → X
edit f k x j = cond (eqb j k) x (f j)

pub edit_same : {X : Type 0} (f : ℕ → X) (k : ℕ) (x : X) → edit f k x k ≡ x
edit_same f k x = let e = eq-eqb k k refl in rw e refl

edit_other : {X : Type 0} (f : ℕ → X) (k : ℕ) (x : X) (j : ℕ) → j ≢ k → edit f k x j ≡ f j
edit_other f k x j ne = let e = ne_eqb j k ne in rw e refl

pushes_same : (k : ℕ) (f g : ℕ → List RadioCopy) → ((j : ℕ) → j < k → f j ≡ g j) → pushes k f ≡ pushes k g
pushes_same zero f g h = refl
pushes_same (suc k) f g h =
    ap (λ l. l ++ (map Packet (f k) ++ Mark k ∷ [])) (pushes_same k f g (λ j low. h j (omega arith)))
    ∙ ap (λ l. pushes k g ++ (map Packet l ++ Mark k ∷ [])) (h k (omega arith))

-- no window yet
pub runs_none : (n : NetModel) (owners : List ℕ) (width workers worker made : ℕ) → WorkerRunsWindows n owners width 0 workers worker made [] (λ v. []) (record { motes = λ k. first_mote (system_of n); taken = λ k. []; arrived = λ k. []; outgoing = λ k. [] })
runs_none n owners width workers worker made = record {
  first = refl;
  nothing = refl;
  none_arrived = refl;
  all = refl;
  goes_on = λ k low. absurd (omega arith);
  marks_lead = λ k le s low. omega arith;
  of_made = λ s high. refl;
  runs = λ k low. absurd (omega arith);
  pushes_then = λ v low ne. refl;
}

module _ (n : NetModel) (owners : List ℕ) (width workers worker made k : ℕ) (taken more : List Item) (pushed pushes_now : ℕ → List Carried) (history : WorkerHistory) (next : Motes) (outgoing : List RadioCopy) where
  -- the worker's position after a window
  abbrev place : ℕ → Position
  place j = position owners worker (bound width n.end (suc j))

  abbrev pub longer : WorkerHistory
  longer = record {
    motes = edit history.motes (suc k) next;
    taken = edit history.taken (suc k) (taken ++ more);
    arrived = edit history.arrived (suc k) (history.arrived k ++ expected_in (place k) more);
    outgoing = edit history.outgoing k outgoing;
  }

  -- the worker ran window k, pushed the copies that it sent in the window and the mark, and then took more items,
  -- until it had the marks of window k too
  module _ (ran : WorkerRunsWindows n owners width k workers worker made taken pushed history)
      (window : RunsMotes n owners worker (bound width n.end k) (bound width n.end (suc k)) (history.motes k) next (history.arrived k) outgoing)
      (lead : (s : ℕ) → s < made → suc k ≤ marks_in (part s (taken ++ more)))
      (of_made : OfMade made (taken ++ more))
      (pushes_more : (v : ℕ) → v < workers → v ≢ worker → pushes_now v ≡ pushed v ++ (map Packet (filter (is_to owners v) outgoing) ++ Mark k ∷ [])) where
    old_motes : (j : ℕ) → j ≤ k → longer.motes j ≡ history.motes j
    old_motes j le = edit_other history.motes (suc k) next j (λ e. absurd (omega arith))

    old_taken : (j : ℕ) → j ≤ k → longer.taken j ≡ history.taken j
    old_taken j le = edit_other history.taken (suc k) (taken ++ more) j (λ e. absurd (omega arith))

    old_arrived : (j : ℕ) → j ≤ k → longer.arrived j ≡ history.arrived j
    old_arrived j le = edit_other history.arrived (suc k) (history.arrived k ++ expected_in (place k) more) j (λ e. absurd (omega arith))

    old_sent : (j : ℕ) → j < k → longer.outgoing j ≡ history.outgoing j
    old_sent j low = edit_other history.outgoing k outgoing j (λ e. absurd (omega arith))

    abbrev Runs : ℕ → Type 0
    Runs j = RunsMotes n owners worker (bound width n.end j) (bound width n.end (suc j)) (longer.motes j) (longer.motes (suc j)) (longer.arrived j) (longer.outgoing j)

    runs_old : (j : ℕ) → j < k → Runs j
    runs_old j low =
        subst (λ x. RunsMotes n owners worker (bound width n.end j) (bound width n.end (suc j)) x (longer.motes (suc j)) (longer.arrived j) (longer.outgoing j)) (sym (old_motes j (omega arith)))
        (subst (λ x. RunsMotes n owners worker (bound width n.end j) (bound width n.end (suc j)) (history.motes j) x (longer.arrived j) (longer.outgoing j)) (sym (old_motes (suc j) (omega arith)))
        (subst (λ x. RunsMotes n owners worker (bound width n.end j) (bound width n.end (suc j)) (history.motes j) (history.motes (suc j)) x (longer.outgoing j)) (sym (old_arrived j (omega arith)))
        (subst (λ x. RunsMotes n owners worker (bound width n.end j) (bound width n.end (suc j)) (history.motes j) (history.motes (suc j)) (history.arrived j) x) (sym (old_sent j low)) (ran.runs j low))))

    runs_last : Runs k
    runs_last =
        subst (λ x. RunsMotes n owners worker (bound width n.end k) (bound width n.end (suc k)) x (longer.motes (suc k)) (longer.arrived k) (longer.outgoing k)) (sym (old_motes k (omega arith)))
        (subst (λ x. RunsMotes n owners worker (bound width n.end k) (bound width n.end (suc k)) (history.motes k) x (longer.arrived k) (longer.outgoing k)) (sym (edit_same history.motes (suc k) next))
        (subst (λ x. RunsMotes n owners worker (bound width n.end k) (bound width n.end (suc k)) (history.motes k) next x (longer.outgoing k)) (sym (old_arrived k (omega arith)))
        (subst (λ x. RunsMotes n owners worker (bound width n.end k) (bound width n.end (suc k)) (history.motes k) next (history.arrived k) x) (sym (edit_same history.outgoing k outgoing)) window)))

    abbrev GoesOn : ℕ → Type 0
    GoesOn j = (rest : List Item) × (longer.taken (suc j) ≡ longer.taken j ++ rest) × (longer.arrived (suc j) ≡ longer.arrived j ++ expected_in (place j) rest)

    goes_old : (j : ℕ) → j < k → GoesOn j
    goes_old j low =
        let old = ran.goes_on j low in (
          old.0,
          old_taken (suc j) (omega arith) ∙ (old.1 ∙ ap (λ l. l ++ old.0) (sym (old_taken j (omega arith)))),
          old_arrived (suc j) (omega arith) ∙ (old.2 ∙ ap (λ l. l ++ expected_in (place j) old.0) (sym (old_arrived j (omega arith)))),
        )

    goes_last : GoesOn k
    goes_last = (
      more,
      edit_same history.taken (suc k) (taken ++ more) ∙ ap (λ l. l ++ more) (sym (old_taken k (omega arith) ∙ ran.all)),
      edit_same history.arrived (suc k) (history.arrived k ++ expected_in (place k) more) ∙ ap (λ l. l ++ expected_in (place k) more) (sym (old_arrived k (omega arith))),
    )

    lead_last : (s : ℕ) → s < made → suc k ≤ marks_in (part s (longer.taken (suc k)))
    lead_last s low = subst (λ l. suc k ≤ marks_in (part s l)) (sym (edit_same history.taken (suc k) (taken ++ more))) (lead s low)

    lead_old : (j : ℕ) → j ≤ k → (s : ℕ) → s < made → j ≤ marks_in (part s (longer.taken j))
    lead_old j le s low = subst (λ l. j ≤ marks_in (part s l)) (sym (old_taken j le)) (ran.marks_lead j le s low)

    pub runs_longer : WorkerRunsWindows n owners width (suc k) workers worker made (taken ++ more) pushes_now longer
    runs_longer = record {
      first = old_motes 0 (omega arith) ∙ ran.first;
      nothing = old_taken 0 (omega arith) ∙ ran.nothing;
      none_arrived = old_arrived 0 (omega arith) ∙ ran.none_arrived;
      all = edit_same history.taken (suc k) (taken ++ more);
      goes_on = λ j low. elim (cases_eq j k) [
        | inl e ↦ subst GoesOn (sym e) goes_last
        | inr ne ↦ goes_old j (omega (arith, ne))
      ];
      marks_lead = λ j le. elim (cases_eq j (suc k)) [
        | inl e ↦ subst (λ i. (s : ℕ) → s < made → i ≤ marks_in (part s (longer.taken i))) (sym e) lead_last
        | inr ne ↦ lead_old j (omega (arith, ne))
      ];
      of_made = of_made;
      runs = λ j low. elim (cases_eq j k) [ inl e ↦ subst Runs (sym e) runs_last | inr ne ↦ runs_old j (omega (arith, ne)) ];
      pushes_then = λ v low ne.
          pushes_more v low ne
          ∙ (ap (λ l. l ++ (map Packet (filter (is_to owners v) outgoing) ++ Mark k ∷ [])) (ran.pushes_then v low ne ∙ pushes_same k (λ j. filter (is_to owners v) (history.outgoing j)) (λ j. filter (is_to owners v) (longer.outgoing j)) (λ j lt. ap (filter (is_to owners v)) (sym (old_sent j lt))))
          ∙ ap (λ l. pushes k (λ j. filter (is_to owners v) (longer.outgoing j)) ++ (map Packet (filter (is_to owners v) l) ++ Mark k ∷ [])) (sym (edit_same history.outgoing k outgoing)));
    }

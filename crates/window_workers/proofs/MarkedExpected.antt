-- No copy was unexpected: each copy that a worker took in a window was sent in this window or a later one, by a mote of
-- another worker. So a worker had all copies that it had taken.
use Rattle.std.proofs.Common.{◌≡◌, ◌≢◌, ◌⊎◌, ℕ, zero, suc, ◌+◌, ◌-◌, ◌<◌, ◌≤◌, true, List, [], ◌++◌, sym, ap, ◌∙◌, subst, inl, inr, arith}
use Rattle.std.proofs.lemmas.Bool.{cases_lt}
use Rattle.std.specs.List.{AllByRecursion as Each}
use Rattle.copy_exchange.proofs.Early.{taken_late}
use Rattle.copy_exchange.proofs.Expected.{expected_passes}
use Rattle.copy_exchange.proofs.Parts.{copies-append, each_part}
use Rattle.copy_exchange.specs.Crossed.{is_to}
use Rattle.copy_exchange.specs.Endpoints.{pushed_list}
use Rattle.copy_exchange.specs.Expected.{Position, expected_in, is_expected, position}
use Rattle.copy_exchange.specs.Pushes.{pushes}
use Rattle.copy_exchange.specs.Takers.{copies_in}
use Rattle.copy_inbox.proofs.Parts.{part-append, part-nil_right}
use Rattle.copy_inbox.specs.Items.{HasPrefix, copies_of, part}
use Rattle.copy_inbox.specs.declared.items.Item.{Item}
use Rattle.mote_net.specs.Net.{NetModel}
use Rattle.radio_packet.specs.declared.copy.RadioCopy.{RadioCopy}
use Rattle.window_laws.proofs.Lists.{every_both, every_filter, filter_every}
use Rattle.window_workers.specs.MarkedBounds.{bound, AreWindows}
use Rattle.worker_window.specs.Window.{IsOutgoing}
use Rattle.window_workers.proofs.MarkedAll.{AllRan}
use Rattle.window_workers.proofs.Lookups.{there}
use Rattle.window_workers.proofs.MarkedBounds.{no_sooner}
use Rattle.window_workers.proofs.MarkedFronts.{part_begins}
use Rattle.window_workers.proofs.MarkedLists.{first_none}
use Rattle.window_workers.proofs.MarkedPairs.{front, not_other, numbered_at, pair, sent_to}
use Rattle.window_workers.proofs.Step.{own_of}

module _ (n : NetModel) (owners : List ℕ) (width windows workers : ℕ) (all : AllRan n owners width windows workers) (are : AreWindows width n.end windows) (u : ℕ) (lu : u < workers) where
  abbrev had : ℕ → List Item
  had k = (all.histories u).taken k

  -- the worker's position after a window
  abbrev place : ℕ → Position
  place k = position owners u (bound width n.end (suc k))

  module _ (k : ℕ) (low : k < windows) where
    abbrev Expected : RadioCopy → Type 0
    Expected copy = is_expected (place k) copy ≡ true

    -- the copies that another worker sent to this one in this window or later
    sent_expected : (v : ℕ) → v < workers → v ≢ u → (j : ℕ) → k ≤ j → j < windows → Each Expected (sent_to n owners width windows workers all v u j)
    sent_expected v lv ne j ge lj =
        let ran = (all.ran v lv).runs j lj in
        let e : k + (j - k) ≡ j = omega arith in
        let later = subst (λ i. bound width n.end (suc k) ≤ bound width n.end (suc i)) e (no_sooner width n.end windows are k (j - k) (omega arith)) in
        every_filter (λ (c : RadioCopy). IsOutgoing n owners v c × (bound width n.end (suc j) ≤ c.at)) Expected (is_to owners u)
        (λ c h to. expected_passes (place k) c (record { to = to; sender = not_other owners v u c.sender (own_of owners v c.sender h.0.sender) ne; later = at_least _ _ c.at later h.1 }))
        ((all.histories v).outgoing j) (every_both (IsOutgoing n owners v) (λ (c : RadioCopy). bound width n.end (suc j) ≤ c.at) ((all.histories v).outgoing j) ran.goes ran.late)
      where
        at_least : (a b c : ℕ) → a ≤ b → b ≤ c → a ≤ c
        at_least a b c h g = omega arith

    module _ (more : List Item) (is : had (suc k) ≡ had k ++ more) (s : ℕ) where
      split : part s (had (suc k)) ≡ part s (had k) ++ part s more
      split = ap (part s) is ∙ part-append s (had k) more

      -- the copies from one sender
      taken_expected : Each Expected (copies_in (part s more))
      taken_expected = of_case (cases_lt s (all.made u))
        where
          of_case : (s < all.made u) ⊎ (all.made u ≤ s) → Each Expected (copies_in (part s more))
          of_case (inl made) =
              let senders = all.are_senders u lu in
              let long = senders.made_is in
              let a = there (all.senders u) s (omega arith) in
              let w = senders.worker_of s a.0 a.1 in
              let p = pair n owners width windows workers all u w.0 lu w.1 w.2 in
              let number = sym (p.only a.0 w.3) ∙ numbered_at (all.senders u) senders.numbered s a.0 a.1 in
              let sent = sent_to n owners width windows workers all w.0 u in
              taken_late Expected windows k sent (part s (had k)) (part s more) (omega arith)
              (subst (λ l. HasPrefix (pushes windows sent) l) (ap (λ i. part i (had (suc k))) number ∙ split) (front n owners width windows workers all u lu (suc k) (omega arith) w.0 w.1 w.2))
              ((all.ran u lu).marks_lead k (omega arith) s made) (sent_expected w.0 w.1 w.2)
          of_case (inr high) =
              let begins = part_begins n owners width windows workers u (all.made u) (all.taken u) (λ w. pushed_list (all.sender w u)) (all.histories u) (all.ran u lu) (suc k) (omega arith) s in
              let none = part-nil_right s (had k) more (ap (part s) (sym is) ∙ first_none (part s (had (suc k))) begins.0 (sym begins.1 ∙ (all.ran u lu).of_made s high)) in
              subst (λ l. Each Expected (copies_in l)) (sym none) tt

  pub all_arrived : (k : ℕ) → k ≤ windows → (all.histories u).arrived k ≡ copies_of (had k)
  all_arrived zero le = (all.ran u lu).none_arrived ∙ ap copies_of (sym (all.ran u lu).nothing)
  all_arrived (suc k) le =
      let more = (all.ran u lu).goes_on k (omega arith) in
      let expected = each_part (Expected k (omega arith)) more.0 (taken_expected k (omega arith) more.0 more.1) in
      more.2 ∙ (ap (λ l. l ++ expected_in (place k) more.0) (all_arrived k (omega arith))
      ∙ (ap (λ l. copies_of (had k) ++ l) (filter_every (is_expected (place k)) (copies_of more.0) expected)
      ∙ sym (ap copies_of more.1 ∙ copies-append (had k) more.0)))

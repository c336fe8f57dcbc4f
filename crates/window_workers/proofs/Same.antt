-- The contents of a share depend only on the motes of its worker.
use Rattle.std.proofs.Common.{◌≡◌, ℕ, true, false, cond, ltb, List, [], refl, ap, ◌∙◌, subst, inl, inr}
use Rattle.std.proofs.lemmas.Bool.{cases_Bool}
use Rattle.std.specs.List.{filter, flat_map}
use Rattle.std.specs.Prelude.{IsSomeAnd}
use Rattle.copy_exchange.specs.Crossed.{is_own, copies_seen}
use Rattle.mote_net.specs.Net.{NetModel}
use Rattle.net_agenda.specs.NetSystem.{system_of, tree_at}
use Rattle.radio_packet.specs.declared.copy.RadioCopy.{RadioCopy}
use Rattle.radio_packet.specs.declared.sent.Sent.{Sent}
use Rattle.window_laws.specs.Windows.{NoneBefore, copies_by}
use Rattle.worker_window.specs.Share.{Motes, IsBetweenWindows, IsWholeShare, is_to_come, mote_here, wake_from}
use Rattle.worker_window.specs.declared.share.Share.{Share}
use Rattle.mote_node.specs.Turn.{is_past, wake_of}
use Rattle.window_laws.specs.Agenda.{Item, wake_items}
use Rattle.worker_window.specs.MoteWindow.{node_number}

module _ (n : NetModel) (owners : List ℕ) (worker : ℕ) (a b : Motes) (same : (k : ℕ) → is_own owners worker k ≡ true → a k ≡ b k) where
  own_sends : (s : ℕ) → cond (is_own owners worker s) (a s).sends [] ≡ cond {A = List Sent} (is_own owners worker s) (b s).sends []
  own_sends s = elim (cases_Bool (is_own owners worker s)) [ inl e ↦ rw e (ap (λ x. x.sends) (same s e)) | inr e ↦ rw e refl ]

  own_wakes : (from k : ℕ) → cond (is_own owners worker k) (wake_items k (wake_from from (a k).wake)) [] ≡ cond {A = List Item} (is_own owners worker k) (wake_items k (wake_from from (b k).wake)) []
  own_wakes from k = elim (cases_Bool (is_own owners worker k)) [ inl e ↦ rw e (ap (λ x. wake_items k (wake_from from x.wake)) (same k e)) | inr e ↦ rw e refl ]

  pub own_copies_same : (s : ℕ) → is_own owners worker s ≡ true → copies_by (system_of n) a s ≡ copies_by (system_of n) b s
  own_copies_same s e = ap (λ x. flat_map (system_of n).copies (cond (ltb s (system_of n).motes) x.sends [])) (same s e)

  pub known_same : (taken : List RadioCopy) (s : ℕ) → copies_seen (system_of n) (is_own owners worker) a taken s ≡ copies_seen (system_of n) (is_own owners worker) b taken s
  known_same taken s = elim (cases_Bool (is_own owners worker s)) [ inl e ↦ rw e (own_copies_same s e) | inr e ↦ rw e refl ]

  pub keeps_same : (from : ℕ) (taken : List RadioCopy) (share : Share) → IsWholeShare n owners worker from a taken share → IsWholeShare n owners worker from b taken share
  keeps_same from taken share h = record {
    is_worker = h.is_worker;
    places = h.places;
    numbers = λ k m. subst (λ x. node_number x.state ≡ k) (same k m) (h.numbers k m);
    rests = λ k m. subst (λ x. IsSomeAnd (mote_here share.motes.items k) (IsBetweenWindows (tree_at n k) x)) (same k m) (h.rests k m);
    elsewhere = h.elsewhere;
    wakes = λ k m. subst (λ x. x.wake ≡ wake_of x.state) (same k m) (h.wakes k m);
    quiet = λ k m. subst (λ x. NoneBefore from x.wake) (same k m) (h.quiet k m);
    turned_before = λ k m. subst (λ x. is_past from x.state.last ≡ false) (same k m) (h.turned_before k m);
    log = λ s. h.log s ∙ own_sends s;
    fates = h.fates;
    agenda = record {
      items = h.agenda.items;
      holds = h.agenda.holds;
      wakes = λ k. h.agenda.wakes k ∙ own_wakes from k;
      copies = λ s. h.agenda.copies s ∙ ap (filter (is_to_come (is_own owners worker) from)) (known_same taken s);
    };
  }

-- After a turn, all events of the mote are later.
use Rattle.std.proofs.Common.{◌≡◌, ℕ, suc, ◌≤◌, false, not, nat_le, List, [], ◌∷◌, map, Option, Some, None, inl, inr, arith}
use Rattle.std.proofs.lemmas.Bool.{cases_Bool, eqb-false}
use Rattle.std.proofs.lemmas.Bool.Decides.{nat_tests}
use Rattle.std.specs.List.{filter, AllByRecursion}
use Rattle.mote_node.proofs.WakeLaws.{wakes_later}
use Rattle.mote_node.specs.Turn.{turn_of}
use Rattle.net_agenda.specs.Buckets.{arrival_of}
use Rattle.radio_packet.specs.declared.copy.RadioCopy.{RadioCopy}
use Rattle.window_laws.specs.Forward.{IsLater}
use Rattle.window_laws.specs.Order.{in_order}
use Rattle.window_laws.specs.Windows.{is_at, NoneBefore, IsQuiet}
use Rattle.worker_window.specs.Laws.{NoTurnIsPast}
use Rattle.worker_window.proofs.Ends.{not_before}

later_copies : (m : ℕ) (xs : List RadioCopy) → AllByRecursion (λ copy. m ≤ copy.at) xs → AllByRecursion (λ copy. suc m ≤ copy.at) (filter (λ copy. not (is_at m copy)) xs)
later_copies m [] h = tt
later_copies m (x ∷ xs) h =
    elim (cases_Bool (is_at m x)) [
      | inl e ↦ rw e (later_copies m xs h.1)
      | inr e ↦ rw e (let ne = eqb-false x.at m e in let low = h.0 in apart x.at m ne low, later_copies m xs h.1)
    ]
  where
    apart : (a m : ℕ) → (a ≡ m → ⊥) → m ≤ a → suc m ≤ a
    apart a m ne low = omega arith

later_wake : (m : ℕ) (wake : Option ℕ) → IsLater m wake → NoneBefore (suc m) wake
later_wake m None h = tt
later_wake m (Some w) h = omega arith

above : (k m : ℕ) → suc m ≤ k → nat_le k m ≡ false
above k m h = grind (arith, nat_tests)

pub no_turn_is_past : NoTurnIsPast
unfolding turn_of
no_turn_is_past window moment left next comes =
    let given = map arrival_of (in_order (filter (is_at moment) window.copies)) in
    let quiet : IsQuiet (suc moment) (turn_of moment given window.mote.state).wake (filter (λ copy. not (is_at moment copy)) window.copies) = record {
      no_wake = later_wake moment _ (wakes_later moment given window.mote.state);
      no_copies = later_copies moment window.copies left.next.quiet.no_copies;
    } in
    above next moment (not_before (suc moment) next _ _ quiet comes.comes)

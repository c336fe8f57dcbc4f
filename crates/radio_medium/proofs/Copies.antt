-- The copies of a packet.
use Rattle.std.proofs.Common.{◌≡◌, ℕ, ◌+◌, ◌<◌, ◌≤◌, true, false, not, cond, List, [], ◌∷◌, map, filter, length, Option, Some, None, refl, ap, arith}
use Rattle.std.specs.List.{AllByRecursion, filter_map, range_with_len}
use Rattle.std.specs.List.Sorted.{IsStrictlyIncreasing}
use Rattle.std.proofs.lemmas.Bool.{cond_both}
use Rattle.std.proofs.lemmas.List.FromFn.{length-range_with_len, get_or-range_with_len}
use Rattle.std.proofs.lemmas.List.Kept.{IsStrictlyIncreasing-filter}
use Rattle.radio_packet.specs.declared.sent.Sent.{Sent}
use Rattle.radio_packet.specs.declared.copy.RadioCopy.{RadioCopy}
use Rattle.radio_medium.specs.Medium.{Radio, hears, delay, loses, lookahead, fate, fates, receivers, copies, copy_of, motes}
use Rattle.radio_medium.specs.Laws.{IsCopyOf}
use Rattle.radio_medium.proofs.Delays.{lookahead-le}
use Rattle.radio_medium.proofs.Hearing.{there-hears}

-- the copy for a mote that hears the sender
pub is_copy : (radio : Radio) (sent : Sent) (r : ℕ) → hears radio r sent.sender ≡ true
    → IsCopyOf radio sent (record { at = sent.at + delay radio sent.sender r; to = r; sender = sent.sender; number = sent.number; value = sent.value })
is_copy radio sent r heard = record {
  sender = refl;
  number = refl;
  value = refl;
  there = there-hears radio r sent.sender heard;
  heard = heard;
  later = λ end. let least : lookahead radio end ≤ delay radio sent.sender r = lookahead-le radio sent.sender r end heard in omega arith;
}

are_copies : (radio : Radio) (sent : Sent) (rs : List ℕ)
    → AllByRecursion (IsCopyOf radio sent) (filter_map (copy_of sent) (map (fate radio sent) (filter (λ r. hears radio r sent.sender) rs)))
unfolding fate
are_copies radio sent [] = tt
are_copies radio sent (r ∷ rs) =
    cond_both (hears radio r sent.sender) (r ∷ filter (λ k. hears radio k sent.sender) rs) (filter (λ k. hears radio k sent.sender) rs)
    (λ ks. AllByRecursion (IsCopyOf radio sent) (filter_map (copy_of sent) (map (fate radio sent) ks)))
    (λ heard.
    cond_both (loses radio sent.sender r sent.number) None (Some (sent.at + delay radio sent.sender r))
    (λ (at : Option ℕ). AllByRecursion (IsCopyOf radio sent) (filter_map (copy_of sent) (record { to = r; at = at } ∷ map (fate radio sent) (filter (λ k. hears radio k sent.sender) rs))))
    (λ _. are_copies radio sent rs)
    (λ _. (is_copy radio sent r heard, are_copies radio sent rs)))
    (λ _. are_copies radio sent rs)

pub copies_later : (radio : Radio) (sent : Sent) → AllByRecursion (IsCopyOf radio sent) (copies radio sent)
unfolding copies fates receivers
copies_later radio sent = are_copies radio sent (motes radio)

-- the receivers of copies: the motes that hear the sender and whose copy isn't lost
receivers_of_copies : (radio : Radio) (sent : Sent) (rs : List ℕ)
    → map (λ (copy : RadioCopy). copy.to) (filter_map (copy_of sent) (map (fate radio sent) rs)) ≡ filter (λ r. not (loses radio sent.sender r sent.number)) rs
unfolding fate
receivers_of_copies radio sent [] = refl
receivers_of_copies radio sent (r ∷ rs) =
    elim (loses radio sent.sender r sent.number)
    as (λ lost.
    map (λ (copy : RadioCopy). copy.to) (filter_map (copy_of sent) (record { to = r; at = cond lost None (Some (sent.at + delay radio sent.sender r)) } ∷ map (fate radio sent) rs))
    ≡ cond (not lost) (r ∷ filter (λ k. not (loses radio sent.sender k sent.number)) rs) (filter (λ k. not (loses radio sent.sender k sent.number)) rs)) [
      | true ↦ receivers_of_copies radio sent rs
      | false ↦ ap (λ ks. r ∷ ks) (receivers_of_copies radio sent rs)
    ]

range_rises : (n : ℕ) → IsStrictlyIncreasing (range_with_len 0 n)
range_rises n k within =
    let inside : k + 1 < n = rw (length-range_with_len 0 n) at within in
    let here : k < n = omega arith in
    rw (get_or-range_with_len 0 n k 0 here, get_or-range_with_len 0 n (k + 1) 0 inside) (omega arith)

pub copies_rising : (radio : Radio) (sent : Sent) → IsStrictlyIncreasing (map (λ (copy : RadioCopy). copy.to) (copies radio sent))
unfolding copies fates receivers
copies_rising radio sent =
    rw (receivers_of_copies radio sent (receivers radio sent.sender))
    (IsStrictlyIncreasing-filter (λ r. not (loses radio sent.sender r sent.number)) (receivers radio sent.sender)
    (IsStrictlyIncreasing-filter (λ r. hears radio r sent.sender) (motes radio) (range_rises (length radio.places))))

-- The order of faults means nothing: what they make of a copy depends only on whether one of them loses it, and on the sum of
-- the moments by which the others make it late.
use Rattle.std.proofs.Common.{◌≡◌, ℕ, ◌+◌, ◌≤◌, nat_le, ◌||◌, Bool, true, false, List, [], ◌∷◌, map, Option, Some, None, option_map, if◌then◌else◌, refl, sym, ap, ap₂, ◌∙◌, arith}
use Rattle.std.specs.List.{filter_map, cons_option, list_any, sum_by}
use Rattle.std.specs.Option.{option_and_then}
use Rattle.std.specs.Prelude.{IsPermutation}
use Rattle.std.proofs.lemmas.List.Sums.{sum_by-cons}
use Rattle.std.proofs.lemmas.List.Sorted.{list_any-IsPermutation, sum_by-IsPermutation}
use Rattle.radio_packet.specs.declared.copy.RadioCopy.{RadioCopy}
use Rattle.radio_packet.specs.declared.fate.Fate.{Fate}
use Rattle.radio_packet.specs.declared.sent.Sent.{Sent}
use Rattle.radio_faults.specs.declared.fault.Fault.{Fault}
use Rattle.radio_faults.specs.declared.fault.Fault.TheVariants.{Late, Off}
use Rattle.radio_faults.specs.Faults.{names, arrival_after, copy_after, copies_with, fate_after, fates_with}
use Rattle.radio_faults.specs.Off.{boot_by, if_later, is_at, keeps_off, next_boot, sooner}
use Rattle.std.proofs.lemmas.Bool.Decides.{nat_tests}
use Rattle.radio_faults.specs.NetLaws.{OrderMeansNothing}

-- packet n of mote s, on its way to mote r
module _ (s n r : ℕ) where
  -- the fault loses it
  abbrev loses : Fault → Bool
  loses (Late sender number to by) = false
  loses fault = names fault s n r

  -- by how much the fault makes it late
  abbrev delay : Fault → ℕ
  delay (Late sender number to by) = if names (Late sender number to by) s n r then by else 0
  delay fault = 0

  -- when it arrives, if it isn't lost, so many moments later
  abbrev outcome : (lost : Bool) → (delays at : ℕ) → Option ℕ
  outcome lost delays at = if lost then None else Some (at + delays)

  abbrev with_all : List Fault → (at : ℕ) → Option ℕ
  with_all faults at = outcome (list_any loses faults) (sum_by delay faults) at

  still_lost : (named : Bool) (delays at : ℕ) → None ≡ outcome (named || true) delays at
  still_lost true delays at = refl
  still_lost false delays at = refl

  lost_if : (named : Bool) (delays at : ℕ) → (if named then None else Some (at + delays)) ≡ outcome (named || false) (0 + delays) at
  lost_if true delays at = refl
  lost_if false delays at = ap Some (omega arith)

  late_if : (named : Bool) (by delays at : ℕ) → (if named then Some ((at + delays) + by) else Some (at + delays)) ≡ outcome false ((if named then by else 0) + delays) at
  late_if true by delays at = ap Some (omega arith)
  late_if false by delays at = ap Some (omega arith)

  one_more : (fault : Fault) (lost : Bool) (delays at : ℕ) → option_and_then (arrival_after fault s n r) (outcome lost delays at) ≡ outcome (loses fault || lost) (delay fault + delays) at
  one_more fault true delays at = still_lost (loses fault) (delay fault + delays) at
  one_more (Late sender number to by) false delays at = late_if (names (Late sender number to by) s n r) by delays at
  one_more (Off mote from until) false delays at = lost_if false delays at
  one_more x false delays at = lost_if (names x s n r) delays at

  -- one more fault after all others
  after_all : (fault : Fault) (faults : List Fault) (at : ℕ) → option_and_then (arrival_after fault s n r) (with_all faults at) ≡ with_all (fault ∷ faults) at
  after_all fault faults at =
      one_more fault (list_any loses faults) (sum_by delay faults) at
      ∙ ap (λ delays. outcome (loses fault || list_any loses faults) delays at) (sym (sum_by-cons delay fault faults))

  same_with_all : (some others : List Fault) → IsPermutation some others → (at : ℕ) → with_all some at ≡ with_all others at
  same_with_all some others permuted at =
      ap₂ (λ lost delays. outcome lost delays at) (list_any-IsPermutation loses some others permuted) (sym (sum_by-IsPermutation delay some others permuted))

-- copies
abbrev all_of_copy : List Fault → RadioCopy → Option RadioCopy
all_of_copy faults copy = option_map (λ (at : ℕ). record copy { at = at }) (with_all copy.sender copy.number copy.to faults copy.at)

step : {X Y : Type 0} (g : X → Option Y) (o : Option X) (p : Option Y) → option_and_then g o ≡ p → (xs : List X) (ys : List Y) → filter_map g xs ≡ ys → filter_map g (cons_option o xs) ≡ cons_option p ys
step g None p e xs ys same = same ∙ ap (λ q. cons_option q ys) e
step g (Some x) p e xs ys same = ap₂ cons_option e same

two_steps : {X Y Z : Type 0} (h : X → Option Y) (g : Y → Option Z) (k : X → Option Z) → ((x : X) → option_and_then g (h x) ≡ k x) → (xs : List X) → filter_map g (filter_map h xs) ≡ filter_map k xs
two_steps h g k both [] = refl
two_steps h g k both (x ∷ xs) = step g (h x) (k x) (both x) (filter_map h xs) (filter_map k xs) (two_steps h g k both xs)

moved : (fault : Fault) (copy : RadioCopy) (at : Option ℕ)
    → option_and_then (copy_after fault) (option_map (λ (at : ℕ). record copy { at = at }) at) ≡ option_map (λ (at : ℕ). record copy { at = at }) (option_and_then (arrival_after fault copy.sender copy.number copy.to) at)
moved fault copy None = refl
moved fault copy (Some at) = refl

no_copy_changed : (copies : List RadioCopy) → copies ≡ filter_map (all_of_copy []) copies
no_copy_changed [] = refl
no_copy_changed (copy ∷ copies) = ap₂ (λ (at : ℕ) rest. record copy { at = at } ∷ rest) (omega arith) (no_copy_changed copies)

copies_at_once : (faults : List Fault) (copies : List RadioCopy) → copies_with faults copies ≡ filter_map (all_of_copy faults) copies
copies_at_once [] copies = no_copy_changed copies
copies_at_once (fault ∷ faults) copies =
    ap (filter_map (copy_after fault)) (copies_at_once faults copies)
    ∙ two_steps (all_of_copy faults) (copy_after fault) (all_of_copy (fault ∷ faults))
    (λ copy. moved fault copy (with_all copy.sender copy.number copy.to faults copy.at)
    ∙ ap (option_map (λ (at : ℕ). record copy { at = at })) (after_all copy.sender copy.number copy.to fault faults copy.at)) copies

same_filter_map : {X Y : Type 0} (h g : X → Option Y) → ((x : X) → h x ≡ g x) → (xs : List X) → filter_map h xs ≡ filter_map g xs
same_filter_map h g same [] = refl
same_filter_map h g same (x ∷ xs) = ap₂ cons_option (same x) (same_filter_map h g same xs)

-- fates
abbrev all_of_fate : Sent → List Fault → Fate → Fate
all_of_fate sent faults fate = record fate { at = option_and_then (with_all sent.sender sent.number fate.to faults) fate.at }

no_fate_changed : (sent : Sent) (fates : List Fate) → fates ≡ map (all_of_fate sent []) fates
no_fate_changed sent [] = refl
no_fate_changed sent (fate ∷ fates) = ap₂ (λ (at : Option ℕ) rest. record fate { at = at } ∷ rest) (same fate.at) (no_fate_changed sent fates)
  where
    same : (at : Option ℕ) → at ≡ option_and_then (with_all sent.sender sent.number fate.to []) at
    same None = refl
    same (Some at) = ap Some (omega arith)

one_fate : (s n r : ℕ) (fault : Fault) (faults : List Fault) (at : Option ℕ) → option_and_then (arrival_after fault s n r) (option_and_then (with_all s n r faults) at) ≡ option_and_then (with_all s n r (fault ∷ faults)) at
one_fate s n r fault faults None = refl
one_fate s n r fault faults (Some at) = after_all s n r fault faults at

all_fates : (fault : Fault) (faults : List Fault) (sent : Sent) (fates : List Fate) → map (fate_after fault sent) (map (all_of_fate sent faults) fates) ≡ map (all_of_fate sent (fault ∷ faults)) fates
all_fates fault faults sent [] = refl
all_fates fault faults sent (fate ∷ fates) =
    ap₂ (λ (at : Option ℕ) rest. record fate { at = at } ∷ rest) (one_fate sent.sender sent.number fate.to fault faults fate.at) (all_fates fault faults sent fates)

fates_at_once : (faults : List Fault) (sent : Sent) (fates : List Fate) → fates_with faults sent fates ≡ map (all_of_fate sent faults) fates
fates_at_once [] sent fates = no_fate_changed sent fates
fates_at_once (fault ∷ faults) sent fates = ap (map (fate_after fault sent)) (fates_at_once faults sent fates) ∙ all_fates fault faults sent fates

same_fates : (some others : List Fault) → IsPermutation some others → (sent : Sent) (fates : List Fate) → map (all_of_fate sent some) fates ≡ map (all_of_fate sent others) fates
same_fates some others permuted sent [] = refl
same_fates some others permuted sent (fate ∷ fates) =
    ap₂ (λ (at : Option ℕ) rest. record fate { at = at } ∷ rest) (same fate.at) (same_fates some others permuted sent fates)
  where
    same : (at : Option ℕ) → option_and_then (with_all sent.sender sent.number fate.to some) at ≡ option_and_then (with_all sent.sender sent.number fate.to others) at
    same None = refl
    same (Some at) = same_with_all sent.sender sent.number fate.to some others permuted at

-- motes that are off, and boot again

-- there is such a moment, and it isn't later than t
abbrev is_by : (t : ℕ) → Option ℕ → Bool
is_by t None = false
is_by t (Some moment) = nat_le moment t

or_not : (a : Bool) → a ≡ (a || false)
or_not true = refl
or_not false = refl

of_sooner : (t : ℕ) (a b : Option ℕ) → is_by t (sooner a b) ≡ (is_by t a || is_by t b)
of_sooner t a None = or_not (is_by t a)
of_sooner t None (Some b) = refl
of_sooner t (Some a) (Some b) = grind (arith, nat_tests)

-- a moment is the same as another if both are by the same moments
not_above : (a b : ℕ) → nat_le a b ≡ nat_le b b → a ≤ b
not_above a b e = grind (arith, nat_tests)

by_itself : (a : ℕ) → nat_le a a ≡ false → ⊥
by_itself a e = grind (arith, nat_tests)

same_by : (a b : Option ℕ) → ((t : ℕ) → is_by t a ≡ is_by t b) → a ≡ b
same_by None None same = refl
same_by None (Some b) same = absurd (by_itself b (sym (same b)))
same_by (Some a) None same = absurd (by_itself a (same a))
same_by (Some a) (Some b) same = let le = not_above a b (same b) in let ge = not_above b a (sym (same a)) in ap Some (omega arith)

module _ (mote moment : ℕ) where
  next_by : (faults : List Fault) (t : ℕ) → is_by t (next_boot faults mote moment) ≡ list_any (λ fault. is_by t (if_later moment (boot_by fault mote))) faults
  next_by [] t = refl
  next_by (fault ∷ faults) t =
      let later = is_by t (if_later moment (boot_by fault mote)) in
      of_sooner t (next_boot faults mote moment) (if_later moment (boot_by fault mote))
      ∙ (ap (λ rest. rest || later) (next_by faults t) ∙ swapped (list_any (λ fault. is_by t (if_later moment (boot_by fault mote))) faults) later)
    where
      swapped : (a b : Bool) → (a || b) ≡ (b || a)
      swapped true true = refl
      swapped true false = refl
      swapped false true = refl
      swapped false false = refl

  same_next : (some others : List Fault) → IsPermutation some others → next_boot some mote moment ≡ next_boot others mote moment
  same_next some others permuted = same_by _ _ (λ t. next_by some t
      ∙ (list_any-IsPermutation (λ fault. is_by t (if_later moment (boot_by fault mote))) some others permuted ∙ sym (next_by others t)))

pub order_means_nothing : OrderMeansNothing
order_means_nothing = record {
  of_motes = λ some others permuted end. record {
    off = λ mote moment le. list_any-IsPermutation (λ fault. keeps_off fault mote moment) some others permuted;
    boot = λ mote moment le. list_any-IsPermutation (λ fault. is_at moment (boot_by fault mote)) some others permuted;
    wakes = λ mote moment le. same_next mote moment some others permuted;
  };
  of_copies = λ some others permuted copies. copies_at_once some copies
      ∙ same_filter_map (all_of_copy some) (all_of_copy others)
      (λ copy. ap (option_map (λ (at : ℕ). record copy { at = at })) (same_with_all copy.sender copy.number copy.to some others permuted copy.at)) copies
      ∙ sym (copies_at_once others copies);
  of_fates = λ some others permuted sent fates. fates_at_once some sent fates ∙ same_fates some others permuted sent fates ∙ sym (fates_at_once others sent fates);
}

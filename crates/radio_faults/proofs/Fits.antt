-- The numbers of the fault that words are read as fit, and a mote doesn't come back before it is off.
use Rattle.std.proofs.Common.{◌≡◌, ℕ, ◌+◌, ◌^◌, ◌<◌, ◌≤◌, max, min, Bool, true, false, if◌then◌else◌, List, [], ◌∷◌, Option, Some, None, sym, subst, arith}
use Rattle.radio_faults.specs.declared.fault.Fault.{Fault}
use Rattle.radio_faults.specs.FaultLines.{FitsFault, begins_with_m, delay_of, later_of, mote_of, nearest, nearest_long, nearest_of, nearest_off, number_of}
use Rattle.radio_faults.proofs.Numbers.{number_fits}

abbrev IfFits : Option Fault → Type 0
IfFits None = Unit {0}
IfFits (Some fault) = FitsFault fault

word_fits : (word : List ℕ) → number_of word < 2 ^ 64
word_fits word = number_fits 0 word (omega arith)

mote_fits : (word : List ℕ) → mote_of word < 2 ^ 16
mote_fits word = omega arith

delay_fits : (word : List ℕ) → delay_of word < 2 ^ 32
delay_fits word = omega arith

not_before : (from until : ℕ) → from < 2 ^ 64 → from ≤ max until (min (from + 1) 18446744073709551615)
not_before from until fits = omega arith

later_fits : (from until : ℕ) → until < 2 ^ 64 → max until (min (from + 1) 18446744073709551615) < 2 ^ 64
later_fits from until fits = omega arith

itself : (n : ℕ) → n ≤ n
itself n = omega arith

off_fits : (mote : ℕ) (fifth : List ℕ) (words : List (List ℕ)) → mote < 2 ^ 16 → IfFits (nearest_off mote fifth words)
off_fits mote fifth [] fits = (fits, word_fits fifth, (itself (number_of fifth), word_fits fifth))
off_fits mote fifth (from ∷ on ∷ []) fits = (fits, word_fits from, tt)
off_fits mote fifth (from ∷ to ∷ until ∷ []) fits =
    (fits, word_fits from, (not_before (number_of from) (number_of until) (word_fits from), later_fits (number_of from) (number_of until) (word_fits until)))
off_fits mote fifth words fits = tt

of_fits : (sender number : ℕ) (words : List (List ℕ)) → sender < 2 ^ 16 → number < 2 ^ 64 → IfFits (nearest_of sender number words)
of_fits sender number (a ∷ b ∷ []) s n = (s, n)
of_fits sender number (a ∷ b ∷ c ∷ d ∷ e ∷ f ∷ g ∷ to ∷ []) s n = (s, n, mote_fits to)
of_fits sender number (a ∷ by ∷ c ∷ d ∷ e ∷ f ∷ g ∷ h ∷ to ∷ []) s n = (s, n, mote_fits to, delay_fits by)
of_fits sender number words s n = tt

long_fits : (first second fifth : List ℕ) (more : List (List ℕ)) → IfFits (nearest_long first second fifth more)
unfolding nearest_long
long_fits first second fifth more = when (begins_with_m first)
  where
    when : (is : Bool) → IfFits (if is then nearest_off (mote_of second) fifth more else nearest_of (mote_of fifth) (number_of second) more)
    when true = off_fits (mote_of second) fifth more (mote_fits second)
    when false = of_fits (mote_of fifth) (number_of second) more (mote_fits fifth) (word_fits second)

nearest_fits : (words : List (List ℕ)) → IfFits (nearest words)
nearest_fits (a ∷ mote ∷ b ∷ c ∷ []) = mote_fits mote
nearest_fits (a ∷ from ∷ b ∷ to ∷ c ∷ d ∷ []) = (mote_fits from, mote_fits to)
nearest_fits (first ∷ second ∷ a ∷ b ∷ fifth ∷ more) = long_fits first second fifth more
nearest_fits words = tt

pub fits : (words : List (List ℕ)) (fault : Fault) → Some fault ≡ nearest words → FitsFault fault
fits words fault is = subst IfFits (sym is) (nearest_fits words)

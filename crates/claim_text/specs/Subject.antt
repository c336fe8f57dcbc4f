-- The mote of a case.
use Rattle.std.specs.Prelude.{ℕ, Option, Some, None, List, [], ◌∷◌}
use Rattle.claims.specs.declared.trace.Watched.{Watched}
use Rattle.claims.specs.declared.count.Count.{Count}
use Rattle.claims.specs.declared.count.Count.TheVariants.{Lines, Packets, Copies, Left, Rows}
use Rattle.claims.specs.declared.ratio.Ratio.{Ratio as RatioOfCode}
use Rattle.claims.specs.declared.claim.Test.{Test}
use Rattle.claims.specs.declared.claim.Test.TheVariants.{Count as CountOf, Ratio, Values, AnyOrder, Last, Compared}

abbrev pub only_mote : List Watched → Option ℕ
only_mote [] = None
only_mote (w ∷ []) = Some w.mote
only_mote (w ∷ v ∷ ws) = None

abbrev pub mote_of_count : Count → Option ℕ
mote_of_count (Lines l) = only_mote l.deed.watches.items
mote_of_count (Packets p) = None
mote_of_count (Copies c) = None
mote_of_count Left = None
mote_of_count Rows = None

abbrev pub first_of_two : Option ℕ → Option ℕ → Option ℕ
first_of_two (Some m) other = Some m
first_of_two None other = other

-- the mote of the greater number, or else of the smaller one
abbrev pub mote_of_ratio : RatioOfCode → Option ℕ
mote_of_ratio q = first_of_two (mote_of_count q.high) (mote_of_count q.low)

abbrev pub mote_of_test : Test → Option ℕ
mote_of_test (CountOf count limits) = mote_of_count count
mote_of_test (Ratio ratio) = mote_of_ratio ratio
mote_of_test (Values deed sets) = only_mote deed.watches.items
mote_of_test (AnyOrder deed values) = only_mote deed.watches.items
mote_of_test (Last deed set) = only_mote deed.watches.items
mote_of_test (Compared comparison) = only_mote comparison.deed.watches.items

-- the only mote whose lines the first test is about, if there is one
abbrev pub mote_of_tests : List Test → Option ℕ
mote_of_tests [] = None
mote_of_tests (t ∷ ts) = mote_of_test t

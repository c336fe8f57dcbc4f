-- The text of tests.
use Rattle.std.specs.Prelude.{ℕ, Bool, true, ◌&&◌, not, if◌then◌else◌, Option, Some, None, List, []}
use Rattle.std.specs.Prelude.{◌++◌, map, codes, decimal}
use Rattle.claims.specs.declared.trace.Deed.{Deed}
use Rattle.claims.specs.declared.limits.Limits.{Limits}
use Rattle.claims.specs.declared.order.Order.{Order}
use Rattle.claims.specs.declared.count.Count.{Count as CountOfCode}
use Rattle.claims.specs.declared.count.Count.TheVariants.{Lines, Packets, Copies, Left, Rows}
use Rattle.claims.specs.declared.ratio.Ratio.{Ratio as RatioOfCode}
use Rattle.claims.specs.declared.compared.Way.{Way}
use Rattle.claims.specs.declared.compared.Way.TheVariants as way
use Rattle.claims.specs.declared.compared.Comparison.{Comparison}
use Rattle.claims.specs.declared.claim.Test.{Test}
use Rattle.claims.specs.declared.claim.Test.TheVariants.{Count, Ratio, Values, AnyOrder, Last, Compared}
use Rattle.claim_text.specs.Lists.{list_text}
use Rattle.claim_text.specs.Numbers.{noun, is_all, set_text, item_text, limits_text, shown_number}
use Rattle.claim_text.specs.DeedText.{deed_text}
use Rattle.claim_text.specs.OrderText.{is_plain, order_text}
use Rattle.claim_text.specs.CountText.{count_text}

-- no line has an order that is turned round: each line has the order
abbrev pub is_each : Order → Limits → Bool
is_each o l = is_all l 0 && not (is_plain o)

abbrev pub each_text : (names : List (List ℕ)) → (own : Option ℕ) → Deed → Order → List ℕ
each_text names own d o =
    codes "every line " ++ (deed_text names own d ++ (codes " is" ++ order_text names own o true))

abbrev pub limited_text : (names : List (List ℕ)) → (own : Option ℕ) → CountOfCode → Limits → List ℕ
limited_text names own c l = limits_text l ++ (codes " " ++ count_text names own c (shown_number l))

abbrev pub counted_lines : (names : List (List ℕ)) → (own : Option ℕ) → Deed → Option Order → Limits
    → (other : List ℕ) → List ℕ
counted_lines names own d None l other = other
counted_lines names own d (Some o) l other = if is_each o l then each_text names own d o else other

-- `every line .. is after ..`, or the limits and what is counted
abbrev pub counted_text : (names : List (List ℕ)) → (own : Option ℕ) → CountOfCode → Limits → List ℕ
counted_text names own (Lines s) l = counted_lines names own s.deed s.order l (limited_text names own (Lines s) l)
counted_text names own (Packets p) l = limited_text names own (Packets p) l
counted_text names own (Copies c) l = limited_text names own (Copies c) l
counted_text names own Left l = limited_text names own Left l
counted_text names own Rows l = limited_text names own Rows l

abbrev pub times_text : (names : List (List ℕ)) → (own : Option ℕ) → (times : ℕ) → CountOfCode → List ℕ
times_text names own times c = decimal times ++ (codes " times the number of " ++ count_text names own c 0)

abbrev pub ratio_text : (names : List (List ℕ)) → (own : Option ℕ) → RatioOfCode → List ℕ
ratio_text names own q =
    times_text names own q.low_times q.low
    ++ (codes " is " ++ ((if q.is_strict then codes "less than" else codes "at most")
    ++ (codes " " ++ times_text names own q.high_times q.high)))

-- the text of what is said of the lines of a deed
abbrev pub lines_have : (deed words values : List ℕ) → List ℕ
lines_have deed words values = codes "the lines " ++ (deed ++ (words ++ values))

-- how the values of two deeds compare, with the texts of the deeds
abbrev pub way_text : Way → (deed other : List ℕ) → List ℕ
way_text way.Last deed other = codes "the last line " ++ (deed ++ (codes " has the value of the last line " ++ other))
way_text way.InTime deed other = lines_have deed (codes " have in order of time exactly the values of the lines ") other
way_text way.AnyOrder deed other = lines_have deed (codes " have in any order exactly the values of the lines ") other
way_text (way.Each l) deed other =
    codes "each value of the lines " ++ (deed ++ (codes " is the value of " ++ (limits_text l ++ (codes " "
    ++ (noun (shown_number l) (codes "line") (codes "lines") ++ (codes " " ++ other))))))

abbrev pub compared_text : (names : List (List ℕ)) → (own : Option ℕ) → Comparison → List ℕ
compared_text names own c = way_text c.way (deed_text names own c.deed) (deed_text names own c.other)

-- texts of values
abbrev pub values_text : List (List ℕ) → List ℕ
values_text ts = list_text (codes "no values") (codes "the values ") (codes ", ") ts

abbrev pub test_text : (names : List (List ℕ)) → (own : Option ℕ) → Test → List ℕ
test_text names own (Count c l) = counted_text names own c l
test_text names own (Ratio q) = ratio_text names own q
test_text names own (Values d ss) =
    lines_have (deed_text names own d) (codes " have in order of time exactly ")
    (values_text (map (λ s. item_text s.spans.items) ss.items))
test_text names own (AnyOrder d vs) =
    lines_have (deed_text names own d) (codes " have in any order exactly ") (values_text (map decimal vs.items))
test_text names own (Last d s) =
    codes "the last line " ++ (deed_text names own d ++ (codes " has the value " ++ set_text s.spans.items))
test_text names own (Compared c) = compared_text names own c

-- the tests of a case whose mote is `own`
abbrev pub tests_text : (names : List (List ℕ)) → (own : Option ℕ) → List Test → List ℕ
tests_text names own ts = list_text (codes "always") [] (codes " and ") (map (test_text names own) ts)

-- The text of orders.
use Rattle.std.specs.Prelude.{ℕ, Bool, not, if◌then◌else◌, Option, List, ◌++◌, codes, decimal}
use Rattle.claims.specs.declared.order.Order.{Order}
use Rattle.claims.specs.declared.order.Relation.{Relation}
use Rattle.claims.specs.declared.order.Relation.TheVariants.{After, NotBefore, Within, Followed}
use Rattle.claim_text.specs.Numbers.{noun}
use Rattle.claim_text.specs.DeedText.{deed_text}

abbrev pub is_plain_relation : Relation → (is_so : Bool) → Bool
is_plain_relation After is_so = is_so
is_plain_relation NotBefore is_so = not is_so
is_plain_relation (Within k) is_so = is_so
is_plain_relation (Followed k) is_so = is_so

-- The text of the order has no negation. A line that isn't "not before" some line of the event is before every one.
abbrev pub is_plain : Order → Bool
is_plain o = is_plain_relation o.relation o.is_so

abbrev pub some_or_no : (is_plain : Bool) → List ℕ
some_or_no is_plain = if is_plain then codes "some" else codes "no"

abbrev pub within_text : (moments : ℕ) → (relation : List ℕ) → (is_plain : Bool) → List ℕ
within_text k relation is_plain =
    codes " within " ++ (decimal k ++ (codes " " ++ (noun k (codes "moment") (codes "moments")
    ++ (relation ++ (some_or_no is_plain ++ codes " line ")))))

abbrev pub relation_text : Relation → (is_plain : Bool) → List ℕ
relation_text After is_plain = codes " after " ++ (some_or_no is_plain ++ codes " line ")
relation_text NotBefore is_plain = if is_plain then codes " before every line " else codes " not before every line "
relation_text (Within k) is_plain = within_text k (codes " after ") is_plain
relation_text (Followed k) is_plain = within_text k (codes " before ") is_plain

-- an order, as it is or turned round
abbrev pub order_text : (names : List (List ℕ)) → (own : Option ℕ) → Order → (is_plain : Bool) → List ℕ
order_text names own o is_plain = relation_text o.relation is_plain ++ deed_text names own o.event

-- The text of numbers, sets of numbers, periods and limits.
use Rattle.std.specs.Prelude.{ℕ, Bool, ◌&&◌, ◌==◌, nat_lt, if◌then◌else◌, Option, Some, None, List, [], ◌∷◌, ◌++◌, map}
use Rattle.std.specs.Prelude.{codes, decimal, unwrap_or}
use Rattle.claims.specs.declared.set.Span.{Span}
use Rattle.claims.specs.declared.set.Set.{Set}
use Rattle.claims.specs.declared.limits.Limits.{Limits}
use Rattle.claims.specs.Sets.{is_this}
use Rattle.claim_text.specs.Lists.{list_text}

-- the singular if the number is 1, and the plural otherwise
abbrev pub noun : (number : ℕ) → (one many : List ℕ) → List ℕ
noun number one many = if number == 1 then one else many

-- `7`, or `7 to 9`
abbrev pub span_text : Span → List ℕ
span_text s = if s.from == s.to then decimal s.from else decimal s.from ++ (codes " to " ++ decimal s.to)

-- `1`, `1 or 3 or 7 to 9`, or `none`
abbrev pub set_text : List Span → List ℕ
set_text ss = list_text (codes "none") [] (codes " or ") (map span_text ss)

-- the words in front of more than one number
abbrev pub any_of : List Span → List ℕ
any_of [] = []
any_of (s ∷ []) = if s.from == s.to then [] else codes "any of "
any_of (s ∷ t ∷ ss) = codes "any of "

-- an item of a list: `3`, `any of 1 or 4`, `any of 1 to 6`, or `none`
abbrev pub item_text : List Span → List ℕ
item_text ss = any_of ss ++ set_text ss

-- a label and a set; nothing, if there is no set
abbrev pub part_text : (label : List ℕ) → Option Set → List ℕ
part_text label None = []
part_text label (Some s) = label ++ set_text s.spans.items

-- `at 60`, `from 0 to 60`, or `from 61 on`; nothing, for all moments
abbrev pub period_text : Span → List ℕ
period_text s =
    if s.from == s.to then codes " at " ++ decimal s.from
    else if nat_lt s.to 18446744073709551615
    then codes " from " ++ (decimal s.from ++ (codes " to " ++ decimal s.to))
    else if s.from == 0 then []
    else codes " from " ++ (decimal s.from ++ codes " on")

-- `exactly 3`, `at most 3`, or `at least 2 and at most 3`; `at least 2` if there is no greatest number
abbrev pub bounded_text : (least : ℕ) → (most : Option ℕ) → List ℕ
bounded_text least None = codes "at least " ++ decimal least
bounded_text least (Some most) =
    if least == most then codes "exactly " ++ decimal most
    else if least == 0 then codes "at most " ++ decimal most
    else codes "at least " ++ (decimal least ++ (codes " and at most " ++ decimal most))

abbrev pub limits_text : Limits → List ℕ
limits_text l = bounded_text l.least l.most

-- the limits want exactly this number
abbrev pub is_all : Limits → (number : ℕ) → Bool
is_all l n = l.least == n && is_this n l.most

-- the last number in the text of the limits
abbrev pub shown_number : Limits → ℕ
shown_number l = unwrap_or l.most l.least

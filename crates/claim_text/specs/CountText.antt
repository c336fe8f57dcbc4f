-- The text of what claims count.
use Rattle.std.specs.Prelude.{ℕ, ◌==◌, if◌then◌else◌, Option, Some, None, List, [], ◌∷◌, ◌++◌, codes, decimal}
use Rattle.claims.specs.declared.set.Span.{Span}
use Rattle.claims.specs.declared.set.Set.{Set}
use Rattle.claims.specs.declared.order.Order.{Order}
use Rattle.claims.specs.declared.lines.Lines.{Lines as LinesOfCode}
use Rattle.claims.specs.declared.medium.CopyFate.{CopyFate}
use Rattle.claims.specs.declared.medium.CopyFate.TheVariants.{Lost, Due}
use Rattle.claims.specs.declared.count.Count.{Count}
use Rattle.claims.specs.declared.count.Count.TheVariants.{Lines, Packets, Copies, Left, Rows}
use Rattle.claim_text.specs.Numbers.{noun, set_text, period_text}
use Rattle.claim_text.specs.DeedText.{deed_text}
use Rattle.claim_text.specs.OrderText.{is_plain, order_text}

abbrev pub mote_or_motes : List Span → List ℕ
mote_or_motes [] = codes "motes"
mote_or_motes (s ∷ []) = if s.from == s.to then codes "mote" else codes "motes"
mote_or_motes (s ∷ t ∷ ss) = codes "motes"

-- `by mote 3`, or `by motes 1 to 3`, if the word is `by`; nothing, if there is no set
abbrev pub motes_text : (word : List ℕ) → Option Set → List ℕ
motes_text word None = []
motes_text word (Some s) =
    codes " " ++ (word ++ (codes " " ++ (mote_or_motes s.spans.items ++ (codes " " ++ set_text s.spans.items))))

abbrev pub if_order_text : (names : List (List ℕ)) → (own : Option ℕ) → Option Order → List ℕ
if_order_text names own None = []
if_order_text names own (Some o) = order_text names own o (is_plain o)

abbrev pub lines_text : (names : List (List ℕ)) → (own : Option ℕ) → LinesOfCode → (number : ℕ) → List ℕ
lines_text names own l number =
    noun number (codes "line") (codes "lines")
    ++ (codes " " ++ (deed_text names own l.deed ++ if_order_text names own l.order))

abbrev pub fate_text : CopyFate → List ℕ
fate_text (Lost when) = codes " sent" ++ (period_text when ++ codes " and lost by the medium")
fate_text (Due end) = codes " lost by the medium or due by " ++ decimal end

-- what is counted, with its noun in the singular if the number in front of it is 1
abbrev pub count_text : (names : List (List ℕ)) → (own : Option ℕ) → Count → (number : ℕ) → List ℕ
count_text names own (Lines l) number = lines_text names own l number
count_text names own (Packets p) number =
    noun number (codes "packet") (codes "packets")
    ++ (codes " sent" ++ (motes_text (codes "by") p.sender ++ period_text p.when))
count_text names own (Copies c) number =
    noun number (codes "copy") (codes "copies") ++ (motes_text (codes "to") c.to ++ fate_text c.fate)
count_text names own Left number = noun number (codes "copy") (codes "copies") ++ codes " left at the end"
count_text names own Rows number = noun number (codes "line") (codes "lines") ++ codes " in the report"

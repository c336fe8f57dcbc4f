-- The text of patterns of lines.
use Rattle.std.specs.Prelude.{ℕ, Option, Some, None, List, [], ◌∷◌, ◌++◌, map, codes, decimal, slice_get}
use Rattle.program_tree.specs.declared.event.Proc.{Proc}
use Rattle.program_tree.specs.declared.event.Proc.TheVariants.{Own, Etimer, Ctimer, Radio}
use Rattle.program_tree.specs.declared.event.Target.{Target}
use Rattle.program_tree.specs.declared.event.Target.TheVariants.{One, All}
use Rattle.claims.specs.declared.what.LineKind.{LineKind}
use Rattle.claims.specs.declared.what.LineKind.TheVariants.{Start, Leave, Post, Full, Take, Drop, Print, Busy, Halt}
use Rattle.claims.specs.declared.what.LineKind.TheVariants.{Send, Recv, Lost, Deaf, Collide, Boots}
use Rattle.claims.specs.declared.pattern.Pattern.{Pattern}
use Rattle.claim_text.specs.Lists.{list_text}
use Rattle.claim_text.specs.Numbers.{part_text}

abbrev pub kind_text : LineKind → List ℕ
kind_text Start = codes "start"
kind_text Leave = codes "leave"
kind_text Post = codes "post"
kind_text Full = codes "full"
kind_text Take = codes "take"
kind_text Drop = codes "drop"
kind_text Print = codes "print"
kind_text Busy = codes "busy"
kind_text Halt = codes "halt"
kind_text Send = codes "send"
kind_text Recv = codes "recv"
kind_text Lost = codes "lost"
kind_text Deaf = codes "deaf"
kind_text Collide = codes "collide"
kind_text Boots = codes "boots"

-- the name, or the number if there is no name
abbrev pub name_or_number : Option (List ℕ) → ℕ → List ℕ
name_or_number None n = decimal n
name_or_number (Some name) n = name

abbrev pub process_text : (names : List (List ℕ)) → Proc → List ℕ
process_text names (Own p) = name_or_number (slice_get names p) p
process_text names Etimer = codes "etimer"
process_text names Ctimer = codes "ctimer"
process_text names Radio = codes "radio"

abbrev pub target_part : (names : List (List ℕ)) → Option Target → List ℕ
target_part names None = []
target_part names (Some All) = codes " process all"
target_part names (Some (One p)) = codes " process " ++ process_text names p

-- the numbers that the pattern wants, each behind its label
abbrev pub numbers_text : Pattern → List ℕ
numbers_text p =
    part_text (codes " serial ") p.serial ++ (part_text (codes " event ") p.event
    ++ (part_text (codes " sender ") p.sender ++ (part_text (codes " packet ") p.packet
    ++ part_text (codes " value ") p.value)))

-- the kinds, the process and the numbers, in quotation marks
abbrev pub pattern_text : (names : List (List ℕ)) → Pattern → List ℕ
pattern_text names p =
    34 ∷ (list_text (codes "nothing") [] (codes " or ") (map kind_text p.kinds.items)
    ++ (target_part names p.target ++ (numbers_text p ++ 34 ∷ [])))

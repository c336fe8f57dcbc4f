-- Any set of faults settles like the node within it.
use Rattle.std.proofs.Common.{ℕ, ◌<◌, ◌≤◌, Bool, List, length, inl, inr, arith, ◌∙◌}
use Rattle.survey.specs.FaultSet.{IsSet, IsWithin}
use Rattle.survey.specs.Order.{IsNode, EachHasNode}
use Rattle.survey.specs.Breaks.{HasBreak, IsSettled, AreSmallerSettled}
use Rattle.survey.proofs.Within.{within_short}

abbrev Breaks : Type 0
Breaks = List (List ℕ × ℕ)

pub break_within : (breaks : Breaks) (F G : List ℕ) (c : ℕ) → IsWithin F G → HasBreak breaks F c → HasBreak breaks G c
break_within breaks F G c within has = (has.0, has.1, λ f at. within f (has.2 f at))

-- where all nodes of fewer faults are settled, all sets of fewer faults are
pub nodes_settle : (n : ℕ) (offers : List ℕ → List ℕ) (holds : List ℕ → ℕ → Bool) (claims : ℕ) (breaks : Breaks) (size : ℕ)
    → EachHasNode n offers holds
    → ((F : List ℕ) → IsNode offers F → IsSet n F → length F < size → IsSettled holds claims breaks F)
    → AreSmallerSettled n size holds claims breaks
nodes_settle n offers holds claims breaks size each nodes G set less c lt =
    let node = each G set in
    let N = node.0 in
    let short : length N ≤ length G = within_short n N G node.2 node.3 in
    elim (nodes N node.1 node.2 (omega arith) c lt) [
      | inl is ↦ inl (node.4 c ∙ is)
      | inr has ↦ inr (break_within breaks N G c node.3 has)
    ]

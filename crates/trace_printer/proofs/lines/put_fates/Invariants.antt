use Rattle.std.proofs.Common.{◌≡◌, ◌++◌, ◌∷◌, map, drop}
use Rattle.std.specs.List.{flat_map}
use Rattle.trace_printer.specs.Words.{fate_word}
use Rattle.trace_printer.proofs.lines.put_fates.Given as goal

-- the page, followed by the remaining fates, is the final page
abbrev pub invariant-loop-fate : goal.invariant-loop-fate
invariant-loop-fate l = l.page ++ flat_map (λ w. 32 ∷ w) (map fate_word (drop l.fate-index l.fates)) ≡ l.fn.page ++ flat_map (λ w. 32 ∷ w) (map fate_word l.fates)

use Rattle.std.proofs.Common.{◌≡◌, ◌++◌, drop, map, string_bytes}
use Rattle.std.specs.List.{flat_map}
use Rattle.claim_text.specs.Lists.{list_text}
use Rattle.claim_text.proofs.part.write_list.Given as goal

-- the text, followed by the text of what is left, is the final text
abbrev pub invariant-loop-part : goal.invariant-loop-part
invariant-loop-part g l =
    string_bytes l.text
    ++ flat_map (λ t. l.words.between.now ++ t) (map (g.T.Part.text l.scope.names.now l.scope.own) (drop l.part-index l.more))
    ≡ list_text l.words.none.now l.words.before.now l.words.between.now (map (g.T.Part.text l.scope.names.now l.scope.own) l.fn.parts)

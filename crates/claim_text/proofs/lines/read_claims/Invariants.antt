use Rattle.std.proofs.Common.{◌≡◌, take, map, filter}
use Rattle.claim_text.specs.ClaimText.{text_of}
use Rattle.claim_text.specs.ClaimLines.{is_claim_line, lines_of}
use Rattle.claim_text.proofs.lines.read_claims.Given as goal

-- the claims so far have the texts of the lines so far
abbrev pub invariant-loop-index : goal.invariant-loop-index
invariant-loop-index l =
    map (text_of l.names) l.claims.items ≡ filter is_claim_line (take l.index (lines_of l.text))

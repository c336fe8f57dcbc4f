use Rattle.std.proofs.Common.{◌≡◌, ◌∙◌, ℕ, List, [], map, ap, Bor}
use Rattle.std.proofs.lemmas.Result.{err_from_is_err_and}
use Rattle.claim_text.specs.ClaimLines.{is_claim_line, lines_of}
use Rattle.claim_text.proofs.LineLaws.{wanted_more, refused}
use Rattle.claim_text.proofs.lines.read_claims.Goals as goal

pub loop-index-preserved : goal.loop-index-preserved
loop-index-preserved c =
    let is : map (λ (b : Bor (List ℕ)). b.now) c.deref-line-items.result.now ≡ lines_of c.args.text.now =
    ap (map (λ b. b.now)) c.deref-line-items.ensures.value ∙ c.in_ok-lines.ensures.lines in
    wanted_more c.deref-line-items.result.now c.loop-index.index (record { ref_ptr = (0, 0); now = [] }) c.loop-index-test.true is_claim_line
    (lines_of c.args.text.now) _ _ is c.loop-index.invariant c.in_ok-add_line.ensures.added

pub returns-in_err-add_line-clause-refused : goal.returns-in_err-add_line-clause-refused
returns-in_err-add_line-clause-refused c =
    let is : map (λ (b : Bor (List ℕ)). b.now) c.deref-line-items.result.now ≡ lines_of c.args.text.now =
    ap (map (λ b. b.now)) c.deref-line-items.ensures.value ∙ c.in_ok-lines.ensures.lines in
    let p = err_from_is_err_and c.from_residual-in_err-add_line.result c.from_residual-in_err-add_line.ensures.1 in
    rw (p.1, p.2) (refused c.deref-line-items.result.now c.loop-index.index _ c.loop-index-test.true c.args.names.now c.args.text.now
    c.loop-index.claims.items _ is c.loop-index.invariant c.in_err-add_line.ensures.at)

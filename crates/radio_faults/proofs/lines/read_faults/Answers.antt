use Rattle.std.proofs.Common.{◌≡◌, ◌∙◌, ℕ, List, [], map, ap, Bor}
use Rattle.std.proofs.lemmas.Result.{err_from_is_err_and}
use Rattle.radio_faults.specs.FaultLines.{lines_of}
use Rattle.radio_faults.proofs.LineLaws.{faults_more, refused}
use Rattle.radio_faults.proofs.lines.read_faults.Goals as goal

pub loop-index-preserved : goal.loop-index-preserved
loop-index-preserved c =
    let is : map (λ (b : Bor (List ℕ)). b.now) c.deref-line-items.result.now ≡ lines_of c.args.text.now =
    ap (map (λ b. b.now)) c.deref-line-items.ensures.value ∙ c.in_ok-lines.ensures.lines in
    faults_more c.deref-line-items.result.now c.loop-index.index (record { ref_ptr = (0, 0); now = [] }) c.loop-index-test.true
    (lines_of c.args.text.now) _ _ is c.loop-index.invariant c.in_ok-add_line.ensures.added

pub returns-in_err-add_line-clause-refused : goal.returns-in_err-add_line-clause-refused
returns-in_err-add_line-clause-refused c =
    let is : map (λ (b : Bor (List ℕ)). b.now) c.deref-line-items.result.now ≡ lines_of c.args.text.now =
    ap (map (λ b. b.now)) c.deref-line-items.ensures.value ∙ c.in_ok-lines.ensures.lines in
    let p = err_from_is_err_and c.from_residual-in_err-add_line.result c.from_residual-in_err-add_line.ensures.1 in
    rw (p.1, p.2) (refused c.deref-line-items.result.now c.loop-index.index _ c.loop-index-test.true c.args.text.now
    c.loop-index.faults.items _ is c.loop-index.invariant c.in_err-add_line.ensures.refused)

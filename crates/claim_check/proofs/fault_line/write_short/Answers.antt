use Rattle.std.proofs.Common.{ap, ◌≡◌, ◌∙◌, ◌++◌, subst}
use Rattle.std.specs.Fmt.{WritesInCalls}
use Rattle.std.specs.Fmt.InlineText.{inline_text, AppendsIfIntact}
use Rattle.simulation.specs.FaultLines.{WritesLine}
use Rattle.simulation.proofs.Lines.{appended_in_calls, for_some, wrote}
use Rattle.claim_check.proofs.fault_line.write_short.Goals as goal

pub returns-in-Ok : goal.returns-in-Ok
returns-in-Ok g c = record {
  part =
      for_some (g.D.Display.output c.args.text) (λ bs. WritesInCalls AppendsIfIntact c.new-short.result bs c.write_fmt.new.self)
      (λ bs. WritesLine (g.E.Write.contents c.args.errors.now) (g.E.Write.contents c.write_bytes.new.writer) c.write_bytes.result bs) c.in-Ok.ensures.writes (λ bs calls.
      let is : inline_text c.write_fmt.new.self ≡ bs = ((appended_in_calls c.new-short.result bs c.write_fmt.new.self calls) c.new-short.ensures.intact).1 ∙ ap (λ l. l ++ bs) c.new-short.ensures.text in
      subst (λ l. WritesLine (g.E.Write.contents c.args.errors.now) (g.E.Write.contents c.write_bytes.new.writer) c.write_bytes.result l) (c.as_bytes.ensures.value ∙ (c.as_str.ensures.value ∙ is)) (wrote _ _ _ _ c.write_bytes.ensures.writes));
}

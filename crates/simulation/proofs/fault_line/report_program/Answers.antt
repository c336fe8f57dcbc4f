use Rattle.std.proofs.Common.{ap, sym, ◌≡◌, ◌∙◌, ◌∷◌, [], ◌++◌, List, ℕ, subst, append_assoc}
use Rattle.std.specs.Prelude.{codes, decimal}
use Rattle.program_tree.specs.Kinds.{kind_number}
use Rattle.program_tree.specs.declared.error.ReadError.{ReadError}
use Rattle.net_scenario.specs.declared.error.ScenarioError.TheVariants as scenario
use Rattle.simulation.specs.FaultLines.{WritesLine, AppendsPrefix, fault_part, line_part, written_line}
use Rattle.simulation.specs.declared.error.SimError.TheVariants as fault
use Rattle.simulation.proofs.Lines.{stopped, stops_within, of_front, after_piece, wrote_then}
use Rattle.simulation.proofs.fault_line.report_program.Goals as goal

regrouped : (m p n f l t : List ℕ) → (m ++ p) ++ (n ++ ((f ++ l) ++ t)) ≡ (m ++ (((p ++ n) ++ f) ++ l)) ++ t
regrouped m p n f l t =
    append_assoc m p (n ++ ((f ++ l) ++ t)) ∙ ap (λ z. m ++ (p ++ (n ++ z))) (append_assoc f l t)
    ∙ sym (append_assoc m (((p ++ n) ++ f) ++ l) t
    ∙ ap (λ z. m ++ z) (append_assoc ((p ++ n) ++ f) l t ∙ (append_assoc (p ++ n) f (l ++ t) ∙ append_assoc p n (f ++ (l ++ t)))))

-- the end of the line, in the pieces in which it is written
ended : (e : ReadError) → codes " fault " ++ (decimal (kind_number e.kind) ++ (codes " line " ++ (decimal e.line ++ 10 ∷ []))) ≡ (fault_part e ++ line_part e) ++ 10 ∷ []
ended e =
    ap (λ l. codes " fault " ++ (decimal (kind_number e.kind) ++ l)) (sym (append_assoc (codes " line ") (decimal e.line) (10 ∷ [])))
    ∙ sym (append_assoc (codes " fault ") (decimal (kind_number e.kind)) (line_part e ++ 10 ∷ []))
    ∙ sym (append_assoc (fault_part e) (line_part e) (10 ∷ []))

-- the line in three pieces
pieces : (name : List ℕ) (e : ReadError) → (codes "motesim: " ++ codes "program ") ++ (name ++ ((fault_part e ++ line_part e) ++ 10 ∷ [])) ≡ written_line (fault.Scenario (scenario.Program name e))
pieces name e = regrouped (codes "motesim: ") (codes "program ") name (fault_part e) (line_part e) (10 ∷ [])

pub returns-in_err-write_bytes : goal.returns-in_err-write_bytes
returns-in_err-write_bytes g c = record {
  writes =
      let a = g.E.Write.contents c.args.errors.now in
      let b = g.E.Write.contents c.write_bytes.new.errors in
      let name = c.args.name.now in
      let error = c.args.error.now in
      let rest = name ++ ((fault_part error ++ line_part error) ++ 10 ∷ []) in
      stopped a b c.from_residual.result (written_line (fault.Scenario (scenario.Program name error))) c.from_residual.ensures.0
      (subst (AppendsPrefix a b) (pieces name error) (stops_within a b (codes "motesim: " ++ codes "program ") rest (of_front a b (codes "motesim: " ++ codes "program ") c.in_err-write_bytes.ensures.writes)));
}

pub returns-in_err-write_bytes-2 : goal.returns-in_err-write_bytes-2
returns-in_err-write_bytes-2 g c = record {
  writes =
      let a = g.E.Write.contents c.args.errors.now in
      let b = g.E.Write.contents c.write_bytes.new.errors in
      let d = g.E.Write.contents c.write_bytes-2.new.errors in
      let name = c.args.name.now in
      let error = c.args.error.now in
      let rest = (fault_part error ++ line_part error) ++ 10 ∷ [] in
      let within : AppendsPrefix b d name = subst (AppendsPrefix b d) (c.as_bytes.ensures.value ∙ c.as_str.ensures.text) (of_front b d _ c.in_err-write_bytes-2.ensures.writes) in
      stopped a d c.from_residual-in_err-write_bytes-2.result (written_line (fault.Scenario (scenario.Program name error))) c.from_residual-in_err-write_bytes-2.ensures.0
      (subst (AppendsPrefix a d) (pieces name error)
      (after_piece a b d (codes "motesim: " ++ codes "program ") (name ++ rest) c.in_ok-write_bytes.ensures.writes (stops_within b d name rest within)));
}

pub returns : goal.returns
returns g c = record {
  writes =
      let a = g.E.Write.contents c.args.errors.now in
      let b = g.E.Write.contents c.write_bytes.new.errors in
      let d = g.E.Write.contents c.write_bytes-2.new.errors in
      let e = g.E.Write.contents c.write_short.new.errors in
      let name = c.args.name.now in
      let error = c.args.error.now in
      let r = c.write_short.result in
      let end : WritesLine d e r (codes " fault " ++ (decimal (kind_number error.kind) ++ (codes " line " ++ (decimal error.line ++ 10 ∷ [])))) =
      subst (λ k. WritesLine d e r (codes " fault " ++ (decimal k ++ (codes " line " ++ (decimal error.line ++ 10 ∷ []))))) c.number-kind.ensures.number c.write_short.ensures.part in
      let last : WritesLine d e r ((fault_part error ++ line_part error) ++ 10 ∷ []) = subst (WritesLine d e r) (ended error) end in
      let rest : WritesLine b e r (name ++ ((fault_part error ++ line_part error) ++ 10 ∷ [])) =
      subst (λ l. WritesLine b e r (l ++ ((fault_part error ++ line_part error) ++ 10 ∷ []))) (c.as_bytes.ensures.value ∙ c.as_str.ensures.text) (wrote_then b d e r _ ((fault_part error ++ line_part error) ++ 10 ∷ []) c.in_ok-write_bytes-2.ensures.writes last) in
      subst (WritesLine a e r) (pieces name error) (wrote_then a b e r (codes "motesim: " ++ codes "program ") (name ++ ((fault_part error ++ line_part error) ++ 10 ∷ [])) c.in_ok-write_bytes.ensures.writes rest);
}

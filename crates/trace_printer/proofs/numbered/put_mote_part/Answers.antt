use Rattle.std.proofs.Common.{◌≡◌, ◌∷◌, [], ◌++◌, List, ℕ, OnOk, map, codes, decimal, ap, subst, ◌∙◌, arith, append_assoc}
use Rattle.std.specs.List.{flat_map}
use Rattle.program_tree.specs.Program.{tree_of}
use Rattle.trace_printer.specs.ReportText.{line_text}
use Rattle.trace_printer.specs.TraceLines.{part_text}
use Rattle.trace_printer.specs.Words.{line_of}
use Rattle.trace_printer.proofs.TraceLines.{part_first, part_later}
use Rattle.trace_printer.proofs.numbered.put_mote_part.Goals as goal

pub returns-then-skip-gt0 : goal.returns-then-skip-gt0
returns-then-skip-gt0 c = record {
  appended =
      let head = line_of (codes "mote") (decimal c.args.mote ∷ c.args.name.now ∷ []) in
      subst (λ (l : List ℕ). OnOk c.put_lines.result (c.put_lines.new.page ≡ c.args.page.now ++ l))
      (part_later (line_text (tree_of c.args.program.now)) head c.args.trace.now c.some_of.result.now c.args.skip c.args.count (omega arith) c.some_of.ensures.part)
      c.put_lines.ensures.appended;
}

pub returns : goal.returns
returns c = record {
  appended =
      let f = line_text (tree_of c.args.program.now) in
      let head = line_of (codes "mote") (decimal c.args.mote ∷ c.args.name.now ∷ []) in
      let lines = c.some_of-2.result.now in
      let none : 0 ≡ c.args.skip = omega arith in
      let text : head ++ flat_map f lines ≡ part_text (head ∷ map f c.args.trace.now) c.args.skip c.args.count =
      part_first f head c.args.trace.now lines c.args.count (omega arith) c.some_of-2.ensures.part ∙ ap (λ n. part_text (head ∷ map f c.args.trace.now) n c.args.count) none in
      subst (λ (l : List ℕ). OnOk c.put_lines-2.result (c.put_lines-2.new.page ≡ l))
      (ap (λ (l : List ℕ). l ++ flat_map f lines) c.in_ok-put_head.ensures.appended ∙ append_assoc c.args.page.now head (flat_map f lines) ∙ ap (λ (l : List ℕ). c.args.page.now ++ l) text)
      c.put_lines-2.ensures.appended;
}

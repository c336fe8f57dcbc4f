use Rattle.std.proofs.Common.{◌≡◌, ◌∙◌, ◌+◌, map, ap, sym, rules}
use Rattle.radio_faults.specs.FaultText.{fault_text}
use Rattle.radio_faults.specs.FaultLines.{words_of}
use Rattle.radio_faults.proofs.Again.{none_read, other_read}
use Rattle.radio_faults.proofs.Fits.{fits}
use Rattle.radio_faults.proofs.lines.read_line.Goals as goal

pub returns-in_default : goal.returns-in_default
returns-in_default c = record {
  reads =
      let words : map (λ word. word.now) c.as_slice.result.now ≡ words_of c.args.line.now = ap (map (λ word. word.now)) c.as_slice.ensures.value ∙ c.in_ok-words.ensures.words in
      none_read c.args.number c.args.line.now _ words c.in_default.ensures.value;
}

pub returns : goal.returns
returns c = record {
  reads =
      let words : map (λ word. word.now) c.as_slice.result.now ≡ words_of c.args.line.now = ap (map (λ word. word.now)) c.as_slice.ensures.value ∙ c.in_ok-words.ensures.words in
      let written : c.as_bytes.result.now ≡ fault_text c.in-Some.fault = search rules in
      let shown : c.as_str.result.now ≡ c.as_bytes.result.now = search rules in
      let other : c.as_bytes.result.now ≡ c.args.line.now → ⊥ = λ same. absurd (cc (c.if-is_text.ensures.same.1 (shown ∙ same))) in
      other_read c.args.number c.args.line.now _ words c.in-Some.fault c.as_bytes.result.now _ c.in-Some.ensures.value written other (ap (λ n. n + 1) c.shared-column.ensures.value);
}

pub returns-then-is_text : goal.returns-then-is_text
returns-then-is_text c = record {
  reads =
      let written : c.as_str.result.now ≡ fault_text c.in-Some.fault = search rules in
      (sym written ∙ c.if-is_text.ensures.same.0 (search rules), fits _ c.in-Some.fault c.in-Some.ensures.value);
}

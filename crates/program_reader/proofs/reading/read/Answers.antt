use Rattle.std.proofs.Common.{◌≡◌, ◌∙◌, Result, Err, Some, [], ◌∷◌, arith, ap, subst, sym, map, length, ◌≤◌, ◌<◌, ◌-◌}
use Rattle.std.proofs.Common.{refl, get_or}
use Rattle.std.specs.Prelude.{slice_get}
use Rattle.std.proofs.lemmas.Option.{slice_get_read}
use Rattle.program_tree.specs.Faults.{nothing_yet}
use Rattle.program_reader.specs.Machine.{tell, from_events, fault}
use Rattle.program_tree.specs.Program.{tree_of}
use Rattle.program_tree.specs.Reading.{IsErrorOf}
use Rattle.program_tree.specs.Reading.{IsTreeOfTokens}
use Rattle.program_tree.specs.Text.{IsLexed}
use Rattle.program_tree.specs.TokenMeaning.{token_of}
use Rattle.program_tree.specs.declared.error.ReadError.{ReadError}
use Rattle.program_reader.specs.declared.fault.ReadFailure.{ReadFailure}
use Rattle.program_reader.specs.declared.fault.ReadFailure.TheVariants as refusal
use Rattle.program_tree.specs.declared.program.Program.{Program}
use Rattle.program_reader.proofs.Texts.{one_tree, tree_read, reported_within, line_within, reported_read, reports_no_memory}
use Rattle.program_reader.proofs.Texts.{never_both}
use Rattle.program_reader.proofs.reading.read.Goals as goal

pub program-requires : goal.program-requires
program-requires c = record {
  are_lexed = record {
    text = c.args.text.now;
    lines = c.in_ok-lexed.lexed.lines.items;
    lexed = subst (λ z. IsLexed c.args.text.now (map token_of z) c.in_ok-lexed.lexed.lines.items)
        (sym c.deref.ensures.value) c.in_ok-lexed.ensures.is_lexed;
  };
}

pub returns-in-Ok-clause-only : goal.returns-in-Ok-clause-only
returns-in-Ok-clause-only c = λ t h.
    let k : IsTreeOfTokens (map token_of c.in_ok-lexed.lexed.tokens.items) (tree_of c.in-Ok.program) =
    subst (λ z. IsTreeOfTokens (map token_of z) (tree_of c.in-Ok.program)) c.deref.ensures.value
    c.in-Ok.ensures.ok in
    one_tree _ _ _ (tree_read _ _ _ _ c.in_ok-lexed.ensures.is_lexed k) h

pub overflow_sub-len : goal.overflow_sub-len
overflow_sub-len c =
    let q : ◌≡◌ {A = Result Program ReadFailure} (Err c.in-Err-Fault.field-0) (Err (refusal.Fault c.in-Err-Fault.fault)) =
    ap Err c.in-Err-Fault.field-0-is in
    let t : tell nothing_yet (from_events ∷ []) (map token_of c.in_ok-lexed.lexed.tokens.items)
    ≡ fault c.in-Err-Fault.fault.kind c.in-Err-Fault.fault.left =
    subst (λ z. tell nothing_yet (from_events ∷ []) (map token_of z) ≡ fault c.in-Err-Fault.fault.kind
    c.in-Err-Fault.fault.left) c.deref.ensures.value (c.in-Err-Fault.ensures.err c.in-Err-Fault.fault q) in
    let w : c.in-Err-Fault.fault.left ≤ length c.in_ok-lexed.lexed.tokens.items = reported_within _ _ _ t in
    omega arith

pub index-requires : goal.index-requires
index-requires c =
    let w : length c.in_ok-lexed.lexed.tokens.items - c.in-Err-Fault.fault.left
    < length c.in_ok-lexed.lexed.lines.items = line_within _ _ _ c.in-Err-Fault.fault.left c.in_ok-lexed.ensures.is_lexed in
    omega arith

reported_here : (c : goal.After-drop-lexed-3) → IsErrorOf c.args.text.now c.in-Err-Fault.fault.kind c.index.result.now
reported_here c =
    let q : ◌≡◌ {A = Result Program ReadFailure} (Err c.in-Err-Fault.field-0) (Err (refusal.Fault c.in-Err-Fault.fault)) =
    ap Err c.in-Err-Fault.field-0-is in
    let t : tell nothing_yet (from_events ∷ []) (map token_of c.in_ok-lexed.lexed.tokens.items)
    ≡ fault c.in-Err-Fault.fault.kind c.in-Err-Fault.fault.left =
    subst (λ z. tell nothing_yet (from_events ∷ []) (map token_of z) ≡ fault c.in-Err-Fault.fault.kind
    c.in-Err-Fault.fault.left) c.deref.ensures.value (c.in-Err-Fault.ensures.err c.in-Err-Fault.fault q) in
    let w : length c.in_ok-lexed.lexed.tokens.items - c.in-Err-Fault.fault.left
    < length c.in_ok-lexed.lexed.lines.items = line_within _ _ _ c.in-Err-Fault.fault.left c.in_ok-lexed.ensures.is_lexed in
    let at : slice_get c.in_ok-lexed.lexed.lines.items
    (length c.in_ok-lexed.lexed.tokens.items - c.in-Err-Fault.fault.left) ≡ Some c.index.result.now =
    let same : c.len.result - c.in-Err-Fault.fault.left ≡ length c.in_ok-lexed.lexed.tokens.items -
    c.in-Err-Fault.fault.left = omega arith in
    slice_get_read _ _ _ _ refl w (c.index.ensures
    ∙ ap (λ i. get_or c.in_ok-lexed.lexed.lines.items i c.index.result.now) same) in
    reported_read _ _ _ _ c.in-Err-Fault.fault.left _ c.in_ok-lexed.ensures.is_lexed t at

pub returns-clause-matches : goal.returns-clause-matches
returns-clause-matches c = λ e is other.
    let same : ◌≡◌ {A = ReadError} (record { kind = c.in-Err-Fault.fault.kind; line = c.index.result.now }) e = cc is in
    subst (λ z. IsErrorOf c.args.text.now z.kind z.line) same (reported_here c)

pub returns-clause-memory : goal.returns-clause-memory
returns-clause-memory c = λ e is m.
    let same : ◌≡◌ {A = ReadError} (record { kind = c.in-Err-Fault.fault.kind; line = c.index.result.now }) e = cc is in
    absurd (reports_no_memory _ _ (subst (λ k. IsErrorOf c.args.text.now k c.index.result.now) (ap (λ z. z.kind) same ∙ m)
    (reported_here c)))

pub returns-clause-accepts : goal.returns-clause-accepts
returns-clause-accepts c = λ t h e is. absurd (never_both _ _ _ _ h (reported_here c))

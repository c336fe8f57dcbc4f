use Rattle.std.proofs.Common.{◌≡◌, ◌+◌, ◌≤◌, ◌++◌, string_bytes, map, length}
use Rattle.program_tree.specs.Canonical.{text_from, canonical_text}
use Rattle.program_tree.specs.TokenMeaning.{token_of}
use Rattle.mote_program.proofs.printer.print.Given as goal

abbrev pub invariant-loop-tokens : goal.invariant-loop-tokens
invariant-loop-tokens l = record {
  within : l.braces + length l.tokens ≤ length l.initial.tokens;
  so_far : string_bytes l.text ++ text_from l.braces (map token_of l.tokens)
      ≡ canonical_text (map token_of l.initial.tokens);
}

abbrev pub decreases-loop-tokens : goal.decreases-loop-tokens
decreases-loop-tokens l = length l.tokens

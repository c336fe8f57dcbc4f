use Rattle.std.proofs.Common.{◌≡◌, ◌++◌, drop, string_bytes}
use Rattle.std.specs.List.{flat_map}
use Rattle.simulation.specs.Words.{texts_of}
use Rattle.claim_check.specs.Words.{line_of}
use Rattle.claim_check.proofs.command_line.lines_of.Given as goal

-- the text, followed by the lines of what is left, is the final text
abbrev pub invariant-loop-value : goal.invariant-loop-value
invariant-loop-value l = string_bytes l.text ++ flat_map line_of (texts_of (drop l.value-index l.values)) ≡ flat_map line_of (texts_of l.values)

use Rattle.std.proofs.Common.{◌+◌, ◌≤◌, length, map}
use Rattle.program_tree.specs.TokenMeaning.{token_of}
use Rattle.program_reader.proofs.LexLaws.{HasRead}
use Rattle.program_reader.proofs.lexer.lex.Given as goal

abbrev pub invariant-loop-rest : goal.invariant-loop-rest
invariant-loop-rest l =
    HasRead l.fn.text (map token_of l.lexed.tokens.items) l.lexed.lines.items l.line l.rest
    × (l.line + length l.rest ≤ length l.fn.text + 1)

abbrev pub decreases-loop-rest : goal.decreases-loop-rest
decreases-loop-rest l = length l.rest

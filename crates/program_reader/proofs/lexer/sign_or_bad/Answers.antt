use Rattle.std.proofs.Common.{sym}
use Rattle.program_tree.specs.Text.{signs}
use Rattle.program_reader.proofs.PieceLaws.{sign_front, other_front, found_sign}
use Rattle.program_reader.proofs.lexer.sign_or_bad.Goals as goal

pub returns-in-Some-clause-piece : goal.returns-in-Some-clause-piece
unfolding signs
returns-in-Some-clause-piece c = sign_front c.args.rest.now _ _ c.requires.begins_other (sym c.in-Some.ensures.value)

pub returns-in-Some-clause-moves : goal.returns-in-Some-clause-moves
unfolding signs
returns-in-Some-clause-moves c = (found_sign c.args.rest.now _ _ (sym c.in-Some.ensures.value)).moves

pub returns-in-Some-clause-within : goal.returns-in-Some-clause-within
unfolding signs
returns-in-Some-clause-within c = (found_sign c.args.rest.now _ _ (sym c.in-Some.ensures.value)).within

pub returns-in-None-clause-piece : goal.returns-in-None-clause-piece
unfolding signs
returns-in-None-clause-piece c = other_front c.args.rest.now c.requires.begins_other (sym c.in-None.ensures.value)

use Rattle.program_reader.proofs.WordLaws.{digit_step}
use Rattle.program_reader.proofs.words.number_value.Goals as goal

pub loop-digit-preserved : goal.loop-digit-preserved
loop-digit-preserved c = digit_step _ _ _ _ _ c.requires.are_digits c.loop-digit-test.true c.loop-digit.invariant c.from.ensures
    c.min-value.ensures

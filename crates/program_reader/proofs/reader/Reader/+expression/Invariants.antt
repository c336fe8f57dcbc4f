use Rattle.std.proofs.Common.{◌+◌, ◌-◌, ◌*◌}
use Rattle.program_reader.proofs.reader.Reader.+expression.Given as goal

abbrev pub decreases-sides : goal.decreases-sides
decreases-sides l = 4 * (32 - l.place.now.level) + 3

abbrev pub decreases-expression : goal.decreases-expression
decreases-expression l = 4 * (32 - l.place.now.level) + 2

abbrev pub decreases-negation : goal.decreases-negation
decreases-negation l = 4 * (32 - l.place.now.level) + 1

abbrev pub decreases-binary : goal.decreases-binary
decreases-binary l = 4 * (32 - l.place.now.level) + 1

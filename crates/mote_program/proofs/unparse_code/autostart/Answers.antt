use Rattle.std.proofs.Common.{[], get_or}
use Rattle.mote_program.specs.Spelled.{comma_tokens}
use Rattle.mote_program.proofs.Adding.{one_number}
use Rattle.mote_program.proofs.unparse_code.autostart.Goals as goal

pub loop-number-preserved : goal.loop-number-preserved
loop-number-preserved c =
    one_number (λ i. get_or c.args.names.now i []) comma_tokens _ c.loop-number.number-index
    0 _ _ _ c.loop-number-test.true c.loop-number.invariant
    (cc (c.in_ok-add_all-2.ensures.appended, c.name_at-in-loop-number.ensures.name, c.from-in-loop-number.ensures))

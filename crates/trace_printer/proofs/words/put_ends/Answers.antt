use Rattle.std.proofs.Common.{◌≡◌, ◌-◌, length, take, drop, arith}
use Rattle.std.proofs.lemmas.List.{take_rest, take-take, length-take-le}
use Rattle.trace_printer.proofs.Puts.{put_both}
use Rattle.trace_printer.proofs.words.put_ends.Goals as goal

pub returns-clause-put : goal.returns-clause-put
returns-clause-put g c =
    let n = g.row.N in
    let text = c.args.text.now in
    let m = length text - n in
    let first : c.copy_from_slice.new.self ≡ take n text = c.copy_from_slice.ensures.after in
    let last : c.copy_from_slice-2.new.self ≡ drop m text = rw (take_rest text m) at (c.copy_from_slice-2.ensures.after) in
    let long : length (take n text) ≡ n = length-take-le n text (omega arith) in
    rw (first, last) (put_both c.args.at _ _ m _ _ c.args.room.now (take n text) text c.requires.room (omega arith) (omega arith) (omega arith) (take-take m n text (omega arith)) (omega arith))

use Rattle.std.proofs.Common.{◌≡◌, ◌+◌, ◌%◌, length, decimal, ap, arith}
use Rattle.trace_printer.proofs.Digits.{decimal_hundred}
use Rattle.trace_printer.proofs.Puts.{put_again}
use Rattle.trace_printer.proofs.words.put_last_three.Goals as goal

pub returns-clause-put : goal.returns-clause-put
returns-clause-put c =
    let n = c.args.number in
    let at = c.args.at in
    let is = decimal_hundred n in
    let three : length (decimal (100 + n % 100)) ≡ 3 = ap length is in
    let end : c.put_short_number.result ≡ at + 3 = omega arith in
    rw c.last_digit.ensures.digit (put_again at (at + 3) c.args.room.now c.put_short_number.new.room 49 _ _ (omega arith) (omega arith) (rw (end, is) at c.put_short_number.ensures.put))

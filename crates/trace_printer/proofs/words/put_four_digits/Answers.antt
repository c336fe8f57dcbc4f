use Rattle.std.proofs.Common.{◌≡◌, ◌+◌, ◌/◌, ◌++◌, take, decimal, refl, ◌∙◌, arith, append_assoc}
use Rattle.std.proofs.lemmas.Fmt.{decimal_step}
use Rattle.trace_printer.proofs.Digits.{length_three}
use Rattle.trace_printer.proofs.words.put_four_digits.Goals as goal

pub returns-clause-put : goal.returns-clause-put
returns-clause-put c =
    let n = c.args.number in
    let at = c.args.at in
    let three = length_three (n / 10) (omega arith) (omega arith) in
    let end : c.put_short_number.result ≡ at + 3 = omega arith in
    let front : take (at + 3) c.put_short_number.new.room ≡ take at c.args.room.now ++ decimal (n / 10) = rw end at c.put_short_number.ensures.put in
    c.put_byte.ensures.put ∙ rw (front, c.last_digit.ensures.digit, decimal_step n (omega arith) (omega arith), append_assoc) refl

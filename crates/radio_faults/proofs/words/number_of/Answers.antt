use Rattle.std.proofs.Common.{◌≡◌, ◌∙◌, ◌+◌, ◌-◌, ◌*◌, min, sym, ap, take, get_or, arith}
use Rattle.std.proofs.lemmas.List.{take_more}
use Rattle.radio_faults.specs.FaultLines.{number_behind}
use Rattle.radio_faults.proofs.Numbers.{one_digit_more}
use Rattle.radio_faults.proofs.words.number_of.Goals as goal

pub loop-byte-preserved : goal.loop-byte-preserved
loop-byte-preserved c =
    let i = c.loop-byte.byte-index in
    let word = c.args.word.now in
    let more = take_more word i 0 c.loop-byte-test.true in
    let step : c.saturating_add-number.result ≡ min (c.loop-byte.number * 10 + (get_or word i 0 - 48)) 18446744073709551615 = omega (arith, c.saturating_add-number.ensures, c.saturating_mul.ensures, c.from.ensures, c.saturating_sub.ensures) in
    step ∙ sym (ap (number_behind 0) more ∙ (one_digit_more 0 (take i word) (get_or word i 0) ∙ ap (λ n. min (n * 10 + (get_or word i 0 - 48)) 18446744073709551615) (sym c.loop-byte.invariant)))

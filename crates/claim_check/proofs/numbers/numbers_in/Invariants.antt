use Rattle.std.proofs.Common.{◌≡◌, map, take}
use Rattle.std.specs.List.{AllByRecursion}
use Rattle.simulation.specs.Words.{texts_of}
use Rattle.claim_check.specs.Words.{IsNumber, number_in}
use Rattle.claim_check.proofs.numbers.numbers_in.Given as goal

abbrev pub invariant-loop-text : goal.invariant-loop-text
invariant-loop-text l =
    AllByRecursion IsNumber (texts_of (take l.text-index l.texts)) × (l.numbers.items ≡ map number_in (texts_of (take l.text-index l.texts)))

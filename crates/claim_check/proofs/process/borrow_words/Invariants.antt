use Rattle.std.proofs.Common.{◌≡◌, map, string_bytes, take}
use Rattle.simulation.specs.Words.{texts_of}
use Rattle.claim_check.proofs.process.borrow_words.Given as goal

abbrev pub invariant-loop-word : goal.invariant-loop-word
invariant-loop-word l = texts_of l.texts.items ≡ map string_bytes (take l.word-index l.words)

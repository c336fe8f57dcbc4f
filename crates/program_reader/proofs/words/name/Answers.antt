use Rattle.program_reader.proofs.WordLaws.{word-IsUtf8}
use Rattle.program_reader.proofs.words.name.Goals as goal

pub returns-in-Err : goal.returns-in-Err
returns-in-Err c = record { value = absurd (c.in-Err.ensures.cases.0 (word-IsUtf8 c.args.word.now c.requires.word_bytes)) }

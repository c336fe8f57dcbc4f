use Rattle.std.proofs.Common.{sym}
use Rattle.program_reader.proofs.WordLaws.{number_token, table_token, other_token}
use Rattle.program_reader.proofs.words.word_token.Goals as goal

pub returns-then-is_number : goal.returns-then-is_number
returns-then-is_number c = record { value = number_token _ _ (sym c.if-is_number.ensures.number) c.number_value.ensures.value }

pub returns-in-Some : goal.returns-in-Some
returns-in-Some c = record { value = table_token _ _ (sym c.if-is_number.ensures.number) (sym c.in-Some.ensures.value) }

pub returns-in-None : goal.returns-in-None
returns-in-None c = record { value = other_token _ _ (sym c.if-is_number.ensures.number) (sym c.in-None.ensures.value) c.name.ensures.value }

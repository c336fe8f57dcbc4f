-- The number that identifies each kind of error.
use Rattle.std.specs.Prelude.{ℕ}
use Rattle.program_tree.specs.declared.error.ReadErrorKind.{ReadErrorKind}
use Rattle.program_tree.specs.declared.error.ReadErrorKind.TheVariants.{BadToken, Unexpected, UnknownName, NameTwice}
use Rattle.program_tree.specs.declared.error.ReadErrorKind.TheVariants.{NumberTooLarge, WaitInSimpleBlock, TooDeep}
use Rattle.program_tree.specs.declared.error.ReadErrorKind.TheVariants.{TooMany, NoProcess, BadTarget, Memory}

abbrev pub kind_number : ReadErrorKind → ℕ
kind_number BadToken = 1
kind_number Unexpected = 2
kind_number UnknownName = 3
kind_number NameTwice = 4
kind_number NumberTooLarge = 5
kind_number WaitInSimpleBlock = 6
kind_number TooDeep = 7
kind_number TooMany = 8
kind_number NoProcess = 9
kind_number BadTarget = 10
kind_number Memory = 11

-- The meaning of the expressions in flat code, of `src/formula.rt`.
use Rattle.std.specs.Prelude.{ℕ}
use Rattle.program_tree.specs.declared.formula.Term.{Term}
use Rattle.program_tree.specs.declared.formula.Term.TheVariants as term
use Rattle.program_tree.specs.declared.formula.Formula.{Formula}
use Rattle.program_tree.specs.declared.formula.Formula.TheVariants as formula
use Rattle.program_tree.specs.Tree.{Expression, number, variable, word, is, fired, binary}
use Rattle.program_tree.specs.Meaning.{any_of, expression_of}

abbrev pub term_of : Term → Expression ℕ
term_of (term.Number n) = number n
term_of (term.Variable i) = variable i
term_of term.Word = word
term_of (term.Is e) = is (any_of e)
term_of (term.Fired t) = fired t
term_of (term.WithNumber o i n) = binary o (variable i) (number n)
term_of (term.WithVariable o i j) = binary o (variable i) (variable j)
term_of (term.WithWord o i) = binary o (variable i) word

abbrev pub formula_of : Formula → Expression ℕ
formula_of (formula.Pair o a b) = binary o (term_of a) (term_of b)
formula_of (formula.Chain o p a b c) = binary o (binary p (term_of a) (term_of b)) (term_of c)
formula_of (formula.Tree e) = expression_of e

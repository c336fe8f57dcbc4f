-- The next steps of reading after the first token of an expression.
use Rattle.std.proofs.Common.{◌≡◌, ℕ, ◌+◌, ◌<◌, ◌≤◌, List, [], ◌∷◌, drop, length, refl, sym, ap, ◌∙◌, arith, Some}
use Rattle.std.proofs.Common.{None, true, false, nat_lt}
use Rattle.program_tree.specs.Faults.{Scope}
use Rattle.program_tree.specs.Forms.{Operand, word_of, tells_of, alone}
use Rattle.program_tree.specs.Grammar.{Context, inner, key, sign, value_mark, opening, operand_mark}
use Rattle.program_reader.specs.Machine.{Pending, tell, fault, first, first_broken, word_step, expression, operand}
use Rattle.program_reader.specs.Machine.{operator, open_sign, close}
use Rattle.program_tree.specs.InScope.{NamesInScope}
use Rattle.program_tree.specs.Shapes.{Name, OperandShape}
use Rattle.program_reader.specs.Steps.{ReadsSign, Reads}
use Rattle.program_tree.specs.Tokens.{Token}
use Rattle.program_tree.specs.Tree.{a_variable}
use Rattle.program_tree.specs.declared.error.ReadErrorKind.TheVariants.{NumberTooLarge, TooDeep}
use Rattle.program_tree.specs.declared.keyword.Keyword.{Keyword}
use Rattle.std.proofs.lemmas.Bool.Decides.{nat_tests}
use Rattle.program_tree.specs.Forms as form
use Rattle.program_tree.specs.Tokens as token
use Rattle.program_reader.proofs.NameSteps.{taken, broken, front_of}

pub word_start : (s : Scope) (c : Context) (f : Pending) (old : List Token) (k : Keyword) (o : Operand)
    → first old ≡ Some (token.Keyword k) → word_of k ≡ tells_of o →
    tell s (expression c ∷ f) old ≡ tell s (open_sign ∷ operand c o ∷ close ∷ f) (drop 1 old)
word_start s c f old k o is e = taken s (expression c ∷ f) (open_sign ∷ operand c o ∷ close ∷ f) old (token.Keyword k)
    (key k) is (ap (λ w. word_step c k w f) e) refl

pub alone_start : (s : Scope) (c : Context) (f : Pending) (old : List Token) (k : Keyword)
    → first old ≡ Some (token.Keyword k) → word_of k ≡ alone → tell s (expression c ∷ f) old ≡ tell s f (drop 1 old)
alone_start s c f old k is e = taken s (expression c ∷ f) f old (token.Keyword k) (key k) is
    (ap (λ w. word_step c k w f) e) refl

pub value_large : (s : Scope) (n : ℕ) → 65535 < n → first_broken s (value_mark n) ≡ Some NumberTooLarge
value_large s n h = let large : nat_lt 65535 n ≡ true = grind (arith, nat_tests) in rw large refl

pub opens_sound : (s : Scope) (t : Token) (l : ℕ) → l ≤ 32 → first_broken s (opening t l) ≡ None
opens_sound s t l h = let low : nat_lt 32 l ≡ false = grind (arith, nat_tests) in rw low refl

pub opens_deep : (s : Scope) (t : Token) (l : ℕ) → 32 < l → first_broken s (opening t l) ≡ Some TooDeep
opens_deep s t l h = let deep : nat_lt 32 l ≡ true = grind (arith, nat_tests) in rw deep refl

pub variable_start : (s : Scope) (c : Context) (f : Pending) (old : List Token) (x : Name)
    → first old ≡ Some (token.Name x) → tell s (expression c ∷ f) old ≡ tell s (operand c (form.name a_variable) ∷ f)
    old
variable_start s c f [] x e = absurd cc
variable_start s c f (t ∷ ts) x e = let is : t ≡ token.Name x = cc in rw is refl

pub number_large : (s : Scope) (c : Context) (f : Pending) (old : List Token) (n : ℕ)
    → first old ≡ Some (token.Number n) → 65535 < n → tell s (expression c ∷ f) old ≡ fault NumberTooLarge (length old)
number_large s c f old n is h = broken s (expression c ∷ f) f old (token.Number n) (value_mark n) NumberTooLarge is refl
    (value_large s n h)

pub bang_start : (s : Scope) (c : Context) (f : Pending) (old : List Token) → first old ≡ Some token.Bang
    → c.level < 32 → tell s (expression c ∷ f) old ≡ tell s (expression (inner c) ∷ f) (drop 1 old)
bang_start s c f old is h = taken s (expression c ∷ f) (expression (inner c) ∷ f) old token.Bang
    (opening token.Bang (c.level + 1)) is refl (opens_sound s token.Bang (c.level + 1) (omega arith))

pub open_start : (s : Scope) (c : Context) (f : Pending) (old : List Token) → first old ≡ Some token.Open
    → c.level < 32 →
    tell s (expression c ∷ f) old ≡ tell s (expression (inner c) ∷ operator ∷ expression (inner c) ∷ close ∷ f)
    (drop 1 old)
open_start s c f old is h =
    taken s (expression c ∷ f) (expression (inner c) ∷ operator ∷ expression (inner c) ∷ close ∷ f) old token.Open
    (opening token.Open (c.level + 1)) is refl (opens_sound s token.Open (c.level + 1) (omega arith))

-- a keyword with its parentheses
pub answer_reads : (s : Scope) (c : Context) (k : Keyword) (o : Operand) (v : NamesInScope → OperandShape o)
    (old m0 m1 m2 new : List Token) → first old ≡ Some (token.Keyword k) → word_of k ≡ tells_of o → m0 ≡ drop 1 old
    → ReadsSign open_sign token.Open m0 m1 →
    Reads s s (operand c o) (λ n ms. operand_mark c o (v n) ∷ ms) m1 m2 → ReadsSign close token.Close m2 new →
    Reads s s (expression c) (λ n ms. key k ∷ sign token.Open ∷ operand_mark c o (v n) ∷ sign token.Close ∷ ms) old new
answer_reads s c k o v old m0 m1 m2 new is e from r1 r2 r3 = record {
  spelled = λ n h ms q.
      front_of old (token.Keyword k) is ∙ ap (λ ts. token.Keyword k ∷ ts) (sym from ∙ r1.spelled)
      ∙ ap (λ ts. token.Keyword k ∷ token.Open ∷ ts)
      (r2.spelled n h (sign token.Close ∷ ms) (sym (r3.spelled ∙ ap (λ ts. token.Close ∷ ts) (sym q))));
  goes_on = λ f.
      word_start s c f old k o is e ∙ ap (λ ts. tell s (open_sign ∷ operand c o ∷ close ∷ f) ts) (sym from)
      ∙ r1.goes_on s (operand c o ∷ close ∷ f) ∙ r2.goes_on (close ∷ f) ∙ r3.goes_on s f;
}

pub ruleset word_steps = (word_start)

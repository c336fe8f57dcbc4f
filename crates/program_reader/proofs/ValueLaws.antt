-- Expressions made of the parts that were read: keywords with their operands, and the two sides of an operator.
use Rattle.std.proofs.Common.{◌≡◌, ℕ, ◌<◌, List, [], ◌∷◌, drop, length, Option, Some, refl, sym, ap, subst, ◌∙◌, Bool}
use Rattle.std.proofs.Common.{true}
use Rattle.program_tree.specs.Faults.{Scope}
use Rattle.program_tree.specs.Forms.{alone, no_value, word_of}
use Rattle.program_tree.specs.Grammar.{Context, inner, key, sign, operand_mark, expression_marks, Mark, tokens}
use Rattle.program_tree.specs.InScope.{NamesInScope, name_in, number_in}
use Rattle.program_reader.specs.Machine.{Pending, word_step, unexpected_token, tell, fault, first, expression, operator, close}
use Rattle.program_tree.specs.Scope.{expression_fits, Within}
use Rattle.program_tree.specs.Shapes.{Name}
use Rattle.program_reader.specs.Steps.{ReadsSign, Reads, Numbered, Fits, Extends}
use Rattle.program_tree.specs.Tokens.{Token}
use Rattle.program_tree.specs.Tree.{Class, Expression, expression_map, binary, negation}
use Rattle.program_reader.specs.Values.{alone_keyword, alone_value, telling_keyword, telling_class, telling_value}
use Rattle.program_reader.specs.Values.{ReadsSides}
use Rattle.program_tree.specs.declared.error.ReadErrorKind.TheVariants.{Unexpected}
use Rattle.program_tree.specs.declared.keyword.Keyword.{Keyword}
use Rattle.program_tree.specs.declared.tree.Operator.{Operator}
use Rattle.program_reader.specs.declared.value_word.Alone.{Alone}
use Rattle.program_reader.specs.declared.value_word.Telling.{Telling}
use Rattle.program_tree.specs.Forms as form
use Rattle.program_tree.specs.Tokens as token
use Rattle.program_reader.specs.declared.value_word.Alone.TheVariants as alone_word
use Rattle.program_reader.specs.declared.value_word.Telling.TheVariants as telling
use Rattle.program_reader.proofs.ExpressionSteps.{alone_start, bang_start, open_start}
use Rattle.program_reader.proofs.NameSteps.{front_of, token_then}

-- this expression is read, and has these marks
abbrev ReadsValue : Scope → Context → Expression ℕ → List Token → List Token → Type 0
ReadsValue s c e old new = Reads s s (expression c) (λ n ms. expression_marks c (expression_map (name_in n) e) ms) old
    new

abbrev NumbersValue : NamesInScope → Expression ℕ → Type 0
NumbersValue n e = Numbered n (λ n'. expression_map (number_in n') (expression_map (name_in n') e)) e

abbrev FitsValue : NamesInScope → Option Name → Expression ℕ → Type 0
FitsValue n own e = Fits n own (λ w. expression_fits w e)

-- the marks and the numbers of a value are those of its operand, and the value fits if its operand fits
record IsMadeOf (c : Context) (e : Expression ℕ) (marks : NamesInScope → List Mark → List Mark) (again : NamesInScope → Type 0)
    (fits : Within → Bool) : Type 0 where
  spelled : (n : NamesInScope) (ms : List Mark) → marks n ms ≡ expression_marks c (expression_map (name_in n) e) ms
  numbered : (n : NamesInScope) → again n → expression_map (number_in n) (expression_map (name_in n) e) ≡ e
  fit : (w : Within) → fits w ≡ expression_fits w e

pub record IsValue (s : Scope) (own : Option Name) (c : Context) (e : Expression ℕ) (old new : List Token) : Type 0
  where
    pub ok : ReadsValue s c e old new
    pub numbered : NumbersValue s.names e
    pub fits : FitsValue s.names own e

is_value : {s : Scope} {own : Option Name} {c : Context} {e : Expression ℕ} {marks : NamesInScope → List Mark → List Mark}
    {again : NamesInScope → Type 0} {fits : Within → Bool} {old new : List Token}
    → IsMadeOf c e marks again fits → Reads s s (expression c) marks old new
    → ((n : NamesInScope) → Extends s.names n → again n) → Fits s.names own fits → IsValue s own c e old new
is_value m r numbered fits = record {
  ok = record { spelled = λ n u ms q. r.spelled n u ms q ∙ ap tokens (m.spelled n ms); goes_on = r.goes_on };
  numbered = λ n u. m.numbered n (numbered n u);
  fits = λ w u. sym (m.fit w) ∙ fits w u;
}

-- a keyword that is a value by itself

alone_form : (a : Alone) → word_of (alone_keyword a) ≡ alone
alone_form alone_word.Word = refl
alone_form a = refl

alone_at : (c : Context) (a : Alone) → IsMadeOf c (alone_value a) (λ n ms. key (alone_keyword a) ∷ ms)
    (λ n. Unit {0}) (λ w. true)
alone_at c alone_word.Word = record { spelled = λ n ms. refl; numbered = λ n p. refl; fit = λ w. refl }
alone_at c a = record { spelled = λ n ms. refl; numbered = λ n p. refl; fit = λ w. refl }

pub alone_read : {own : Option Name} (s : Scope) (c : Context) (a : Alone) (k : Keyword) (e : Expression ℕ)
    (old new : List Token) → k ≡ alone_keyword a → e ≡ alone_value a → first old ≡ Some (token.Keyword k)
    → new ≡ drop 1 old → IsValue s own c e old new
alone_read s c a k e old new same is here from =
    let at : first old ≡ Some (token.Keyword (alone_keyword a)) = here ∙ ap (λ z. Some (token.Keyword z)) same in
    let r : Reads s s (expression c) (λ n ms. key (alone_keyword a) ∷ ms) old new = record {
      spelled = λ n h ms q. token_then (token.Keyword (alone_keyword a)) old new at from
          ∙ ap (λ ts. token.Keyword (alone_keyword a) ∷ ts) (sym q);
      goes_on = λ f. alone_start s c f old (alone_keyword a) at (alone_form a) ∙ ap (λ ts. tell s f ts) (sym from);
    } in
    rw is (is_value (alone_at c a) r (λ n u. tt) (λ w u. refl))

-- a keyword that asks about a name

telling_at : (c : Context) (t : Telling) (i : ℕ) → IsMadeOf c (telling_value t i) (λ n ms. key (telling_keyword t)
    ∷ sign token.Open ∷ operand_mark c (form.name (telling_class t)) (name_in n (telling_class t) i)
    ∷ sign token.Close ∷ ms)
    (λ n. number_in n (telling_class t) (name_in n (telling_class t) i) ≡ i) (λ w. w (telling_class t) i)
telling_at c telling.Fired i = record { spelled = λ n ms. refl; numbered = λ n p. cc; fit = λ w. refl }
telling_at c t i = record { spelled = λ n ms. refl; numbered = λ n p. cc; fit = λ w. refl }

pub telling_read : {s : Scope} {own : Option Name} {c : Context} {d : Class} {i : ℕ} {e : Expression ℕ}
    {old new : List Token} (t : Telling) → d ≡ telling_class t → e ≡ telling_value t i →
    Reads s s (expression c) (λ n ms. key (telling_keyword t) ∷ sign token.Open ∷ operand_mark c (form.name d)
    (name_in n d i) ∷ sign token.Close ∷ ms) old new
    → Numbered s.names (λ n'. number_in n' d (name_in n' d i)) i → Fits s.names own (λ w. w d i)
    → IsValue s own c e old new
telling_read {c = c} {d = d} {i = i} {e = e} t class is r numbered fits =
    let made : IsMadeOf c e (λ n ms. key (telling_keyword t) ∷ sign token.Open ∷ operand_mark c (form.name d)
    (name_in n d i) ∷ sign token.Close ∷ ms) (λ n. number_in n d (name_in n d i) ≡ i) (λ w. w d i) =
    rw (class, is) (telling_at c t i) in
    is_value made r numbered fits

-- a keyword that isn't a value

no_word_at : (s : Scope) (c : Context) (k : Keyword) (f : Pending) (ts : List Token) → word_of k ≡ no_value
    → tell s (expression c ∷ f) (token.Keyword k ∷ ts) ≡ fault Unexpected (length (token.Keyword k ∷ ts))
no_word_at s c k f ts e = let u : word_step c k (word_of k) f ≡ unexpected_token = ap (λ w. word_step c k w f) e in rw u refl

pub no_word : (s : Scope) (c : Context) (k : Keyword) (f : Pending) (old : List Token)
    → first old ≡ Some (token.Keyword k) → word_of k ≡ no_value → tell s (expression c ∷ f) old
    ≡ fault Unexpected (length old)
no_word s c k f [] is e = absurd cc
no_word s c k f (t ∷ ts) is e = let here : t ≡ token.Keyword k = cc in rw here (no_word_at s c k f ts e)

-- `!`

pub negation_reads : (s : Scope) (c d : Context) (e a : Expression ℕ) (old m0 new : List Token) → d ≡ inner c
    → e ≡ negation a → first old ≡ Some token.Bang → c.level < 32 → m0 ≡ drop 1 old → ReadsValue s d a m0 new
    → ReadsValue s c e old new
negation_reads s c d e a old m0 new h is here low from r =
    let t : ReadsValue s (inner c) a m0 new = subst (λ z. ReadsValue s z a m0 new) h r in
    subst (λ z. ReadsValue s c z old new) (sym is) (record {
      spelled = λ n g ms p. front_of old token.Bang here ∙ ap (λ ts. token.Bang ∷ ts) (sym from ∙ t.spelled n g ms p);
      goes_on = λ f. bang_start s c f old here low ∙ ap (λ ts. tell s (expression (inner c) ∷ f) ts) (sym from)
          ∙ t.goes_on f;
    })

pub negation_numbered : (n : NamesInScope) (e a : Expression ℕ) → e ≡ negation a → NumbersValue n a → NumbersValue n e
negation_numbered n e a is r = subst (λ z. NumbersValue n z) (sym is) (λ n' h. ap negation (r n' h))

-- the two sides of an operator

pub sides_read : (s s1 : Scope) (c : Context) (o : Operator) (a b : Expression ℕ) (old m1 m2 m3 new : List Token)
    → s1 ≡ s → ReadsValue s c a old m1 → ReadsSign operator (token.Op o) m1 m2 → ReadsValue s1 c b m2 m3
    → ReadsSign close token.Close m3 new → ReadsSides s c o a b old new
sides_read s s1 c o a b old m1 m2 m3 new g r r2 rb r3 =
    let t : ReadsValue s c b m2 m3 = subst (λ z. ReadsValue z c b m2 m3) g rb in
    record {
      spelled = λ n e ms u.
          let x3 = r3.spelled ∙ ap (λ ts. token.Close ∷ ts) (sym u) in
          let x2 = t.spelled n e (sign token.Close ∷ ms) (sym x3) in
          let x1 = r2.spelled ∙ ap (λ ts. token.Op o ∷ ts) x2 in
          r.spelled n e (sign (token.Op o) ∷ expression_marks c (expression_map (name_in n) b) (sign token.Close ∷ ms))
          (sym x1);
      goes_on = λ f. r.goes_on (operator ∷ expression c ∷ close ∷ f) ∙ r2.goes_on s (expression c ∷ close ∷ f)
          ∙ t.goes_on (close ∷ f) ∙ r3.goes_on s f;
    }

pub binary_reads : (s : Scope) (c d : Context) (o : Operator) (e a b : Expression ℕ) (old m0 new : List Token)
    → d ≡ inner c → e ≡ binary o a b → first old ≡ Some token.Open → c.level < 32 → m0 ≡ drop 1 old
    → ReadsSides s d o a b m0 new → ReadsValue s c e old new
binary_reads s c d o e a b old m0 new h is here low from r =
    let t : ReadsSides s (inner c) o a b m0 new = subst (λ z. ReadsSides s z o a b m0 new) h r in
    subst (λ z. ReadsValue s c z old new) (sym is) (record {
      spelled = λ n g ms p. front_of old token.Open here ∙ ap (λ ts. token.Open ∷ ts) (sym from ∙ t.spelled n g ms p);
      goes_on = λ f. open_start s c f old here low ∙ ap (λ ts. tell s
          (expression (inner c) ∷ operator ∷ expression (inner c) ∷ close ∷ f) ts) (sym from) ∙ t.goes_on f;
    })

pub binary_numbered : (n : NamesInScope) (o : Operator) (e a b : Expression ℕ) → e ≡ binary o a b → NumbersValue n a
    → NumbersValue n b → NumbersValue n e
binary_numbered n o e a b is ra rb =
    subst (λ z. NumbersValue n z) (sym is) (λ n' h.
    ap (λ z. binary o z (expression_map (number_in n') (expression_map (name_in n') b))) (ra n' h)
    ∙ ap (binary o a) (rb n' h))

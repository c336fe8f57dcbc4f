-- Statements without a block, made of the operands after their keywords.
use Rattle.std.proofs.Common.{◌≡◌, ℕ, List, [], ◌∷◌, length, true, Some, refl}
use Rattle.program_tree.specs.Faults.{Scope}
use Rattle.program_tree.specs.Forms.{Beginning, no_statement, action, branches, loops, goes_on, beginning}
use Rattle.program_tree.specs.Grammar.{Context, begins_with, sign, operand_mark, expression_marks}
use Rattle.program_tree.specs.InScope.{name_in, number_in}
use Rattle.program_reader.specs.Machine.{Pending, begin_step, unexpected_token, tell, fault, first, items}
use Rattle.program_reader.specs.Plain.{IsNoAction, bare_keyword, bare_action, valued_keyword, valued_action}
use Rattle.program_reader.specs.Plain.{about_keyword, about_class, about_action}
use Rattle.program_tree.specs.Scope.{expression_fits}
use Rattle.program_reader.specs.Steps.{IsPlain}
use Rattle.program_tree.specs.Tokens.{Token}
use Rattle.program_tree.specs.Tree.{Class, Expression, expression_map, Action}
use Rattle.program_tree.specs.declared.error.ReadErrorKind.TheVariants.{Unexpected}
use Rattle.program_tree.specs.declared.keyword.Keyword.{Keyword}
use Rattle.program_reader.specs.declared.plain.Bare.{Bare}
use Rattle.program_reader.specs.declared.plain.Valued.{Valued}
use Rattle.program_reader.specs.declared.plain.About.{About}
use Rattle.program_tree.specs.Forms as form
use Rattle.program_tree.specs.Tokens as token
use Rattle.program_reader.specs.declared.plain.Bare.TheVariants as bare
use Rattle.program_reader.specs.declared.plain.Valued.TheVariants as valued
use Rattle.program_reader.specs.declared.plain.About.TheVariants as about
use Rattle.program_reader.proofs.Runs.{IsMadeOf}

-- only a keyword

bare_at : (c : Context) (b : Bare) → IsMadeOf c (bare_action b) (λ n ms. begins_with c (bare_keyword b)
    ∷ sign token.Semicolon ∷ ms) (λ n. Unit {0}) (λ w. true)
bare_at c bare.Yield = record { spelled = λ n ms. refl; numbered = λ n p. refl; fit = λ w. refl }
bare_at c b = record { spelled = λ n ms. refl; numbered = λ n p. refl; fit = λ w. refl }

pub bare_made : {k : Keyword} {a : Action ℕ} (c : Context) (b : Bare) → k ≡ bare_keyword b → a ≡ bare_action b
    → IsMadeOf c a (λ n ms. begins_with c k ∷ sign token.Semicolon ∷ ms) (λ n. Unit {0}) (λ w. true)
bare_made c b e is = rw (e, is) (bare_at c b)

-- a keyword and a value

valued_at : (c : Context) (v : Valued) (e : Expression ℕ) → IsMadeOf c (valued_action v e)
    (λ n ms. begins_with c (valued_keyword v) ∷ expression_marks c (expression_map (name_in n) e)
    (sign token.Semicolon ∷ ms))
    (λ n. Unit {0} × (expression_map (number_in n) (expression_map (name_in n) e) ≡ e)) (λ w. expression_fits w e)
valued_at c valued.Print e = record { spelled = λ n ms. refl; numbered = λ n p. cc; fit = λ w. refl }
valued_at c v e = record { spelled = λ n ms. refl; numbered = λ n p. cc; fit = λ w. refl }

pub valued_made : {k : Keyword} {a : Action ℕ} (c : Context) (v : Valued) (e : Expression ℕ) → k ≡ valued_keyword v
    → a ≡ valued_action v e → IsMadeOf c a (λ n ms. begins_with c k ∷ expression_marks c (expression_map (name_in n) e)
    (sign token.Semicolon ∷ ms))
    (λ n. Unit {0} × (expression_map (number_in n) (expression_map (name_in n) e) ≡ e)) (λ w. expression_fits w e)
valued_made c v e same is = rw (same, is) (valued_at c v e)

-- a keyword and a name

about_at : (c : Context) (b : About) (i : ℕ) → IsMadeOf c (about_action b i)
    (λ n ms. begins_with c (about_keyword b) ∷ operand_mark c (form.name (about_class b))
    (name_in n (about_class b) i) ∷ sign token.Semicolon ∷ ms)
    (λ n. Unit {0} × (number_in n (about_class b) (name_in n (about_class b) i) ≡ i)) (λ w. w (about_class b) i)
about_at c about.Spawn i = record { spelled = λ n ms. refl; numbered = λ n p. cc; fit = λ w. refl }
about_at c b i = record { spelled = λ n ms. refl; numbered = λ n p. cc; fit = λ w. refl }

pub about_made : {k : Keyword} {d : Class} {a : Action ℕ} (c : Context) (b : About) (i : ℕ) → k ≡ about_keyword b
    → d ≡ about_class b → a ≡ about_action b i → IsMadeOf c a (λ n ms. begins_with c k ∷ operand_mark c (form.name d)
    (name_in n d i) ∷ sign token.Semicolon ∷ ms)
    (λ n. Unit {0} × (number_in n d (name_in n d i) ≡ i)) (λ w. w d i)
about_made c b i same class is = rw (same, class, is) (about_at c b i)

-- a keyword that begins no statement

unfit_of : (c : Context) (k : Keyword) (b : Beginning) (f : Pending) → IsPlain b → IsNoAction b
    → begin_step c k b f ≡ unexpected_token
unfit_of c k no_statement f h g = refl
unfit_of c k (action x) f h g = absurd g
unfit_of c k branches f h g = absurd h
unfit_of c k loops f h g = absurd h
unfit_of c k goes_on f h g = refl

no_action_at : (s : Scope) (c : Context) (k : Keyword) (f : Pending) (ts : List Token) → IsPlain (beginning k)
    → IsNoAction (beginning k) → tell s (items c ∷ f) (token.Keyword k ∷ ts)
    ≡ fault Unexpected (length (token.Keyword k ∷ ts))
no_action_at s c k f ts h g = rw (unfit_of c k (beginning k) f h g) refl

pub no_action : (s : Scope) (c : Context) (k : Keyword) (f : Pending) (old : List Token)
    → first old ≡ Some (token.Keyword k) → IsPlain (beginning k) → IsNoAction (beginning k)
    → tell s (items c ∷ f) old ≡ fault Unexpected (length old)
no_action s c k f [] is h g = absurd cc
no_action s c k f (t ∷ ts) is h g = let e : t ≡ token.Keyword k = cc in rw e (no_action_at s c k f ts h g)

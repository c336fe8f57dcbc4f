-- A code, from its keyword to its last brace.
use Rattle.std.proofs.Common.{◌≡◌, List, ◌∷◌, length, drop, Bool, true, false, Some, refl, ap, ◌∙◌}
use Rattle.std.specs.Str.{bytes_eq}
use Rattle.program_reader.specs.CodeParts.{ReadsOpening}
use Rattle.program_tree.specs.Faults.{Scope}
use Rattle.program_reader.specs.Head.{with_names}
use Rattle.program_tree.specs.InScope.{outside}
use Rattle.program_reader.specs.Machine.{Pending, Verdict, tell, fault, first, unfit_at, codes, codes_form, this_name}
use Rattle.program_reader.specs.Machine.{open_brace, from_variables, last_brace}
use Rattle.program_tree.specs.Shapes.{Name}
use Rattle.program_reader.specs.Steps.{ReadsSign}
use Rattle.program_tree.specs.Tokens.{Token}
use Rattle.program_tree.specs.Tokens as token
use Rattle.program_tree.specs.declared.keyword.Keyword.TheVariants as word
use Rattle.program_reader.proofs.NameSteps.{token_then}
use Rattle.program_tree.proofs.NameLaws.{bytes_same}

pub unfit_code : (s : Scope) (x : Name) (xs : List Name) (more : Pending) (old : List Token)
    → (first old ≡ Some (token.Keyword word.Code) → ⊥) → tell s (codes x xs ∷ more) old ≡ fault (unfit_at (first old))
    (length old)
unfit_code s x xs more (token.Keyword word.Code ∷ ts) h = absurd (h refl)
unfit_code s x xs more ts h = refl

name_step : (s : Scope) (x : Name) (f : Pending) (ts : List Token) (b : Bool) → bytes_eq x x ≡ b → b ≡ true
    → tell s (this_name x ∷ f) (token.Name x ∷ ts) ≡ tell s f ts
name_step s x f ts true e h = rw e refl
name_step s x f ts false e h = absurd cc

this_goes : (s : Scope) (x : Name) (f : Pending) (m0 m1 : List Token) → first m0 ≡ Some (token.Name x) → m1 ≡ drop 1 m0
    → tell s (this_name x ∷ f) m0 ≡ tell s f m1
this_goes s x f m0 m1 is from = ap (tell s (this_name x ∷ f)) (token_then (token.Name x) m0 m1 is from)
    ∙ name_step s x f m1 (bytes_eq x x) refl (bytes_same x)

other_name : (s : Scope) (x y : Name) (f : Pending) (ts : List Token) (b : Bool) → bytes_eq y x ≡ b → b ≡ false
    → tell s (this_name x ∷ f) (token.Name y ∷ ts) ≡ fault (unfit_at (Some (token.Name y)))
    (length (token.Name y ∷ ts))
other_name s x y f ts true e h = absurd cc
other_name s x y f ts false e h = rw e refl

-- another name is here, or none
not_this : (s : Scope) (x : Name) (f : Pending) (m0 : List Token)
    → ((y : Name) → first m0 ≡ Some (token.Name y) → bytes_eq y x ≡ false)
    → tell s (this_name x ∷ f) m0 ≡ fault (unfit_at (first m0)) (length m0)
not_this s x f (token.Name y ∷ ts) h = other_name s x y f ts (bytes_eq y x) refl (h y refl)
not_this s x f m0 h = refl

pub opens : (s : Scope) (x : Name) (old m0 m1 new : List Token) → old ≡ token.Keyword word.Code ∷ m0 → first m0 ≡ Some
    (token.Name x) → m1 ≡ drop 1 m0 → ReadsSign open_brace token.OpenBrace m1 new
    → ReadsOpening x s old new
opens s x old m0 m1 new split is1 from1 k = record {
  spelled =
      split
      ∙ ap (λ ts. token.Keyword word.Code ∷ ts) (token_then (token.Name x) m0 m1 is1 from1
      ∙ ap (λ ts. token.Name x ∷ ts) k.spelled);
  goes_on = λ xs f. ap (tell s (codes x xs ∷ f)) split ∙ this_goes s x (open_brace ∷ from_variables ∷ codes_form xs f)
      m0 m1 is1 from1 ∙ k.goes_on s (from_variables ∷ codes_form xs f);
}

pub name_fails : (s : Scope) (x : Name) (xs : List Name) (more : Pending) (old m0 : List Token)
    → old ≡ token.Keyword word.Code ∷ m0
    → ((y : Name) → first m0 ≡ Some (token.Name y) → bytes_eq y x ≡ false)
    → tell s (codes x xs ∷ more) old ≡ fault (unfit_at (first m0)) (length m0)
name_fails s x xs more old m0 split h = ap (tell s (codes x xs ∷ more)) split
    ∙ not_this s x (open_brace ∷ from_variables ∷ codes_form xs more) m0 h

pub brace_fails : (s : Scope) (x : Name) (xs : List Name) (more : Pending) (old m0 m1 : List Token) (v : Verdict)
    → old ≡ token.Keyword word.Code ∷ m0 → first m0 ≡ Some (token.Name x) → m1 ≡ drop 1 m0
    → ((t : Scope) (f : Pending) → tell t (open_brace ∷ f) m1 ≡ v) → tell s (codes x xs ∷ more) old ≡ v
brace_fails s x xs more old m0 m1 v split is1 from1 e =
    ap (tell s (codes x xs ∷ more)) split ∙ this_goes s x (open_brace ∷ from_variables ∷ codes_form xs more) m0 m1 is1
    from1 ∙ e s (from_variables ∷ codes_form xs more)

pub ruleset opening_steps = (unfit_code, opens, name_fails, brace_fails)

pub last_reads : (old new : List Token) (s : Scope) (f : Pending) → first old ≡ Some token.CloseBrace
    → new ≡ drop 1 old → tell s (last_brace ∷ f) old ≡ tell (with_names s (outside s.names)) f new
last_reads old new s f is from = ap (tell s (last_brace ∷ f)) (token_then token.CloseBrace old new is from)

pub ruleset brace_steps = (token_then, last_reads)

pub ruleset code_steps = (token_then)

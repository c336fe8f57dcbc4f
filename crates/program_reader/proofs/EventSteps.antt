-- The next steps of reading after the keywords for events.
use Rattle.std.proofs.Common.{◌≡◌, List, [], ◌∷◌, drop, refl, sym, ap, ◌∙◌, Option, Some}
use Rattle.program_tree.specs.Faults.{Scope}
use Rattle.program_tree.specs.Forms as form
use Rattle.program_tree.specs.Forms.{Operand}
use Rattle.program_tree.specs.Grammar.{Context, key}
use Rattle.program_reader.specs.Machine.{Symbol, Pending, step, take, tell, first, operand}
use Rattle.program_tree.specs.Shapes.{Name}
use Rattle.program_reader.specs.Steps.{Reads}
use Rattle.program_tree.specs.Tokens as token
use Rattle.program_tree.specs.Tokens.{Token}
use Rattle.program_tree.specs.Tree.{an_event}
use Rattle.program_tree.specs.declared.keyword.Keyword.{Keyword}
use Rattle.program_tree.specs.declared.keyword.Keyword.TheVariants as word
use Rattle.program_reader.proofs.NameSteps.{taken, front_of}

-- a keyword that has one mark of its own
pub key_reads : (s : Scope) (y : Symbol) (k : Keyword) (old new : List Token) → first old ≡ Some (token.Keyword k)
    → ((f : Pending) → step (y ∷ f) (token.Keyword k) ≡ take (key k) f) → new ≡ drop 1 old
    → Reads s s y (λ n ms. key k ∷ ms) old new
key_reads s y k old new is fits from = record {
  spelled = λ n h ms e. front_of old (token.Keyword k) is ∙ ap (λ ts. token.Keyword k ∷ ts) (sym from ∙ sym e);
  goes_on = λ f. taken s (y ∷ f) f old (token.Keyword k) (key k) is (fits f) refl ∙ ap (λ ts. tell s f ts) (sym from);
}

pub cast_name : (s : Scope) (c : Context) (f : Pending) (old : List Token) (x : Name) → first old ≡ Some (token.Name x)
    → tell s (operand c form.cast ∷ f) old ≡ tell s (operand c (form.name an_event) ∷ f) old
cast_name s c f [] x e = absurd cc
cast_name s c f (t ∷ ts) x e = let is : t ≡ token.Name x = cc in rw is refl

-- the token isn't a keyword that this operand allows and the narrower operand doesn't: `exit` for `sent`, the others
-- for `any`
abbrev pub IsOther : Operand → Option Token → Type 0
IsOther form.sent (Some (token.Keyword word.Exit)) = ⊥
IsOther form.any (Some (token.Keyword word.Init)) = ⊥
IsOther form.any (Some (token.Keyword word.Poll)) = ⊥
IsOther form.any (Some (token.Keyword word.Exited)) = ⊥
IsOther form.any (Some (token.Keyword word.Timer)) = ⊥
IsOther o t = Unit {0}

pub sent_passes : (s : Scope) (c : Context) (f : Pending) (old : List Token) → IsOther form.sent (first old)
    → tell s (operand c form.sent ∷ f) old ≡ tell s (operand c form.cast ∷ f) old
sent_passes s c f (token.Keyword word.Exit ∷ ts) h = absurd h
sent_passes s c f old h = refl

pub any_passes : (s : Scope) (c : Context) (f : Pending) (old : List Token) → IsOther form.any (first old)
    → tell s (operand c form.any ∷ f) old ≡ tell s (operand c form.sent ∷ f) old
any_passes s c f (token.Keyword word.Init ∷ ts) h = absurd h
any_passes s c f (token.Keyword word.Poll ∷ ts) h = absurd h
any_passes s c f (token.Keyword word.Exited ∷ ts) h = absurd h
any_passes s c f (token.Keyword word.Timer ∷ ts) h = absurd h
any_passes s c f old h = refl

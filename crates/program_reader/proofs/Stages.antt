-- Stages of a text that may be absent: an absent stage is skipped.
use Rattle.std.proofs.Common.{◌≡◌, List, ◌∷◌, Some, refl}
use Rattle.program_tree.specs.Faults.{Scope}
use Rattle.program_reader.specs.Machine.{Pending, tell, first, from_events, from_semaphores, from_variables}
use Rattle.program_reader.specs.Machine.{from_etimers, from_ctimers, from_threads, from_on_poll, from_on_exit}
use Rattle.program_reader.specs.Machine.{from_body, from_autostart, from_receiver, codes}
use Rattle.program_tree.specs.Shapes.{Name}
use Rattle.program_tree.specs.Tokens.{Token}
use Rattle.program_tree.specs.Tokens as token
use Rattle.program_tree.specs.declared.keyword.Keyword.TheVariants as word

pub no_events : (s : Scope) (f : Pending) (ts : List Token) → (first ts ≡ Some (token.Keyword word.Event) → ⊥)
    → tell s (from_events ∷ f) ts ≡ tell s (from_semaphores ∷ f) ts
no_events s f (token.Keyword word.Event ∷ ts) h = absurd (h refl)
no_events s f ts h = refl

pub no_variables : (s : Scope) (f : Pending) (ts : List Token) → (first ts ≡ Some (token.Keyword word.Var) → ⊥)
    → tell s (from_variables ∷ f) ts ≡ tell s (from_etimers ∷ f) ts
no_variables s f (token.Keyword word.Var ∷ ts) h = absurd (h refl)
no_variables s f ts h = refl

pub no_etimers : (s : Scope) (f : Pending) (ts : List Token) → (first ts ≡ Some (token.Keyword word.Etimer) → ⊥)
    → tell s (from_etimers ∷ f) ts ≡ tell s (from_ctimers ∷ f) ts
no_etimers s f (token.Keyword word.Etimer ∷ ts) h = absurd (h refl)
no_etimers s f ts h = refl

pub no_ctimers : (s : Scope) (f : Pending) (ts : List Token) → (first ts ≡ Some (token.Keyword word.Ctimer) → ⊥)
    → tell s (from_ctimers ∷ f) ts ≡ tell s (from_threads ∷ f) ts
no_ctimers s f (token.Keyword word.Ctimer ∷ ts) h = absurd (h refl)
no_ctimers s f ts h = refl

pub no_threads : (s : Scope) (f : Pending) (ts : List Token) → (first ts ≡ Some (token.Keyword word.Thread) → ⊥)
    → tell s (from_threads ∷ f) ts ≡ tell s (from_on_poll ∷ f) ts
no_threads s f (token.Keyword word.Thread ∷ ts) h = absurd (h refl)
no_threads s f ts h = refl

pub no_on_poll : (s : Scope) (f : Pending) (ts : List Token) → (first ts ≡ Some (token.Keyword word.OnPoll) → ⊥)
    → tell s (from_on_poll ∷ f) ts ≡ tell s (from_on_exit ∷ f) ts
no_on_poll s f (token.Keyword word.OnPoll ∷ ts) h = absurd (h refl)
no_on_poll s f ts h = refl

pub no_on_exit : (s : Scope) (f : Pending) (ts : List Token) → (first ts ≡ Some (token.Keyword word.OnExit) → ⊥)
    → tell s (from_on_exit ∷ f) ts ≡ tell s (from_body ∷ f) ts
no_on_exit s f (token.Keyword word.OnExit ∷ ts) h = absurd (h refl)
no_on_exit s f ts h = refl

pub no_autostart : (s : Scope) (x : Name) (xs : List Name) (f : Pending) (ts : List Token)
    → (first ts ≡ Some (token.Keyword word.Autostart) → ⊥) → tell s (from_autostart x xs ∷ f) ts
    ≡ tell s (from_receiver x xs ∷ f) ts
no_autostart s x xs f (token.Keyword word.Autostart ∷ ts) h = absurd (h refl)
no_autostart s x xs f ts h = refl

pub no_receiver : (s : Scope) (x : Name) (xs : List Name) (f : Pending) (ts : List Token)
    → (first ts ≡ Some (token.Keyword word.Receiver) → ⊥) → tell s (from_receiver x xs ∷ f) ts
    ≡ tell s (codes x xs ∷ f) ts
no_receiver s x xs f (token.Keyword word.Receiver ∷ ts) h = absurd (h refl)
no_receiver s x xs f ts h = refl

-- Names in scope that are extended by more names.
use Rattle.std.proofs.Common.{◌≡◌, ℕ, List, [], ◌∷◌, ◌++◌, refl, sym, ap, ◌∙◌, append_assoc}
use Rattle.std.proofs.lemmas.List.{append-nil}
use Rattle.program_reader.specs.CodeParts.{IsNumbered, AllNumbered}
use Rattle.program_reader.specs.Head.{with_all}
use Rattle.program_tree.specs.InScope.{NamesInScope, names_of, with_new}
use Rattle.program_tree.specs.Shapes.{Name}
use Rattle.program_reader.specs.Steps.{read_scope, Fixed, fixed, IsFront, Extends}
use Rattle.program_reader.specs.declared.scope.Scope.{Scope as ScopeRead}
use Rattle.program_tree.specs.Tree.{Class, an_event, a_semaphore, a_process, a_variable, a_timer, a_thread, Body}

front_itself : (xs : List Name) → IsFront xs xs
front_itself xs = ([], sym (append-nil xs))

pub extends_itself : (n : NamesInScope) → Extends n n
extends_itself n = record { front = λ c. front_itself (names_of n c); first_timer = refl }

pub extends_on : (n m k : NamesInScope) → Extends n m → Extends m k → Extends n k
extends_on n m k a b = record {
  front = λ c. let p = a.front c in let q = b.front c in
      (p.0 ++ q.0, q.1 ∙ ap (λ z. z ++ q.0) p.1 ∙ append_assoc (names_of n c) p.0 q.0);
  first_timer = b.first_timer ∙ a.first_timer;
}

front_new : (n : NamesInScope) (c : Class) (x : Name) (d : Class) → IsFront (names_of n d) (names_of (with_new n c x) d)
front_new n an_event x an_event = (x ∷ [], refl)
front_new n a_semaphore x a_semaphore = (x ∷ [], refl)
front_new n a_process x a_process = (x ∷ [], refl)
front_new n a_variable x a_variable = (x ∷ [], refl)
front_new n a_timer x a_timer = (x ∷ [], refl)
front_new n a_thread x a_thread = (x ∷ [], refl)
front_new n c x d = front_itself (names_of n d)

same_first_timer : (n : NamesInScope) (c : Class) (x : Name) → (with_new n c x).first_timer ≡ n.first_timer
same_first_timer n an_event x = refl
same_first_timer n c x = refl

pub extends_new : (n : NamesInScope) (c : Class) (x : Name) → Extends n (with_new n c x)
extends_new n c x = record { front = front_new n c x; first_timer = same_first_timer n c x }

pub extends_all : (n : NamesInScope) (c : Class) (xs : List Name) → Extends n (with_all n c xs)
extends_all n c [] = extends_itself n
extends_all n c (x ∷ xs) = extends_on n (with_new n c x) (with_all (with_new n c x) c xs) (extends_new n c x)
    (extends_all (with_new n c x) c xs)

pub numbered_on : (n m : NamesInScope) (b : Body ℕ) → Extends n m → IsNumbered n b → IsNumbered m b
numbered_on n m b e h = λ k f. h k (extends_on n m k e f)

pub all_numbered_on : (n m : NamesInScope) (bs : List (Body ℕ)) → Extends n m → AllNumbered n bs → AllNumbered m bs
all_numbered_on n m [] e h = tt
all_numbered_on n m (b ∷ bs) e h = (numbered_on n m b e h.0, all_numbered_on n m bs e h.1)

pub all_numbered-append : (n : NamesInScope) (bs : List (Body ℕ)) (b : Body ℕ) → AllNumbered n bs → IsNumbered n b
    → AllNumbered n (bs ++ b ∷ [])
all_numbered-append n [] b h k = (k, tt)
all_numbered-append n (c ∷ bs) b h k = (h.0, all_numbered-append n bs b h.1 k)

-- the parts that are fixed while statements are read
abbrev names_of_fixed : Fixed → NamesInScope
names_of_fixed s = record {
  events = s.events;
  semaphores = s.semaphores;
  processes = s.processes;
  variables = s.variables;
  first_timer = s.first_timer;
  timers = s.etimers ++ s.ctimers;
  threads = s.threads;
}

pub fixed_names : (a b : ScopeRead) → fixed a ≡ fixed b → (read_scope a).names ≡ (read_scope b).names
fixed_names a b e = ap names_of_fixed e

pub fixed_starting : (a b : ScopeRead) → fixed a ≡ fixed b → (read_scope a).starting ≡ (read_scope b).starting
fixed_starting a b e = ap (λ z. z.starting) e

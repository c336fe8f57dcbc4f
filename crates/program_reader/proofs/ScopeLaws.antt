-- A name that is found is in scope, and keeps its meaning whatever else is declared.
use Rattle.std.proofs.Common.{◌≡◌, ℕ, ◌+◌, ◌-◌, List, [], ◌++◌, refl, sym, ap, ◌∙◌, arith, Option, Some, None}
use Rattle.std.proofs.Common.{option_map, Bool, true, false, not, ◌&&◌, ◌||◌, is_some, slice_index_or}
use Rattle.program_tree.specs.InScope.{NamesInScope, names_of, is_a, is_in_scope, number_in, name_in, or_zero}
use Rattle.program_tree.specs.InScope.{place_in_names}
use Rattle.program_tree.specs.Shapes.{Name}
use Rattle.program_reader.specs.Steps.{look, is_own_thread, Finds, IsFound, Extends}
use Rattle.program_tree.specs.Tree.{Class, an_event, a_semaphore, a_process, a_variable, a_timer, a_thread}
use Rattle.program_reader.specs.declared.scope.Found.TheVariants as found
use Rattle.program_tree.proofs.NameLaws as laws
use Rattle.program_reader.proofs.PlaceLaws.{place_left}

mapped : (o : Option ℕ) (n i : ℕ) → option_map (λ k. n + k) o ≡ Some i → (j : ℕ) × (o ≡ Some j) × (i ≡ n + j)
mapped None n i e = absurd cc
mapped (Some j) n i e = (j, refl, cc)

not_mapped : (o : Option ℕ) (n : ℕ) → option_map (λ k. n + k) o ≡ None → o ≡ None
not_mapped None n e = refl
not_mapped (Some j) n e = absurd cc

-- the place among the names of its class
pub placed : (n : NamesInScope) (c : Class) (x : Name) (i : ℕ) → look n c x ≡ Some i → (j : ℕ)
    × (place_in_names (names_of n c) x ≡ Some j)
placed n a_timer x i e = let q = mapped (place_in_names n.timers x) n.first_timer i e in (q.0, q.1)
placed n c x i e = (i, e)

pub found_is_a : (n : NamesInScope) (c : Class) (x : Name) (i : ℕ) → look n c x ≡ Some i → is_a n c x ≡ true
found_is_a n c x i e = ap is_some (placed n c x i e).1

pub none_is_a : (n : NamesInScope) (c : Class) (x : Name) → look n c x ≡ None → is_a n c x ≡ false
none_is_a n a_timer x e = ap is_some (not_mapped (place_in_names n.timers x) n.first_timer e)
none_is_a n c x e = ap is_some e

or_first : (a b : Bool) → a ≡ true → (a || b) ≡ true
or_first true b e = refl
or_first false b e = absurd cc

or_second : (a b : Bool) → b ≡ true → (a || b) ≡ true
or_second true b e = refl
or_second false b e = e

pub a_in_scope : (n : NamesInScope) (c : Class) (x : Name) → is_a n c x ≡ true → is_in_scope n x ≡ true
a_in_scope n an_event x e = or_first _ _ (or_first _ _ (or_first _ _ (or_first _ _ (or_first _ _ e))))
a_in_scope n a_semaphore x e = or_first _ _ (or_first _ _ (or_first _ _ (or_first _ _ (or_second _ _ e))))
a_in_scope n a_process x e = or_first _ _ (or_first _ _ (or_first _ _ (or_second _ _ e)))
a_in_scope n a_variable x e = or_first _ _ (or_first _ _ (or_second _ _ e))
a_in_scope n a_timer x e = or_first _ _ (or_second _ _ e)
a_in_scope n a_thread x e = or_second _ _ e

pub found_here : (n : NamesInScope) (own : Option Name) (c : Class) (x : Name) (i : ℕ) → look n c x ≡ Some i
    → is_own_thread own c x ≡ false → IsFound n own c x (found.Here i)
found_here n own c x i e h = record { found = e; other = h }

pub found_own : (n : NamesInScope) (own : Option Name) (c : Class) (x : Name) (i : ℕ) → look n c x ≡ Some i
    → is_own_thread own c x ≡ true → IsFound n own c x found.Other
found_own n own c x i e h = (a_in_scope n c x (found_is_a n c x i e), or_second _ _ h)

and_both : (a b : Bool) → a ≡ true → b ≡ false → (a && not b) ≡ true
and_both a b e f = rw (e, f) refl

pub found_other : (n : NamesInScope) (own : Option Name) (c : Class) (x : Name) → look n c x ≡ None → is_in_scope n x ≡ true
    → IsFound n own c x found.Other
found_other n own c x e h = (h, or_first _ _ (and_both _ _ h (none_is_a n c x e)))

-- The number of the name that is found, and the name with that number, in all lists of names that extend these.

pub number_found : (n : NamesInScope) (c : Class) (x : Name) (i : ℕ) → look n c x ≡ Some i → number_in n c x ≡ i
number_found n a_timer x i e =
    let q = mapped (place_in_names n.timers x) n.first_timer i e in
    ap (λ o. n.first_timer + or_zero o) q.1 ∙ sym q.2
number_found n c x i e = ap or_zero e

pub name_found : (n : NamesInScope) (c : Class) (x : Name) (i : ℕ) → look n c x ≡ Some i → name_in n c i ≡ x
name_found n a_timer x i e =
    let q = mapped (place_in_names n.timers x) n.first_timer i e in
    let d : i - n.first_timer ≡ q.0 = omega (arith, q.2) in
    ap (λ k. slice_index_or n.timers k []) d ∙ laws.name_at n.timers x q.0 q.1
name_found n c x i e = laws.name_at (names_of n c) x i e

grown : (xs ys : List Name) (x : Name) (i : ℕ) → (more : List Name) × (ys ≡ xs ++ more) → place_in_names xs x ≡ Some i
    → place_in_names ys x ≡ Some i
grown xs ys x i m e = ap (λ zs. place_in_names zs x) m.1 ∙ place_left xs m.0 x i e

pub still_found : (n n' : NamesInScope) (c : Class) (x : Name) (i : ℕ) → Extends n n' → look n c x ≡ Some i
    → look n' c x ≡ Some i
still_found n n' a_timer x i h e =
    let q = mapped (place_in_names n.timers x) n.first_timer i e in
    ap (option_map (λ k. n'.first_timer + k)) (grown n.timers n'.timers x q.0 (h.front a_timer) q.1)
    ∙ ap (λ k. Some (k + q.0)) h.first_timer ∙ ap Some (sym q.2)
still_found n n' c x i h e = grown _ _ x i (h.front c) e

pub name_again : (n n' : NamesInScope) (own : Option Name) (c : Class) (x : Name) (i : ℕ) → Finds n own c x i → Extends n n'
    → name_in n' c i ≡ x
name_again n n' own c x i f h = name_found n' c x i (still_found n n' c x i h f.found)

pub number_again : (n n' : NamesInScope) (own : Option Name) (c : Class) (x : Name) (i : ℕ) → Finds n own c x i → Extends n n'
    → number_in n' c (name_in n' c i) ≡ i
number_again n n' own c x i f h = ap (number_in n' c) (name_again n n' own c x i f h)
    ∙ number_found n' c x i (still_found n n' c x i h f.found)

pub ruleset find_steps = (found_here, found_own, found_other)

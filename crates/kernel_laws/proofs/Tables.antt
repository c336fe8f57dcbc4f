-- The effect of small changes of a state on its tables.
use Rattle.std.proofs.Common.{ℕ, ◌≡◌, ◌<◌, ◌≤◌, ◌==◌, nat_lt, ◌⊎◌, inl, inr, not, Bool, true, false, List, [], ◌∷◌, unwrap_or, slice_get, slice_set, length, refl, sym, ◌∙◌, arith}
use Rattle.std.specs.List.{filter}
use Rattle.std.proofs.lemmas.List.{get_or-set_same, get_or-set_other, length-set}
use Rattle.std.proofs.lemmas.Option.{unwrap_or-slice_get, slice_get_past}
use Rattle.std.proofs.lemmas.Bool.Decides.{nat_tests}
use Rattle.program_tree.specs.declared.event.Proc.{Proc}
use Rattle.process_kernel.specs.declared.process.ProcessState.{ProcessState}
use Rattle.process_kernel.specs.declared.process.ProcessState.TheVariants.{Off}
use Rattle.process_kernel.specs.declared.process.Member.{Member}
use Rattle.process_kernel.specs.ProcessList.{place_of, is_same, with_state, with_exiting}
use Rattle.process_kernel.specs.State.{KernelState}
use Rattle.kernel_laws.specs.InStep.{state_at_place, exiting_at, listed_in, AreInStep, IsInStep}

pub set_same : {X : Type 0} (xs : List X) (i : ℕ) (v d : X) → i < length xs → unwrap_or (slice_get (slice_set xs i v) i) d ≡ v
set_same xs i v d h = unwrap_or-slice_get (slice_set xs i v) i d ∙ get_or-set_same xs i v d h

pub set_other : {X : Type 0} (xs : List X) (i j : ℕ) (v d : X) → (j ≡ i → ⊥) → unwrap_or (slice_get (slice_set xs i v) j) d ≡ unwrap_or (slice_get xs j) d
set_other xs i j v d h = unwrap_or-slice_get (slice_set xs i v) j d ∙ get_or-set_other xs i j v d h ∙ sym (unwrap_or-slice_get xs j d)

pub dichotomy : (k n : ℕ) → (k < n) ⊎ (n ≤ k)
dichotomy k n = grind arith

pub below_of : (k n : ℕ) → nat_lt k n ≡ true → k < n
below_of k n h = grind (arith, nat_tests)

-- a value other than the default is an entry of the table
pub is_entry : {X : Type 0} (xs : List X) (k : ℕ) (d : X) → (unwrap_or (slice_get xs k) d ≡ d → ⊥) → k < length xs
is_entry xs k d h = elim (dichotomy k (length xs)) [ inl l ↦ l | inr g ↦ (let e = slice_get_past xs k g in absurd (h (rw e refl))) ]

pub is_equal : (j k : ℕ) → (j ≡ k) ⊎ (j ≡ k → ⊥)
is_equal j k = elim (split (j == k) refl) [ inl e ↦ inl (grind (arith, nat_tests)) | inr e ↦ inr (λ q. grind (arith, nat_tests)) ]
  where
    split : (b : Bool) → (j == k) ≡ b → ((j == k) ≡ true) ⊎ ((j == k) ≡ false)
    split true q = inl q
    split false q = inr q

pub left_out : (ms : List Member) (p : Proc) → listed_in (filter (λ m. not (is_same m.process p)) ms) (place_of p) ≡ false
left_out [] p = refl
left_out (m ∷ ms) p = grind (arith, nat_tests, left_out ms p)

pub left_in : (ms : List Member) (p : Proc) (k : ℕ) → (k ≡ place_of p → ⊥) → listed_in (filter (λ m. not (is_same m.process p)) ms) k ≡ listed_in ms k
left_in [] p k h = refl
left_in (m ∷ ms) p k h = grind (arith, nat_tests, left_in ms p k h, h)

pub first_listed : (m : Member) (ms : List Member) → listed_in (m ∷ ms) (place_of m.process) ≡ true
first_listed m ms = grind (arith, nat_tests)

pub others_listed : (m : Member) (ms : List Member) (k : ℕ) → (k ≡ place_of m.process → ⊥) → listed_in (m ∷ ms) k ≡ listed_in ms k
others_listed m ms k h = grind (arith, nat_tests, h)

-- the two states differ only at this place
pub record DiffersAt (p : ℕ) (s t : KernelState) : Type 0 where
  pub states : (k : ℕ) → (k ≡ p → ⊥) → state_at_place t k ≡ state_at_place s k
  pub exiting : (k : ℕ) → (k ≡ p → ⊥) → exiting_at t k ≡ exiting_at s k
  pub listed : (k : ℕ) → (k ≡ p → ⊥) → listed_in t.members k ≡ listed_in s.members k
  pub tables : length s.exiting ≡ length s.states → length t.exiting ≡ length t.states

pub in_step_but : (p : ℕ) (s t : KernelState) → IsInStep s → DiffersAt p s t → AreInStep (state_at_place t p) (exiting_at t p) (listed_in t.members p) → IsInStep t
in_step_but p s t i d h = record {
  tables = d.tables i.tables;
  each = λ k. elim (is_equal k p) [ inl e ↦ rw e h | inr n ↦ rw (d.states k n, d.exiting k n, d.listed k n) (i.each k) ];
}

pub state_differs : (s : KernelState) (p : Proc) (x : ProcessState) → DiffersAt (place_of p) s (with_state s p x)
unfolding with_state
state_differs s p x = record {
  states = λ k n. set_other s.states (place_of p) k x Off n;
  exiting = λ k n. refl;
  listed = λ k n. refl;
  tables = λ e. e ∙ sym (length-set s.states (place_of p) x);
}

pub exiting_differs : (s : KernelState) (p : Proc) (b : Bool) → DiffersAt (place_of p) s (with_exiting s p b)
unfolding with_exiting
exiting_differs s p b = record {
  states = λ k n. refl;
  exiting = λ k n. set_other s.exiting (place_of p) k b false n;
  listed = λ k n. refl;
  tables = λ e. length-set s.exiting (place_of p) b ∙ e;
}

pub differs_twice : (p : ℕ) (s t u : KernelState) → DiffersAt p s t → DiffersAt p t u → DiffersAt p s u
differs_twice p s t u d e = record {
  states = λ k n. e.states k n ∙ d.states k n;
  exiting = λ k n. e.exiting k n ∙ d.exiting k n;
  listed = λ k n. e.listed k n ∙ d.listed k n;
  tables = λ x. e.tables (d.tables x);
}

pub state_set : (s : KernelState) (p : Proc) (x : ProcessState) → place_of p < length s.states → state_at_place (with_state s p x) (place_of p) ≡ x
unfolding with_state
state_set s p x h = set_same s.states (place_of p) x Off h

pub exiting_set : (s : KernelState) (p : Proc) (b : Bool) → place_of p < length s.exiting → exiting_at (with_exiting s p b) (place_of p) ≡ b
unfolding with_exiting
exiting_set s p b h = set_same s.exiting (place_of p) b false h

-- After each small step a system process is still in a state in which it can be polled.
use Rattle.std.proofs.Common.{ℕ, ◌≡◌, ◌<◌, ◌⊎◌, inl, inr, ◌==◌, Bool, true, false, not, nat_lt, List, [], ◌∷◌, length, unwrap_or, slice_get, slice_set, refl, sym, ◌∙◌, subst, arith}
use Rattle.std.specs.List.{filter}
use Rattle.std.proofs.lemmas.List.{length-set}
use Rattle.std.proofs.lemmas.Bool.Decides.{nat_tests}
use Rattle.program_tree.specs.declared.event.Proc.{Proc}
use Rattle.program_tree.specs.declared.event.Proc.TheVariants.{Own}
use Rattle.process_kernel.specs.declared.process.ProcessState.{ProcessState}
use Rattle.process_kernel.specs.declared.process.ProcessState.TheVariants.{Off, Running, Called}
use Rattle.process_kernel.specs.declared.process.Member.{Member}
use Rattle.process_kernel.specs.ProcessList.{place_of, is_same, holds_member, is_alive, process_state, is_listed, is_on_list, has_process, with_state, with_exiting, with_needs_poll, exiting_of, unlisted_of}
use Rattle.process_kernel.specs.State.{KernelState}
use Rattle.kernel_laws.specs.Own.{IsOwnProcess}
use Rattle.kernel_laws.specs.Poll.{CanBePolled}
use Rattle.kernel_laws.proofs.Steps.{any_or, others_stay}
use Rattle.kernel_laws.proofs.Tables.{set_same, set_other, is_entry, is_equal}

-- the process can still be polled, the tables still have room for it, and it is still on the process list
pub record Alive (p : Proc) (s t : KernelState) : Type 0 where
  pub can : CanBePolled p s → CanBePolled p t
  pub state : has_process s p ≡ true → has_process t p ≡ true
  pub can_need_poll : nat_lt (place_of p) (length s.needs_poll) ≡ true → nat_lt (place_of p) (length t.needs_poll) ≡ true
  pub listed : is_listed s p ≡ true → is_listed t p ≡ true
  pub there : (m : Member) → m.process ≡ p → is_on_list s m ≡ true → is_on_list t m ≡ true

is_off : (x : ProcessState) → is_alive x ≡ true → x ≡ Off → ⊥
is_off Off a e = cc
is_off Running a e = cc
is_off Called a e = cc

-- a process that is running or called is a process of the mote
pub alive_has : (p : Proc) (s : KernelState) → is_alive (process_state s p) ≡ true → has_process s p ≡ true
alive_has p s a = let within = is_entry s.states (place_of p) Off (is_off (process_state s p) a) in grind (arith, nat_tests)

-- a number below 3 is not the place of any process of the program
pub no_own : (p : Proc) → (k : ℕ) → k < 3 → IsOwnProcess p → k ≡ place_of p → ⊥
no_own (Own p) k l own e = omega arith
no_own x k l own e = own

others_there : (ms : List Member) (q : Proc) (m : Member) → (place_of m.process == place_of q) ≡ false → holds_member (filter (λ x. not (is_same x.process q)) ms) m ≡ holds_member ms m
others_there [] q m e = refl
others_there (x ∷ ms) q m e = grind (arith, nat_tests, others_there ms q m e)

pub still_has : (k j : ℕ) (b : Bool) (needs_poll : List Bool) → nat_lt k (length needs_poll) ≡ true → nat_lt k (length (slice_set needs_poll j b)) ≡ true
still_has k j b needs_poll h = rw (length-set needs_poll j b) h

-- a process that needs a poll still needs it if another process also needs one
pub needs_poll_more : (k j : ℕ) (needs_poll : List Bool) → unwrap_or (slice_get needs_poll k) false ≡ true → unwrap_or (slice_get (slice_set needs_poll j true) k) false ≡ true
needs_poll_more k j needs_poll e = by (is_equal k j)
  where
    by : (k ≡ j) ⊎ (k ≡ j → ⊥) → unwrap_or (slice_get (slice_set needs_poll j true) k) false ≡ true
    by (inl q) = subst (λ i. unwrap_or (slice_get (slice_set needs_poll i true) k) false ≡ true) q (set_same needs_poll k true false (is_entry needs_poll k false (λ z. let f : true ≡ false = sym e ∙ z in cc)))
    by (inr n) = set_other needs_poll j k true false n ∙ e

module _ (p : Proc) (system : place_of p < 3) where
  apart : (q : Proc) → IsOwnProcess q → (place_of p == place_of q) ≡ false
  apart q own = let n = no_own q (place_of p) system own in grind (arith, nat_tests)

  -- a step that changes none of these tables
  pub alive_still : (s t : KernelState) → t.states ≡ s.states → t.needs_poll ≡ s.needs_poll → t.members ≡ s.members → Alive p s t
  alive_still s t states needs_poll members = record {
    can = λ c. record { alive = rw states c.alive; can_need_poll = rw needs_poll c.can_need_poll };
    state = λ h. rw states h;
    can_need_poll = λ h. rw needs_poll h;
    listed = λ h. rw members h;
    there = λ m e h. rw members h;
  }

  pub alive_joined : (a b c : KernelState) → Alive p a b → Alive p b c → Alive p a c
  alive_joined a b c h i = record {
    can = λ x. i.can (h.can x);
    state = λ x. i.state (h.state x);
    can_need_poll = λ x. i.can_need_poll (h.can_need_poll x);
    listed = λ x. i.listed (h.listed x);
    there = λ m e x. i.there m e (h.there m e x);
  }

  alive_with : (s : KernelState) (q : Proc) (x : ProcessState) → is_alive x ≡ true → is_alive (process_state s p) ≡ true → is_alive (unwrap_or (slice_get (slice_set s.states (place_of q) x) (place_of p)) Off) ≡ true
  alive_with s q x alive c = by (is_equal (place_of p) (place_of q))
    where
      by : (place_of p ≡ place_of q) ⊎ (place_of p ≡ place_of q → ⊥) → is_alive (unwrap_or (slice_get (slice_set s.states (place_of q) x) (place_of p)) Off) ≡ true
      by (inl e) =
          let within : place_of p < length s.states = is_entry s.states (place_of p) Off (is_off (process_state s p) c) in
          subst (λ k. is_alive (unwrap_or (slice_get (slice_set s.states k x) (place_of p)) Off) ≡ true) e (rw (set_same s.states (place_of p) x Off within) alive)
      by (inr n) = rw (set_other s.states (place_of q) (place_of p) x Off n) c

  pub alive_state : (s : KernelState) (q : Proc) (x : ProcessState) → is_alive x ≡ true → Alive p s (with_state s q x)
  unfolding with_state
  alive_state s q x alive = record {
    can = λ c. record { alive = alive_with s q x alive c.alive; can_need_poll = c.can_need_poll };
    state = λ h. rw (length-set s.states (place_of q) x) h;
    can_need_poll = λ h. h;
    listed = λ h. h;
    there = λ m e h. h;
  }

  pub alive_exiting : (s : KernelState) (q : Proc) → IsOwnProcess q → Alive p s (exiting_of s q)
  unfolding exiting_of with_exiting with_state
  alive_exiting s q own = record {
    can = λ c. record { alive = rw (set_other s.states (place_of q) (place_of p) Off Off (no_own q (place_of p) system own)) c.alive; can_need_poll = c.can_need_poll };
    state = λ h. rw (length-set s.states (place_of q) Off) h;
    can_need_poll = λ h. h;
    listed = λ h. h;
    there = λ m e h. h;
  }

  pub alive_needs_poll : (s : KernelState) (q : Proc) (b : Bool) → Alive p s (with_needs_poll s q b)
  unfolding with_needs_poll
  alive_needs_poll s q b = record {
    can = λ c. record { alive = c.alive; can_need_poll = still_has (place_of p) (place_of q) b s.needs_poll c.can_need_poll };
    state = λ h. h;
    can_need_poll = λ h. still_has (place_of p) (place_of q) b s.needs_poll h;
    listed = λ h. h;
    there = λ m e h. h;
  }

  pub alive_longer : (s : KernelState) (m : Member) (n : ℕ) → Alive p s (record s { members = m ∷ s.members; started = n })
  alive_longer s m n = record {
    can = λ c. record { alive = c.alive; can_need_poll = c.can_need_poll };
    state = λ h. h;
    can_need_poll = λ h. h;
    listed = λ h. any_or (is_same p m.process) (is_listed s p) h;
    there = λ x e h. any_or _ (holds_member s.members x) h;
  }

  pub alive_shorter : (s : KernelState) (q : Proc) → IsOwnProcess q → Alive p s (unlisted_of (with_exiting s q false) q)
  unfolding unlisted_of with_exiting
  alive_shorter s q own = record {
    can = λ c. record { alive = c.alive; can_need_poll = c.can_need_poll };
    state = λ h. h;
    can_need_poll = λ h. h;
    listed = λ h. others_stay s.members q p (apart q own) ∙ h;
    there = λ m e h. others_there s.members q m (rw e (apart q own)) ∙ h;
  }

-- The process list at the beginning of a boot or a run.
use Rattle.std.proofs.Common.{ℕ, zero, suc, ◌≡◌, ◌+◌, ◌∙◌, true, List, [], ◌∷◌, drop, Some, ap, sym, arith}
use Rattle.std.specs.Prelude.{if◌then◌else◌, slice_get}
use Rattle.process_kernel.specs.declared.machine.Machine.{Machine}
use Rattle.process_kernel.specs.declared.process.Member.{Member}
use Rattle.process_kernel.specs.ProcessList.{holds_member}
use Rattle.process_kernel.specs.Views.{first_list_of}
use Rattle.process_kernel.proofs.First.{drop_from}

-- while the current list is known to be numbered, it is the list at the beginning
first_is_current : (m : Machine) → m.is_numbered ≡ true → first_list_of m ≡ m.members.items
first_is_current m numbered = ap (λ b. if b then m.members.items else m.first_list.items) numbered

-- after some turns of a walk over this list, the rest begins with the incarnation at the next place
pub rest_begins : (old now : Machine) (place : ℕ) (m : Member) → old.is_numbered ≡ true
    → first_list_of now ≡ first_list_of old → slice_get (first_list_of now) place ≡ Some m
    → drop place old.members.items ≡ m ∷ drop (place + 1) old.members.items
rest_begins old now place m numbered same is =
    drop_from old.members.items place m
    (ap (λ ms. slice_get ms place) (sym (same ∙ first_is_current old numbered)) ∙ is)

-- the incarnation at a place of a list is on it
pub held_at : (ms : List Member) (place : ℕ) (m : Member) → slice_get ms place ≡ Some m → holds_member ms m ≡ true
held_at [] place m is = cc
held_at (x ∷ ms) zero m is = grind arith
held_at (x ∷ ms) (suc i) m is =
    let there = held_at ms i m is in
    grind arith

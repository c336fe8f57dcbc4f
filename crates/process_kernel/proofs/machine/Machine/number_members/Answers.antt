use Rattle.std.proofs.Common.{rules, arith, ◌≡◌, ◌≤◌, ◌∙◌, ℕ, ap, sym, subst, length, List}
use Rattle.std.specs.List.{refill}
use Rattle.std.specs.Vec.{vec_len}
use Rattle.process_kernel.specs.declared.process.Member.{Member}
use Rattle.process_kernel.specs.ProcessList.{AreMembers, numbered_from}
use Rattle.process_kernel.proofs.Lists.{AreMembers-numbered, length-numbered, numbered_again, refill_same}
use Rattle.process_kernel.proofs.machine.Machine.number_members.Goals as goal

-- the list becomes the list that is numbered from 0
are : (old lent new : List Member) (len : ℕ) → len ≡ length old → lent ≡ old → new ≡ numbered_from 0 lent
    → refill len old new ≡ numbered_from 0 old
are old lent new len long same numbered =
    let is = numbered ∙ ap (numbered_from 0) same in
    ap (λ n. refill n old new) long ∙ (refill_same old new (ap length is ∙ length-numbered 0 old) ∙ is)

pub invariant_of-self-clause-numbered : goal.invariant_of-self-clause-numbered
invariant_of-self-clause-numbered c = λ _.
    let old = c.args.self.now.members.items in
    let is = are old _ c.number.new.members (vec_len c.args.self.now.members)
    (search rules) c.deref_mut.ensures.value c.number.ensures.numbered in
    is ∙ sym (numbered_again 0 old) ∙ sym (ap (numbered_from 0) is)

pub invariant_of-self-clause-are_members : goal.invariant_of-self-clause-are_members
invariant_of-self-clause-are_members c =
    let is = are c.args.self.now.members.items _ c.number.new.members (vec_len c.args.self.now.members)
    (search rules) c.deref_mut.ensures.value c.number.ensures.numbered in
    subst (λ ms. AreMembers ms (length c.args.self.now.view.states.items)) (sym is)
    (AreMembers-numbered 0 _ _ c.args.self.now.are_members)

pub invariant_of-self-clause-few_members : goal.invariant_of-self-clause-few_members
invariant_of-self-clause-few_members c =
    let is = are c.args.self.now.members.items _ c.number.new.members (vec_len c.args.self.now.members)
    (search rules) c.deref_mut.ensures.value c.number.ensures.numbered in
    subst (λ (ms : List Member). length ms ≤ 67) (sym is)
    (let same = length-numbered 0 c.args.self.now.members.items in let few = c.args.self.now.few_members in
    omega arith)

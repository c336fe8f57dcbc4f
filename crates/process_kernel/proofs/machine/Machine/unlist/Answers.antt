use Rattle.std.proofs.Common.{rules, of_calls, ◌≡◌, filter, not, subst, sym, length}
use Rattle.std.proofs.lemmas.Fn.{filter_same}
use Rattle.process_kernel.specs.declared.process.Member.{Member}
use Rattle.process_kernel.specs.ProcessList.{AreMembers, is_same, unlisted_of}
use Rattle.process_kernel.proofs.Lists.{AreMembers-filter}
use Rattle.process_kernel.proofs.machine.Machine.unlist.Goals as goal

rest : (c : goal.After-retain)
    → c.retain.new.self.items
    ≡ filter (λ (m : Member). not (is_same m.process c.args.process)) c.keep_first_list.new.self.members.items
rest c = filter_same _ (λ (m : Member). not (is_same m.process c.args.process)) _
    (λ x b f h. search (rules, of_calls)) _ _ c.retain.ensures.filtered

pub returns-clause-exact : goal.returns-clause-exact
unfolding unlisted_of
returns-clause-exact c = λ t. let gone = rest c.before in search (rules, gone, c.in_ok-keep_first_list.ensures.exact t)

pub invariant_of-self-clause-are_members : goal.invariant_of-self-clause-are_members
invariant_of-self-clause-are_members c =
    subst (λ ms. AreMembers ms (length c.keep_first_list.new.self.view.states.items)) (sym (rest c))
    (AreMembers-filter _ _ _ c.keep_first_list.new.self.are_members)

use Rattle.std.proofs.Common.{arith, ap, ◌≡◌, ◌<◌, ◌≤◌, Bool, true, false, if◌then◌else◌, List, length}
use Rattle.std.specs.Result.{is_ok}
use Rattle.std.specs.List.{insert}
use Rattle.std.proofs.lemmas.List.Edits.{length-insert}
use Rattle.process_kernel.specs.declared.process.Member.{Member}
use Rattle.process_kernel.proofs.Lists.{length-lt}
use Rattle.process_kernel.proofs.machine.Machine.list_first.Goals as goal

few : (done : Bool) (old new : List Member) (m : Member) → new ≡ (if done then insert old 0 m else old)
    → length old < 67 → length new ≤ 67
few true old new m is low = let more = length-insert old 0 m (omega arith) in let n = ap length is in omega arith
few false old new m is low = let n = ap length is in omega arith

-- there is room for a process of the mote that isn't on the list
pub invariant_of-self-2-clause-few_members : goal.invariant_of-self-2-clause-few_members
invariant_of-self-2-clause-few_members c =
    let s = c.keep_first_list.new.self in
    let room = length-lt (record { process = c.args.process; incarnation = 0 }) s.members.items
    (length s.view.states.items) s.are_members (rw c.in_ok-keep_first_list.ensures.view c.requires.process_exists)
    (rw c.in_ok-keep_first_list.ensures.members c.requires.away) in
    few (is_ok c.insert.result) s.members.items c.insert.new.self.items _ c.insert.ensures.items
    (omega (arith, room, s.few_processes))

use Rattle.std.proofs.Common.{arith, subst, ◌+◌, ◌≤◌, drop, length, length-drop}
use Rattle.net_agenda.proofs.Runs.{rest_is, copies_held}
use Rattle.net_agenda.proofs.agenda.Agenda.put_copies.Goals as goal

pub loop-next-preserved : goal.loop-next-preserved
loop-next-preserved c =
    let cs = c.args.copies.now in
    let i = c.loop-next.next in
    let n = c.in_ok-next.field-0 in
    let inside : n ≤ length (drop (i + 1) cs) = subst (λ l. n ≤ length l) (rest_is cs (i + 1)) c.in_ok-next.ensures.inside in
    record {
      inside = let all = length-drop (i + 1) cs in let low = c.loop-next-test.true in omega arith;
      held = λ items holds. copies_held c.put_same_copies.new.self.buckets items cs i n _ c.loop-next-test.true (c.in_ok-next.ensures.held _ (c.loop-next.invariant.held items holds));
    }

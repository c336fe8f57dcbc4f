use Rattle.std.proofs.Common.{arith, subst, ◌+◌, ◌≤◌, drop, length, length-drop}
use Rattle.net_agenda.proofs.Runs.{rest_is, fates_held}
use Rattle.net_agenda.proofs.agenda.Agenda.put_fates.Goals as goal

pub loop-next-preserved : goal.loop-next-preserved
loop-next-preserved c =
    let fs = c.args.fates.now in
    let i = c.loop-next.next in
    let n = c.in_ok-next.field-0 in
    let inside : n ≤ length (drop (i + 1) fs) = subst (λ l. n ≤ length l) (rest_is fs (i + 1)) c.in_ok-next.ensures.inside in
    record {
      inside = let all = length-drop (i + 1) fs in let low = c.loop-next-test.true in omega arith;
      held = λ items holds. fates_held c.put_same_fates.new.self.buckets items c.args.sent.now fs i n _ c.loop-next-test.true (c.in_ok-next.ensures.held _ (c.loop-next.invariant.held items holds));
    }

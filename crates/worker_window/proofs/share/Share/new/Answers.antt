use Rattle.std.proofs.Common.{◌≡◌, ◌∙◌, ap, arith, subst, length, length-append, map, None, Option}
use Rattle.std.specs.List.{filter}
use Rattle.copy_exchange.specs.Crossed.{is_own}
use Rattle.mote_net.specs.Meaning.{net_of}
use Rattle.net_agenda.specs.Buckets.{HoldsItems}
use Rattle.window_laws.specs.Agenda.{Wake, up_to}
use Rattle.worker_window.specs.Share.{IfOwn, IsBeforeFirstTurn}
use Rattle.worker_window.specs.declared.own.OwnWindow.{OwnWindow}
use Rattle.net_agenda.proofs.Boots.{pushed}
use Rattle.worker_window.proofs.Begins.{wakes_more, begins}
use Rattle.worker_window.proofs.share.Share.new.Goals as goal

pub loop-number-preserved : goal.loop-number-preserved
loop-number-preserved c =
    let n = net_of c.args.net.now in
    let owners = c.args.owners.now in
    let worker = c.args.worker in
    let inv = c.loop-number.invariant in
    let i = c.loop-number.number in
    let grown = ap length c.in_ok-push.ensures.items ∙ length-append c.loop-number.share.motes.items _ in
    record {
      is_worker = inv.is_worker;
      motes = (let e = inv.motes in omega arith);
      firsts =
          pushed (λ k (m : Option OwnWindow). IfOwn (is_own owners worker k) m (IsBeforeFirstTurn n k)) c.loop-number.share.motes.items _ c.in_ok-mote.mote i
          c.in_ok-push.ensures.items inv.motes inv.firsts (subst (λ b. IfOwn b c.in_ok-mote.mote (IsBeforeFirstTurn n i)) c.is_own-own.ensures.value c.in_ok-mote.ensures.mote);
      log = inv.log;
      agenda = subst (λ l. HoldsItems c.begin.new.agenda.buckets l) (wakes_more (is_own owners worker) c.is_own-own.result i c.is_own-own.ensures.value) (c.in_ok-mote.ensures.wake _ inv.agenda);
    }

pub returns : goal.returns
returns c = record {
  keeps =
      let n = net_of c.args.net.now in
      let inv = c.loop-number.invariant in
      let all : c.loop-number.number ≡ length n.motes = omega (arith, c.motes-number-end.ensures.value, c.loop-number-test.false, c.loop-number.auto.number-end) in
      begins n c.args.owners.now c.args.worker c.requires.covers_motes c.loop-number.share inv.is_worker (inv.motes ∙ all) (λ k h. inv.firsts k None (omega arith)) inv.log
      (subst (λ j. HoldsItems c.loop-number.share.agenda.buckets (map (λ k. Wake 0 k) (filter (is_own c.args.owners.now c.args.worker) (up_to j)))) all inv.agenda);
}

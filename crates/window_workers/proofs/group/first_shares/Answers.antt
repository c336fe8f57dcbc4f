use Rattle.std.proofs.Common.{◌≡◌, ◌∙◌, ap, arith, length, length-append, []}
use Rattle.mote_net.specs.Meaning.{net_of}
use Rattle.net_agenda.proofs.Boots.{pushed}
use Rattle.net_agenda.specs.NetSystem.{system_of}
use Rattle.window_laws.specs.Windows.{first_mote}
use Rattle.worker_window.specs.Share.{IsWholeShare}
use Rattle.worker_window.specs.declared.share.Share.{Share}
use Rattle.window_workers.proofs.group.first_shares.Goals as goal

pub loop-worker-preserved : goal.loop-worker-preserved
loop-worker-preserved c =
    let n = net_of c.args.net.now in
    let inv = c.loop-worker.invariant in
    let grown = ap length c.in_ok-push.ensures.items ∙ length-append c.loop-worker.shares.items _ in
    record {
      count = (let e = inv.count in omega arith);
      each = λ v share low.
          pushed (λ k (s : Share). IsWholeShare n c.args.owners.now k 0 (first_mote (system_of n)) [] s) c.loop-worker.shares.items _ c.in_ok-share.share c.loop-worker.worker
          c.in_ok-push.ensures.items inv.count (λ k d h. inv.each k d h) c.in_ok-share.ensures.keeps v share low;
    }

pub returns : goal.returns
returns c =
    let inv = c.loop-worker.invariant in
    let all : c.loop-worker.worker ≡ c.args.workers = omega (arith, c.loop-worker-test.false, c.loop-worker.auto.worker-end) in
    record {
      first = record {
        count = inv.count ∙ all;
        each = λ v share low. inv.each v share (omega arith);
      };
      err = tt;
    }

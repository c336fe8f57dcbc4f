use Rattle.std.proofs.Common.{Some}
use Rattle.mote_net.specs.Meaning.{net_of}
use Rattle.window_workers.specs.declared.sync.SyncKind.TheVariants as sync
use Rattle.claim_check.proofs.Answered.{without_any}
use Rattle.claim_check.proofs.checking.run_by.Goals as goal

pub returns-in-empty-clause-ran : goal.returns-in-empty-clause-ran
returns-in-empty-clause-ran g c =
    without_any (Some (c.args.workers, sync.Joins)) (net_of c.args.net.now) c.args.faults.now c.run_in_blocks.result c.in-empty.len_below c.run_in_blocks.ensures.ran

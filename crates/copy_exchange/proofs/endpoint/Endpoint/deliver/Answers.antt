use Rattle.std.proofs.Common.{ℕ, List, ◌≡◌, length, get_or, take, subst, sym, ap, ◌∙◌, arith}
use Rattle.std.proofs.Math.Seq.{take-length}
use Rattle.std.proofs.lemmas.List.{take_more}
use Rattle.copy_exchange.specs.Endpoints.{Delivers, Leaves}
use Rattle.radio_packet.specs.declared.copy.RadioCopy.{RadioCopy}
use Rattle.copy_exchange.proofs.Delivered.{delivers_none, delivers_more}
use Rattle.copy_exchange.proofs.Lists.{each_at}
use Rattle.copy_exchange.proofs.endpoint.Endpoint.deliver.Goals as goal

pub deliver_one-requires-clause-leaves : goal.deliver_one-requires-clause-leaves
deliver_one-requires-clause-leaves g c =
    let none : RadioCopy = record { at = 0; to = 0; sender = 0; number = 0; value = 0 } in
    let leaves = each_at (Leaves c.args.owners.now (length c.args.inboxes.now) c.args.self.now.worker) c.args.copies.now c.loop-copy.copy-index none c.requires.leaves c.loop-copy-test.true in
    subst (λ (worker : ℕ). Leaves c.args.owners.now (length c.args.inboxes.now) worker (get_or c.args.copies.now c.loop-copy.copy-index none)) (sym c.loop-copy.invariant.delivers.stays.worker) leaves

pub loop-copy-init : goal.loop-copy-init
loop-copy-init g c = record { on_inboxes = c.requires.on_inboxes; delivers = delivers_none c.args.owners.now c.args.self.now }

pub loop-copy-preserved : goal.loop-copy-preserved
loop-copy-preserved g c =
    let copies : List RadioCopy = c.args.copies.now in
    let index : ℕ = c.loop-copy.copy-index in
    let none : RadioCopy = record { at = 0; to = 0; sender = 0; number = 0; value = 0 } in
    let matches = c.in_ok-deliver_one.ensures in
    let more = delivers_more c.args.owners.now c.args.self.now c.loop-copy.self c.deliver_one.new.self (take index copies) _ c.loop-copy.invariant.delivers matches.delivers in
    record {
      on_inboxes = matches.on_inboxes;
      delivers = subst (λ (l : List RadioCopy). Delivers c.args.owners.now c.args.self.now c.deliver_one.new.self l) (sym (take_more copies index none c.loop-copy-test.true)) more;
    }

pub returns-clause-delivers : goal.returns-clause-delivers
returns-clause-delivers g c =
    let copies : List RadioCopy = c.args.copies.now in
    let index : ℕ = c.loop-copy.copy-index in
    let over = c.loop-copy-test.false in
    let most = c.loop-copy.auto.copy-index-end in
    let e : index ≡ length copies = omega arith in
    let all : take index copies ≡ copies = ap (λ k. take k copies) e ∙ take-length copies in
    subst (λ (l : List RadioCopy). Delivers c.args.owners.now c.args.self.now c.loop-copy.self l) all c.loop-copy.invariant.delivers

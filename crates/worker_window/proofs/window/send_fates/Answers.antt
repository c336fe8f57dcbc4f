use Rattle.std.proofs.Common.{◌∙◌, ◌++◌, ◌∷◌, [], ap, append-nil, get_or, map, subst, sym, take, None}
use Rattle.std.proofs.lemmas.List.{take_all}
use Rattle.std.specs.Result.{OnOk}
use Rattle.copy_exchange.specs.Crossed.{is_own, is_for_others}
use Rattle.net_agenda.specs.Buckets.{HoldsItems}
use Rattle.net_agenda.specs.Changes.{AddsItems}
use Rattle.radio_medium.specs.Medium.{copy_of}
use Rattle.radio_packet.specs.declared.copy.RadioCopy.{RadioCopy}
use Rattle.radio_packet.specs.declared.fate.Fate.{Fate}
use Rattle.window_laws.specs.Agenda.{Packet}
use Rattle.worker_window.specs.Sending.{outgoing_copies, own_items}
use Rattle.worker_window.proofs.Sends.{more_own, more_away, all_own, none_away, on_ok}
use Rattle.worker_window.proofs.window.send_fates.Goals as goal

abbrev none : Fate
none = record { to = 0; at = None }

pub loop-fate-preserved : goal.loop-fate-preserved
loop-fate-preserved c =
    let owners = c.args.owners.now in
    let worker = c.args.worker in
    let sent = c.args.sent.now in
    let fates = c.args.fates.now in
    let i = c.loop-fate.fate-index in
    let inv = c.loop-fate.invariant in
    record {
      own = λ items holds.
          subst (λ l. HoldsItems c.send_fate.new.agenda.buckets l) (more_own (λ (copy : RadioCopy). is_own owners worker copy.to) (copy_of sent) items fates i none c.loop-fate-test.true)
          (c.in_ok-send_fate.ensures.own (items ++ own_items owners worker sent (take i fates)) (inv.own items holds));
      outgoing = c.in_ok-send_fate.ensures.outgoing
          ∙ (ap (λ l. l ++ outgoing_copies owners worker sent (get_or fates i none ∷ [])) inv.outgoing ∙ more_away (is_for_others (is_own owners worker)) (copy_of sent) c.args.outgoing.now.items fates i none c.loop-fate-test.true);
    }

pub returns-clause-own : goal.returns-clause-own
returns-clause-own c = λ items holds.
    subst (λ l. HoldsItems c.loop-fate.agenda.buckets (items ++ own_items c.args.owners.now c.args.worker c.args.sent.now l)) (take_all c.loop-fate.fate-index c.args.fates.now c.loop-fate-test.false)
    (c.loop-fate.invariant.own items holds)

pub returns-then-are_own-clause-own : goal.returns-then-are_own-clause-own
returns-then-are_own-clause-own c =
    subst (λ l. OnOk c.put_fates.result (AddsItems c.args.agenda.now.buckets c.put_fates.new.self.buckets (map Packet l)))
    (sym (all_own (is_own c.args.owners.now c.args.worker) c.args.sent.now c.args.fates.now (sym c.are_own.ensures.value ∙ c.if-are_own.true))) c.put_fates.ensures.adds

pub returns-then-are_own-clause-outgoing : goal.returns-then-are_own-clause-outgoing
returns-then-are_own-clause-outgoing c =
    on_ok c.put_fates.result
    (sym (ap (λ l. c.args.outgoing.now.items ++ l) (none_away (is_own c.args.owners.now c.args.worker) c.args.sent.now c.args.fates.now (sym c.are_own.ensures.value ∙ c.if-are_own.true))
    ∙ append-nil c.args.outgoing.now.items))

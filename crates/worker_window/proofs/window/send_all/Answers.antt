use Rattle.std.proofs.Common.{◌≡◌, ◌∙◌, ◌++◌, ◌∷◌, [], ap, get_or, map, subst, sym, take}
use Rattle.std.proofs.lemmas.List.{map-append, take_all}
use Rattle.std.specs.List.{filter, filter_map, flat_map}
use Rattle.copy_exchange.specs.Crossed.{is_own, is_for_others}
use Rattle.net_agenda.specs.Buckets.{HoldsItems}
use Rattle.radio_medium.specs.Medium.{copies, copy_of}
use Rattle.radio_packet.specs.declared.copy.RadioCopy.{RadioCopy}
use Rattle.radio_packet.specs.declared.sent.Sent.{Sent}
use Rattle.window_laws.proofs.Lists.{every_append}
use Rattle.window_laws.specs.Agenda.{Packet}
use Rattle.worker_window.specs.Log.{HaveFates, packets_in}
use Rattle.mote_net.specs.declared.report.LogLine.{LogLine}
use Rattle.worker_window.proofs.Sends.{more_sends, more_sent_own, more_sent_away}
use Rattle.worker_window.proofs.window.send_all.Goals as goal

abbrev none : Sent
none = record { at = 0; sender = 0; number = 0; value = 0 }

pub loop-sent-preserved : goal.loop-sent-preserved
unfolding copies
loop-sent-preserved c =
    let own = is_own c.args.owners.now c.args.worker in
    let sends = c.args.sends.now in
    let radio = c.args.medium.now in
    let made = copies radio in
    let i = c.loop-sent.sent-index in
    let sent = get_or sends i none in
    let inv = c.loop-sent.invariant in
    let matches = c.in_ok-fates.ensures.value in
    let given : filter_map (copy_of sent) c.deref.result.now ≡ made sent = ap (filter_map (copy_of sent)) (c.deref.ensures.value ∙ matches) in
    let before = filter (is_for_others own) (flat_map made (take i sends)) in
    let line : LogLine = record { sent = sent; fates = c.in_ok-fates.fates } in
    record {
      own = λ items holds.
          let all = items ++ map Packet (filter (λ (copy : RadioCopy). own copy.to) (flat_map made (take i sends))) in
          subst (λ l. HoldsItems c.send_fates.new.agenda.buckets l)
          (ap (λ l. all ++ map Packet (filter (λ (copy : RadioCopy). own copy.to) l)) given ∙ more_sent_own (λ copy. own copy.to) made items sends i none c.loop-sent-test.true)
          (c.in_ok-send_fates.ensures.own all (inv.own items holds));
      outgoing = c.in_ok-send_fates.ensures.outgoing
          ∙ (ap (λ l. l ++ filter (is_for_others own) (filter_map (copy_of sent) c.deref.result.now)) inv.outgoing
          ∙ (ap (λ l. (c.args.outgoing.now.items ++ before) ++ filter (is_for_others own) l) given ∙ more_sent_away (is_for_others own) made c.args.outgoing.now.items sends i none c.loop-sent-test.true));
      log = ap packets_in c.in_ok-push.ensures.items
          ∙ (map-append (λ (l : LogLine). l.sent) c.loop-sent.log.items (line ∷ [])
          ∙ (ap (λ l. l ++ sent ∷ []) inv.log ∙ more_sends (packets_in c.args.log.now.items) sends i none c.loop-sent-test.true));
      fates = λ h. subst (HaveFates radio) (sym c.in_ok-push.ensures.items) (every_append _ c.loop-sent.log.items (line ∷ []) (inv.fates h) (matches, tt));
    }

pub returns-clause-own : goal.returns-clause-own
returns-clause-own c = λ items holds.
    subst (λ l. HoldsItems c.loop-sent.agenda.buckets (items ++ map Packet (filter (λ copy. is_own c.args.owners.now c.args.worker copy.to) (flat_map (copies c.args.medium.now) l)))) (take_all c.loop-sent.sent-index c.args.sends.now c.loop-sent-test.false)
    (c.loop-sent.invariant.own items holds)

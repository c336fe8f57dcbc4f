use Rattle.std.proofs.Common.{◌≡◌, ◌∙◌, ◌++◌, ◌∷◌, ◌+◌, ◌<◌, ℕ, [], List, ap, append-nil, append_assoc, get_or, length, map, subst, take}
use Rattle.std.specs.List.{filter_map, flat_map}
use Rattle.std.proofs.lemmas.List.{map-append, take_all, take_more}
use Rattle.std.proofs.lemmas.List.Concat.{flat_map-append}
use Rattle.radio_medium.specs.Medium.{copies, copy_of, fates}
use Rattle.radio_faults.specs.Faults.{copies_with}
use Rattle.radio_faults.proofs.Copies.{fates_tell_copies}
use Rattle.radio_packet.specs.declared.copy.RadioCopy.{RadioCopy}
use Rattle.radio_packet.specs.declared.fate.Fate.{Fate}
use Rattle.radio_packet.specs.declared.sent.Sent.{Sent}
use Rattle.window_laws.specs.Agenda.{Item, Packet}
use Rattle.net_agenda.specs.Buckets.{HoldsItems}
use Rattle.mote_net.specs.declared.report.LogLine.{LogLine}
use Rattle.mote_net.specs.Report.{line_model, Packet as OfReport}
use Rattle.serial_run.specs.FaultRun.{packet_with}
use Rattle.serial_run.specs.Counted.{all_copies}
use Rattle.serial_run.proofs.sends.send_all.Goals as goal

abbrev none : Sent
none = record { at = 0; sender = 0; number = 0; value = 0 }

-- one more packet
sends_more : (made : Sent → List RadioCopy) (items : List Item) (sends : List Sent) (i : ℕ) (d : Sent) → i < length sends
    → (items ++ map Packet (flat_map made (take i sends))) ++ map Packet (made (get_or sends i d)) ≡ items ++ map Packet (flat_map made (take (i + 1) sends))
sends_more made items sends i d h = let more = take_more sends i d h in rw more (simp (flat_map-append, map-append, append-nil, append_assoc))

log_more : (packet : Sent → OfReport) (before lines : List OfReport) (sends : List Sent) (i : ℕ) (d : Sent) → i < length sends
    → lines ≡ before ++ map packet (take i sends) → lines ++ packet (get_or sends i d) ∷ [] ≡ before ++ map packet (take (i + 1) sends)
log_more packet before lines sends i d h is = let more = take_more sends i d h in rw (more, is) (simp (map-append, append_assoc))

pub loop-sent-preserved : goal.loop-sent-preserved
unfolding copies
loop-sent-preserved c =
    let inv = c.loop-sent.invariant in
    let faults = c.args.faults.now in
    let radio = c.args.medium.now in
    let made : Sent → List RadioCopy = λ sent. copies_with faults (copies radio sent) in
    let sends = c.args.sends.now in
    let i = c.loop-sent.sent-index in
    let sent = get_or sends i none in
    let matches = c.in_ok-fates.ensures.value in
    let line : LogLine = record { sent = sent; fates = c.in_ok-fates.fates } in
    let lines = map line_model c.loop-sent.log.items in
    record {
      agenda = λ items holds.
          let all = items ++ map Packet (flat_map made (take i sends)) in
          subst (λ l. HoldsItems c.put_fates.new.self.buckets l)
          (ap (λ (fates : List Fate). all ++ map Packet (filter_map (copy_of sent) fates)) (c.deref.ensures.value ∙ matches)
          ∙ (ap (λ (l : List RadioCopy). all ++ map Packet l) (fates_tell_copies faults sent (fates radio sent)) ∙ sends_more made items sends i none c.loop-sent-test.true))
          (c.in_ok-put_fates.ensures.adds all (inv.agenda items holds));
      log =
          ap (map line_model) c.in_ok-push.ensures.items
          ∙ (map-append line_model c.loop-sent.log.items (line ∷ [])
          ∙ (ap (λ (fates : List Fate). lines ++ record { sent = sent; fates = fates } ∷ []) matches
          ∙ log_more (packet_with faults radio) (map line_model c.args.log.now.items) lines sends i none c.loop-sent-test.true inv.log));
    }

pub returns-clause-agenda : goal.returns-clause-agenda
returns-clause-agenda c = λ items holds.
    subst (λ l. HoldsItems c.loop-sent.agenda.buckets (items ++ map Packet (all_copies c.args.faults.now c.args.medium.now l))) (take_all c.loop-sent.sent-index c.args.sends.now c.loop-sent-test.false)
    (c.loop-sent.invariant.agenda items holds)

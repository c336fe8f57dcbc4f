use Rattle.std.proofs.Common.{◌≡◌, ◌∙◌, ◌++◌, ◌<◌, ◌≤◌, ◌^◌, length, List, map, None, Some, ap, refl, subst, sym, slice_set}
use Rattle.std.specs.List.{filter, flat_map, AllByRecursion}
use Rattle.copy_exchange.specs.Crossed.{is_own, is_for_others}
use Rattle.net_agenda.specs.Buckets.{HoldsItems}
use Rattle.net_agenda.specs.Changes.{without_wakes}
use Rattle.radio_medium.specs.Medium.{copies}
use Rattle.radio_packet.specs.declared.sent.Sent.{Sent}
use Rattle.window_laws.specs.Agenda.{Packet, wake_items}
use Rattle.worker_window.specs.Log.{packets_in}
use Rattle.worker_window.specs.Resting.{HasSent}
use Rattle.worker_window.specs.Share.{mote_here}
use Rattle.worker_window.proofs.Places.{at_place, some_then, some_with, some_within, with_some}
use Rattle.worker_window.proofs.share.Share.rest.Goals as goal

pub send_all-requires : goal.send_all-requires
send_all-requires c = record {
  senders_exist =
      let old = c.args.self.now in
      let number = c.args.number in
      let low : c.from.result < length old.motes.items = subst (λ i. i < length old.motes.items) (sym c.from.ensures) (some_within old.motes.items number (some_with (HasSent (length c.args.medium.now.places)) (mote_here old.motes.items number) c.requires.sent)) in
      let here : mote_here old.motes.items number ≡ Some c.in-Some.own = ap (mote_here old.motes.items) (sym c.from.ensures) ∙ (at_place old.motes.items c.from.result c.index_mut.result.now None c.index_mut.ensures.value low ∙ c.in-Some.is) in
      subst (AllByRecursion (λ sent. (sent.sender < length c.args.medium.now.places) × (sent.at ≤ 2 ^ 40))) (sym c.deref.ensures.value)
      (with_some (HasSent (length c.args.medium.now.places)) (mote_here old.motes.items number) c.in-Some.own here c.requires.sent);
}

pub returns : goal.returns
returns c = record {
  rests =
      let old = c.args.self.now in
      let number = c.args.number in
      let own = c.in-Some.own in
      let low : c.from.result < length old.motes.items = subst (λ i. i < length old.motes.items) (sym c.from.ensures) (some_within old.motes.items number (some_with (HasSent (length c.args.medium.now.places)) (mote_here old.motes.items number) c.requires.sent)) in
      let here : mote_here old.motes.items number ≡ Some own = ap (mote_here old.motes.items) (sym c.from.ensures) ∙ (at_place old.motes.items c.from.result c.index_mut.result.now None c.index_mut.ensures.value low ∙ c.in-Some.is) in
      let worker_own = is_own c.args.owners.now old.worker in
      some_then _ (mote_here old.motes.items number) own here (record {
        rested = c.rest.new.self;
        is_rested = c.rest.ensures.rests;
        worker = refl;
        motes = ap (λ i. slice_set old.motes.items i (Some c.rest.new.self)) c.from.ensures;
        log = c.in_ok-send_all.ensures.log ∙ ap (λ (l : List Sent). packets_in old.log.items ++ l) c.deref.ensures.value;
        fates = c.in_ok-send_all.ensures.fates;
        agenda = λ items holds pending.
            subst (λ (l : List Sent). HoldsItems c.send_all.new.agenda.buckets ((without_wakes number items ++ wake_items number own.wake) ++ map Packet (filter (λ copy. worker_own copy.to) (flat_map (copies c.args.medium.now) l)))) c.deref.ensures.value
            (c.in_ok-send_all.ensures.own _ (c.in_ok-move_wake.ensures.moves_wake items holds (pending ∙ ap (wake_items number) (sym c.wake_from-pending.ensures.value))));
        outgoing = c.in_ok-send_all.ensures.outgoing ∙ ap (λ (l : List Sent). c.args.outgoing.now.items ++ filter (is_for_others worker_own) (flat_map (copies c.args.medium.now) l)) c.deref.ensures.value;
      });
}

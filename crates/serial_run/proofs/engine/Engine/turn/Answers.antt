use Rattle.std.proofs.Common.{◌≡◌, ◌<◌, ◌≤◌, ◌^◌, ◌∙◌, ap, sym, subst, arith, length, not, map, get_or, slice_set, List, ◌++◌}
use Rattle.std.specs.List.{AllByRecursion, filter}
use Rattle.std.proofs.lemmas.List.Elements.{recursion_from_All}
use Rattle.window_laws.proofs.Lists.{every_weaker}
use Rattle.mote_node.specs.Public.{turn_out_of}
use Rattle.mote_net.specs.Meaning.{net_of}
use Rattle.radio_medium.specs.Medium.{Radio}
use Rattle.radio_packet.specs.declared.sent.Sent.{Sent}
use Rattle.window_laws.specs.Agenda.{Item, Packet, comes_at, is_wake_of, wake_items}
use Rattle.net_agenda.specs.Buckets.{HoldsItems}
use Rattle.mote_net.specs.Report.{line_model}
use Rattle.serial_run.specs.FaultRun.{packet_with}
use Rattle.serial_run.specs.Counted.{all_copies}
use Rattle.serial_run.proofs.Steps.{in_state_turn, wake_to_drop, sent_of}
use Rattle.serial_run.proofs.engine.Engine.turn.Goals as goal

pub send_all-requires : goal.send_all-requires
send_all-requires c =
    let t = c.args.moment in
    let m = c.args.number in
    let radio = c.medium.result.now in
    let inside : m < length radio.places = omega (arith, c.medium.ensures.placed, c.requires.mote_exists) in
    let early : t ≤ 2 ^ 40 = c.requires.moment_bounded in
    let Bears : Sent → Type 0 = λ sent. (sent.at ≡ t) × (sent.sender ≡ m) in
    let Sendable : Sent → Type 0 = λ sent. (sent.sender < length radio.places) × (sent.at ≤ 2 ^ 40) in
    let each : (sent : Sent) → Bears sent → Sendable sent = λ sent bears. (subst (λ k. k < length radio.places) (sym bears.1) inside, subst (λ k. k ≤ 2 ^ 40) (sym bears.0) early) in
    let sends = c.turn_mote.new.out.sends.items in
    record { sendable = subst (AllByRecursion Sendable) (sym c.deref-2.ensures.value) (every_weaker Bears Sendable each sends (recursion_from_All Bears sends c.in_ok-next.ensures.stamped)) }

pub returns-clause-in_state : goal.returns-clause-in_state
returns-clause-in_state c = λ state at.
    let faults = c.args.faults.now in
    let n = net_of c.args.net.now in
    let t = c.args.moment in
    let m = c.args.number in
    let taken = c.take_due_into.ensures.rest state.agenda at.agenda in
    let wakes = c.args.self.now.wakes.items in
    let kept = c.index.ensures ∙ ap (λ k. get_or wakes k c.index.result.now) c.from.ensures in
    let woken = c.in_ok-move_wake.ensures.moves_wake _ taken (wake_to_drop faults n t m state c.index.result.now c.wake_but_at-wake.result c.args.self.now c.requires.mote_exists at c.index.result.now kept c.wake_but_at-wake.ensures.value) in
    let next = c.in_ok-next.next in
    let base : List Item = filter (λ item. not (is_wake_of m item)) (filter (λ item. not (comes_at t m item)) state.agenda) ++ wake_items m next in
    let sent = c.in_ok-send_all.ensures.agenda _ woken in
    in_state_turn faults n t m state c.args.self.now _ c.deref.result.now (turn_out_of c.turn_mote.new.out next) c.requires.mote_exists c.requires.is_whole at
    (c.deref.ensures.value ∙ c.in_ok-take_due_into.ensures.copies state.agenda at.agenda)
    c.in_ok-next.ensures.one_takes_turn (ap (λ k. slice_set wakes k next) c.from-2.ensures) c.in_ok-next.ensures.stamped c.in_ok-add_lines.ensures.adds_lines
    (sent_of (λ (r : Radio) (s : List Sent). HoldsItems c.send_all.new.agenda.buckets (base ++ map Packet (all_copies faults r s))) c.medium.ensures.value c.deref-2.ensures.value sent)
    (sent_of (λ (r : Radio) (s : List Sent). map line_model c.send_all.new.log.items ≡ map line_model c.args.self.now.log.items ++ map (packet_with faults r) s) c.medium.ensures.value c.deref-2.ensures.value c.in_ok-send_all.ensures.log)

use Rattle.std.proofs.Common.{◌≡◌, ◌∙◌, ap, refl, sym, length, None}
use Rattle.mote_net.specs.Meaning.{net_of}
use Rattle.radio_medium.specs.Medium.{Radio, medium_fault}
use Rattle.net_agenda.specs.Buckets.{first_key}
use Rattle.net_agenda.specs.NetSystem.{system_of}
use Rattle.window_laws.specs.NetStep.{turn_at}
use Rattle.window_laws.proofs.Ahead.{turn_ahead}
use Rattle.net_agenda.proofs.Ranks.{left_falls}
use Rattle.serial_run.proofs.ByWindows.{nets_run_forward}
use Rattle.serial_run.proofs.OnTime.{least_can_turn}
use Rattle.serial_run.proofs.Reached.{reached_first, reached_next, inside_least, numbered_at, ended_past, ended_empty}
use Rattle.serial_run.specs.FaultRun.{net_with}
use Rattle.serial_run.proofs.serial.run_to_end.Goals as goal

pub turns-init : goal.turns-init
turns-init c =
    let n = net_of c.args.net.now in
    record { whole = c.requires.is_whole; reached = reached_first c.args.faults.now n c.args.engine.now c.requires.boot }

pub turn-requires-clause-mote_exists : goal.turn-requires-clause-mote_exists
turn-requires-clause-mote_exists c =
    let at = c.turns.invariant.reached in
    inside_least (net_of c.args.net.now) c.in-Some.moment c.in-Some.number at.state at.inside (c.in-Some.ensures.least at.state.agenda at.in_state.agenda)

pub turn-requires-clause-ready : goal.turn-requires-clause-ready
turn-requires-clause-ready c =
    let n = net_of c.args.net.now in
    let at = c.turns.invariant.reached in
    let t = c.in-Some.moment in
    let m = c.in-Some.number in
    let least = c.in-Some.ensures.least at.state.agenda at.in_state.agenda in
    least_can_turn c.args.faults.now n at.at t m c.turns.engine at.state at.in_state at.on_time least (inside_least n t m at.state at.inside least)

pub turn-requires-clause-numbered : goal.turn-requires-clause-numbered
turn-requires-clause-numbered c =
    let at = c.turns.invariant.reached in
    let least = c.in-Some.ensures.least at.state.agenda at.in_state.agenda in
    numbered_at c.args.faults.now (net_of c.args.net.now) c.turns.engine c.in-Some.number at (inside_least (net_of c.args.net.now) c.in-Some.moment c.in-Some.number at.state at.inside least)

pub turns-smaller : goal.turns-smaller
unfolding system_of
turns-smaller c =
    let n = net_of c.args.net.now in
    let at = c.turns.invariant.reached in
    let t = c.in-Some.moment in
    let m = c.in-Some.number in
    let fault : medium_fault n.radio ≡ None = ap medium_fault (sym c.medium.ensures.value) ∙ c.lookahead-ahead.ensures.no_fault in
    let placed : length n.radio.places ≡ length n.motes = ap (λ (r : Radio). length r.places) (sym c.medium.ensures.value) ∙ c.medium.ensures.placed in
    let least = c.in-Some.ensures.least at.state.agenda at.in_state.agenda in
    let next = c.in_ok-turn.ensures.in_state at.state at.in_state in
    left_falls (length n.motes) c.end-end.result t m (turn_at (net_with c.args.faults.now n) t m at.state).agenda (first_key c.turns.engine.agenda.buckets) (first_key c.turn.new.self.agenda.buckets)
    c.turn.new.self.agenda.buckets (sym c.in-Some.ensures.first) (inside_least n t m at.state at.inside least) c.if-moment-end.false
    (turn_ahead (net_with c.args.faults.now n) (nets_run_forward c.args.faults.now n fault placed) t m at.state least.is_first) next.agenda refl

pub turns-preserved : goal.turns-preserved
turns-preserved c =
    let n = net_of c.args.net.now in
    let at = c.turns.invariant.reached in
    let fault : medium_fault n.radio ≡ None = ap medium_fault (sym c.medium.ensures.value) ∙ c.lookahead-ahead.ensures.no_fault in
    let placed : length n.radio.places ≡ length n.motes = ap (λ (r : Radio). length r.places) (sym c.medium.ensures.value) ∙ c.medium.ensures.placed in
    record {
      whole = c.in_ok-turn.ensures.is_whole;
      reached = reached_next c.args.faults.now n (nets_run_forward c.args.faults.now n fault placed) c.turns.engine c.turn.new.self c.in-Some.moment c.in-Some.number c.end-end.result c.end-end.ensures.value at
          (c.in-Some.ensures.least at.state.agenda at.in_state.agenda) c.if-moment-end.false c.in_ok-turn.ensures.in_state;
    }

pub returns-then-moment-end-clause-ended : goal.returns-then-moment-end-clause-ended
returns-then-moment-end-clause-ended c =
    let at = c.turns.invariant.reached in
    ended_past c.args.faults.now (net_of c.args.net.now) c.turns.engine c.in-Some.moment c.in-Some.number c.end-end.result c.end-end.ensures.value at (c.in-Some.ensures.least at.state.agenda at.in_state.agenda) c.if-moment-end.true

pub returns-in_default-clause-ended : goal.returns-in_default-clause-ended
returns-in_default-clause-ended c =
    let at = c.turns.invariant.reached in
    ended_empty c.args.faults.now (net_of c.args.net.now) c.turns.engine at (c.in_default.ensures.least at.state.agenda at.in_state.agenda)

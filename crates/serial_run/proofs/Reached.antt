-- The state that the engine has reached.
use Rattle.std.proofs.Common.{◌≡◌, ℕ, ◌<◌, ◌≤◌, List, [], length, sym, subst, arith}
use Rattle.std.specs.Prelude.{IfSome}
use Rattle.std.specs.List.{AllByRecursion}
use Rattle.trace_lines.specs.declared.line.Line.{Line}
use Rattle.mote_node.specs.Turn.{Node}
use Rattle.mote_net.specs.Net.{NetModel}
use Rattle.serial_run.specs.declared.engine.Engine.{Engine}
use Rattle.window_laws.specs.Forward.{RunsForward}
use Rattle.window_laws.specs.Agenda.{Wake, moment_of, mote_of, IsLeast, up_to}
use Rattle.window_laws.proofs.Agenda.{below_all, due_has}
use Rattle.net_agenda.specs.NetSystem.{system_of}
use Rattle.window_laws.specs.NetStep.{NetState, Done, Turn, boot, turn_at}
use Rattle.serial_run.specs.IsInState.{IsEngineAt, IsInside, HasNumberAt}
use Rattle.serial_run.specs.Ended.{HasReached, HasEnded}
use Rattle.window_laws.proofs.Ahead.{no_sooner}
use Rattle.window_laws.proofs.Lists.{every_weaker, every_map}
use Rattle.serial_run.proofs.Inside.{inside_turn}
use Rattle.serial_run.proofs.OnTime.{boot_on_time, turn_on_time}
use Rattle.serial_run.proofs.Stamped.{boot_numbered, turn_numbered}
use Rattle.radio_faults.specs.declared.fault.Fault.{Fault}
use Rattle.serial_run.specs.FaultRun.{net_with}

inside_first : (faults : List Fault) (n : NetModel) → IsInside n (boot (net_with faults n))
unfolding system_of
inside_first faults n = every_map _ (λ mote. Wake 0 mote) (up_to (length n.motes)) (below_all (length n.motes))

pub reached_first : (faults : List Fault) (n : NetModel) (engine : Engine) → IsEngineAt faults n engine (boot (net_with faults n)) → HasReached faults n engine
reached_first faults n engine at = record { state = boot (net_with faults n); in_state = at; inside = inside_first faults n; numbered = boot_numbered faults n; at = 0; on_time = boot_on_time faults n; led = λ last r. r }

pub inside_least : (n : NetModel) (t m : ℕ) (state : NetState Node Line) → IsInside n state → IsLeast t m state.agenda → m < length n.motes
inside_least n t m state inside least =
    due_has (λ u k. k < length n.motes) t m state.agenda least.is_there inside

pub numbered_at : (faults : List Fault) (n : NetModel) (engine : Engine) (m : ℕ) (at : HasReached faults n engine) → m < length n.motes → HasNumberAt n engine.motes.items m
numbered_at faults n engine m at there d = subst (λ o. IfSome o (λ (x : Node). x.mote.state.mote ≡ m)) (sym (at.in_state.nodes m there d)) (at.numbered m)

pub reached_next : (faults : List Fault) (n : NetModel) → RunsForward (net_with faults n) → (old new : Engine) (t m end : ℕ) → end ≡ n.end → (at : HasReached faults n old) → IsLeast t m at.state.agenda → t ≤ end
    → ((state : NetState Node Line) → IsEngineAt faults n old state → IsEngineAt faults n new (turn_at (net_with faults n) t m state)) → HasReached faults n new
reached_next faults n fine old new t m end e at least le turn = record {
  state = turn_at (net_with faults n) t m at.state;
  in_state = turn at.state at.in_state;
  inside = inside_turn faults n fine t m at.state (inside_least n t m at.state at.inside least) at.inside;
  numbered = turn_numbered faults n t m at.state at.numbered;
  at = t;
  on_time = turn_on_time faults n fine at.at t m at.state least at.on_time;
  led = λ last r. at.led last (Turn t m least (low e) r);
}
  where
    low : end ≡ n.end → t ≤ n.end
    low e = omega arith

pub ended_past : (faults : List Fault) (n : NetModel) (engine : Engine) (t m end : ℕ) → end ≡ n.end → (at : HasReached faults n engine) → IsLeast t m at.state.agenda → end < t → HasEnded faults n engine
ended_past faults n engine t m end e at least h = record {
  last = at.state;
  in_state = at.in_state;
  run = at.led at.state (Done (every_weaker _ _ (λ item g. later (moment_of item) (past e) (no_sooner t m (moment_of item) (mote_of item) g)) at.state.agenda least.is_first));
}
  where
    past : end ≡ n.end → n.end < t
    past e = omega arith

    later : (u : ℕ) → n.end < t → t ≤ u → n.end < u
    later u h le = omega arith

pub ended_empty : (faults : List Fault) (n : NetModel) (engine : Engine) (at : HasReached faults n engine) → at.state.agenda ≡ [] → HasEnded faults n engine
ended_empty faults n engine at e = record {
  last = at.state;
  in_state = at.in_state;
  run = at.led at.state (Done (subst (AllByRecursion (λ item. n.end < moment_of item)) (sym e) tt));
}

-- No event is for a mote that doesn't exist.
use Rattle.std.proofs.Common.{ℕ, ◌<◌, ◌≡◌, List, length, refl, subst}
use Rattle.window_laws.specs.Agenda.{mote_of, is_left}
use Rattle.window_laws.specs.Forward.{RunsForward}
use Rattle.window_laws.specs.NetStep.{NetState, stamped, turn_at}
use Rattle.window_laws.proofs.Ahead.{turn_every}
use Rattle.window_laws.proofs.Lists.{every_filter, every_weaker}
use Rattle.trace_lines.specs.declared.line.Line.{Line}
use Rattle.mote_node.specs.Turn.{Node}
use Rattle.mote_net.specs.Net.{NetModel}
use Rattle.net_agenda.specs.NetSystem.{system_of}
use Rattle.radio_faults.specs.declared.fault.Fault.{Fault}
use Rattle.serial_run.specs.FaultRun.{net_with}
use Rattle.serial_run.specs.IsInState.{IsInside}

module _ (faults : List Fault) (n : NetModel) where
  count : (net_with faults n).motes ≡ length n.motes
  unfolding system_of
  count = refl

  pub inside_turn : (fine : RunsForward (net_with faults n)) (t m : ℕ) (net : NetState Node Line) → m < length n.motes → IsInside n net → IsInside n (turn_at (net_with faults n) t m net)
  inside_turn fine t m net there inside =
      turn_every (net_with faults n) (λ item. mote_of item < length n.motes) t m net (every_filter _ _ (is_left t m) (λ item h e. h) net.agenda inside) (λ u e. there)
      (λ s. every_weaker _ _ (λ copy h. subst (λ c. copy.to < c) count h.to) _ (fine.copies_later (stamped t m s)))

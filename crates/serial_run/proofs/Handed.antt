-- After each turn, the lines of each mote since it booted agree with the mote.
use Rattle.std.proofs.Common.{◌≡◌, ℕ, Bool, true, false, List, [], ◌∷◌, ◌++◌, append-nil, append_assoc, subst, sym}
use Rattle.trace_lines.specs.declared.line.Line.{Line}
use Rattle.kernel_laws.specs.Going.{GoesWith, GoesWithAs, IsInOrder}
use Rattle.kernel_laws.proofs.Motes.{in_order}
use Rattle.mote_laws.proofs.Turns.{turn_keeps, new_goes}
use Rattle.mote_node.specs.Turn.{Node}
use Rattle.process_kernel.specs.KernelModel.{KernelModel, with_sent}
use Rattle.radio_packet.specs.declared.arrival.Arrival.{Arrival}
use Rattle.mote_net.specs.Net.{NetModel}
use Rattle.net_agenda.specs.Buckets.{arrivals_at}
use Rattle.net_agenda.specs.NetSystem.{system_of, mote_at, first_node_in}
use Rattle.window_laws.specs.NetStep.{NetState, Run, Done, Turn, boot, turned_at, turn_at}
use Rattle.window_laws.proofs.Puts.{put_both}
use Rattle.serial_run.specs.Laws.{NoFaultsOneLife, TracesHandOn}
use Rattle.radio_faults.specs.declared.fault.Fault.{Fault}
use Rattle.serial_run.specs.FaultRun.{boots_line, net_with, node_again}
use Rattle.serial_run.specs.Lives.{AreLives, OneLife, OneMore}
use Rattle.serial_run.specs.IsInState.{own_turn}
use Rattle.serial_run.proofs.EachTurn.{each_turn}
use Rattle.window_laws.specs.System.{Turned}

-- what agrees with a mote agrees with it whatever the number of its next packet is
sent_goes : (lines : List Line) (m : KernelModel) (sent : ℕ) → GoesWith lines m → GoesWith lines (with_sent m sent)
sent_goes lines m sent = go m.booted m.halted
  where
    go : (booted halted : Bool) → GoesWithAs booted halted lines m.state → GoesWithAs booted halted lines (record m.state { sent = sent })
    go false false g = record { matches = g.matches; blank = record { members = g.blank.members; events = g.blank.events; idle = g.blank.idle; there = g.blank.there } }
    go false true g = g
    go true false g = record { matches = g.matches; sound = record { stays = g.sound.stays; fits = g.sound.fits } }
    go true true g = g

-- the lines of a mote's last life agree with it, and its trace has the lines of its lives if those of the last one are in
-- order, and also with more of them
record Goes (faults : List Fault) (mote : ℕ) (trace : List Line) (node : Node) : Type 0 where
  life : List Line
  goes : GoesWith life node.mote
  lives : (more : List Line) → IsInOrder (life ++ more) → AreLives faults mote (trace ++ more)

whole : {faults : List Fault} {mote : ℕ} {trace : List Line} {node : Node} → Goes faults mote trace node → AreLives faults mote trace
whole {faults} {mote} {trace} {node} g =
    subst (AreLives faults mote) (append-nil trace) (g.lives [] (subst IsInOrder (sym (append-nil g.life)) (in_order g.life node.mote g.goes)))

module _ (faults : List Fault) (n : NetModel) where
  abbrev AllGo : NetState Node Line → Type 0
  AllGo net = (k : ℕ) → Goes faults k (net.traces k) (net.states k)

  -- a mote that boots again
  again_goes : (k : ℕ) (last : Node) → GoesWith [] (node_again (first_node_in n k) last).mote
  again_goes k last = let m = mote_at n.motes k in sent_goes [] (first_node_in n k).mote last.mote.state.sent (new_goes m.tree k m.queue)

  turn_goes : (t m : ℕ) (net : NetState Node Line) → AllGo net → AllGo (turn_at (net_with faults n) t m net)
  turn_goes t m net go =
      put_both (λ k (lines : List Line) (x : Node). Goes faults k lines x) net.traces net.states m (net.traces m ++ (turned_at (net_with faults n) t m net).lines) (turned_at (net_with faults n) t m net).state
      (each_turn faults n t m net (λ (turned : Turned Node Line). Goes faults m (net.traces m ++ turned.lines) turned.state)
      (λ wake later. record {
        life = g.life;
        goes = g.goes;
        lives = λ more h. subst (λ lines. AreLives faults m (lines ++ more)) (sym (append-nil trace)) (g.lives more h);
      })
      (λ wake later. record {
        life = g.life ++ own.lines;
        goes = turn_keeps g.life t arrivals (net.states m) g.goes;
        lives = λ more h. subst (AreLives faults m) (sym (append_assoc trace own.lines more)) (g.lives (own.lines ++ more) (subst IsInOrder (append_assoc g.life own.lines more) h));
      })
      (λ wake later e. record {
        life = again.lines;
        goes = turn_keeps [] t arrivals (node_again (first_node_in n m) (net.states m)) (again_goes m (net.states m));
        lives = λ more h. subst (AreLives faults m) (sym (append_assoc trace (boots_line t ∷ again.lines) more)) (OneMore t (whole g) e h);
      }))
      (λ k ne. go k)
    where
      g : Goes faults m (net.traces m) (net.states m)
      g = go m

      trace : List Line
      trace = net.traces m

      arrivals : List Arrival
      arrivals = arrivals_at t m net.agenda

      own : Turned Node Line
      own = own_turn t arrivals (net.states m)

      again : Turned Node Line
      again = own_turn t arrivals (node_again (first_node_in n m) (net.states m))

  run_goes : {net last : NetState Node Line} → Run (net_with faults n) n.end net last → AllGo net → AllGo last
  run_goes (Done h) go = go
  run_goes {net} (Turn t m least le r) go = run_goes r (turn_goes t m net go)

  boot_goes : AllGo (boot (net_with faults n))
  unfolding system_of
  boot_goes k = let m = mote_at n.motes k in record { life = []; goes = new_goes m.tree k m.queue; lives = λ more h. OneLife h }

pub traces_hand_on : TracesHandOn
traces_hand_on faults n r report k h = whole (run_goes faults n report.run (boot_goes faults n) k)

pub one_life : NoFaultsOneLife
one_life mote trace (OneLife h) = h
one_life mote trace (OneMore moment before e h) = absurd cc

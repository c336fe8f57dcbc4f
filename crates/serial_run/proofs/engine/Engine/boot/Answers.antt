use Rattle.std.proofs.Common.{◌≡◌, ◌∙◌, ℕ, ap, arith, subst, sym, refl, length, length-append, map, [], Option, Some, Vec, Global}
use Rattle.std.proofs.lemmas.Bool.{lt-ltb}
use Rattle.window_laws.proofs.Agenda.{first_wakes}
use Rattle.mote_node.specs.declared.mote.Mote.{Mote}
use Rattle.mote_node.specs.Public.{node_in}
use Rattle.trace_lines.specs.declared.line.Line.{Line}
use Rattle.mote_net.specs.Meaning.{net_of}
use Rattle.window_laws.specs.Agenda.{Wake, up_to, wake_items}
use Rattle.net_agenda.specs.Buckets.{HoldsItems}
use Rattle.net_agenda.specs.NetSystem.{system_of, first_node_in, tree_at}
use Rattle.net_agenda.proofs.Boots.{pushed, wakes_more}
use Rattle.mote_net.specs.Report.{line_model}
use Rattle.serial_run.proofs.engine.Engine.boot.Goals as goal

pub loop-number-preserved : goal.loop-number-preserved
loop-number-preserved c =
    let n = net_of c.args.net.now in
    let inv = c.loop-number.invariant in
    let i = c.loop-number.number in
    let grown = ap length c.in_ok-push.ensures.items ∙ length-append c.loop-number.engine.motes.items _ in
    let kept = ap length c.in_ok-push-2.ensures.items ∙ length-append c.loop-number.engine.wakes.items _ in
    let traced = ap length c.in_ok-push-3.ensures.items ∙ length-append c.loop-number.engine.traces.items _ in
    record {
      motes = (let e = inv.motes in omega arith);
      kept = (let e = inv.kept in omega arith);
      traced = (let e = inv.traced in omega arith);
      nodes = pushed (λ k (m : Mote). node_in (tree_at n k) m ≡ Some (first_node_in n k)) c.loop-number.engine.motes.items _ c.in_ok-mote.mote i c.in_ok-push.ensures.items inv.motes inv.nodes c.in_ok-mote.ensures.first_node;
      wakes = pushed (λ k (w : Option ℕ). w ≡ Some 0) c.loop-number.engine.wakes.items _ (Some 0) i c.in_ok-push-2.ensures.items inv.kept inv.wakes refl;
      traces = pushed (λ k (v : Vec Line Global). v.items ≡ []) c.loop-number.engine.traces.items _ c.new-in-loop-number.result i c.in_ok-push-3.ensures.items inv.traced inv.traces c.new-in-loop-number.ensures.items;
      log = inv.log;
      agenda = subst (λ l. HoldsItems c.put_wake.new.self.buckets l) (wakes_more i) (c.in_ok-put_wake.ensures.adds _ inv.agenda);
    }

pub returns-clause-in_state : goal.returns-clause-in_state
unfolding system_of
returns-clause-in_state c = λ faults.
    let n = net_of c.args.net.now in
    let inv = c.loop-number.invariant in
    let all : c.loop-number.number ≡ length n.motes = omega (arith, c.motes-number-end.ensures.value, c.loop-number-test.false, c.loop-number.auto.number-end) in
    record {
      nodes = λ k h d. inv.nodes k d (omega arith);
      wakes = λ k h d. first_wakes (length n.motes) k ∙ (let e = lt-ltb k (length n.motes) h in rw e (ap (wake_items k) (sym (inv.wakes k d (omega arith)))));
      traces = λ k h d. inv.traces k d (omega arith);
      log = ap (map line_model) inv.log;
      agenda = subst (λ j. HoldsItems c.loop-number.engine.agenda.buckets (map (λ k. Wake 0 k) (up_to j))) all inv.agenda;
    }

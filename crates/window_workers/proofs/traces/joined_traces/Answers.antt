use Rattle.std.proofs.Common.{◌≡◌, ◌∙◌, ap, arith, length, length-append, slice_index, Vec}
use Rattle.std.proofs.lemmas.List.{get_or_default}
use Rattle.std.specs.declared.alloc.Global.{Global}
use Rattle.net_agenda.proofs.Boots.{pushed}
use Rattle.trace_lines.specs.declared.line.Line.{Line}
use Rattle.window_workers.specs.Over.{reported_trace}
use Rattle.window_workers.proofs.traces.joined_traces.Goals as goal

pub loop-mote-preserved : goal.loop-mote-preserved
loop-mote-preserved c =
    let inv = c.loop-mote.invariant in
    let mote = c.loop-mote.mote in
    let t = c.take_trace-trace.ensures.takes_trace in
    let grown = ap length c.in_ok-push.ensures.items ∙ length-append c.loop-mote.traces.items _ in
    record {
      count = (let e = inv.count in omega arith);
      long = t.count ∙ inv.long;
      places = λ w d. t.places w d ∙ inv.places w d;
      taken = λ k d e low.
          pushed (λ i (v : Vec Line Global). v ≡ reported_trace c.args.ended.items (slice_index c.args.owners.now i) i d e) c.loop-mote.traces.items c.push.new.self.items c.take_trace-trace.result mote
          c.in_ok-push.ensures.items inv.count
          (λ i x h. get_or_default c.loop-mote.traces.items i x e (let q = inv.count in omega arith) ∙ inv.taken i d e h)
          (t.taken d e ∙ (inv.left c.from.result mote d e (omega arith) ∙ ap (λ w. reported_trace c.args.ended.items w mote d e) c.from.ensures))
          k e low;
      left = λ w k d e h. t.others w k d e (λ q. absurd (omega arith)) ∙ inv.left w k d e (omega arith);
    }

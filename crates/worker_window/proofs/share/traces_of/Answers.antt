use Rattle.std.proofs.Common.{rules, ◌≡◌, ◌∙◌, ◌++◌, ◌∷◌, [], ap, sym, map, map-id, vec_len, length, Vec, Global}
use Rattle.std.proofs.lemmas.List.{map-append}
use Rattle.trace_lines.specs.declared.line.Line.{Line}
use Rattle.worker_window.specs.Share.{trace_in}
use Rattle.std.proofs.lemmas.Iterator.Adapters.{YieldsList-from_vec}
use Rattle.std.proofs.lemmas.Iterator.Consumers.{YieldsList-end}
use Rattle.worker_window.proofs.share.traces_of.Goals as goal

pub loop-mote-preserved : goal.loop-mote-preserved
loop-mote-preserved c =
    let lines = λ (trace : Vec Line Global). trace.items in
    ap (map lines) c.in_ok-push.ensures.items
    ∙ (map-append lines c.loop-mote.traces.items (c.trace_of.result ∷ [])
    ∙ (ap (λ l. l ++ c.trace_of.result.items ∷ []) c.loop-mote.invariant
    ∙ (ap (λ x. map trace_in c.loop-mote.yielded ++ x ∷ []) c.trace_of.ensures.trace ∙ sym (map-append trace_in c.loop-mote.yielded (c.in-Some.mote ∷ [])))))

pub returns : goal.returns
returns c =
    let rest = c.into_iter-mote-iterator.ensures.into_iter_gives in
    let len : vec_len c.args.motes ≡ length c.args.motes.items = search rules in
    let end = YieldsList-end (YieldsList-from_vec c.args.motes.items rest.0 (rest.1 ∙ len)) c.loop-mote.yielded c.loop-mote.mote-iterator c.loop-mote.yielded_by c.next.result c.next.new.self c.in-None.is c.next.ensures.steps in
    record { traces = rw (sym (sym (map-id c.loop-mote.yielded) ∙ end.0)) c.loop-mote.invariant }

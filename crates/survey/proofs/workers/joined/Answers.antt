use Rattle.std.proofs.Common.{rules, ◌≡◌, ◌∙◌, length, map-id, sym, subst, vec_len}
use Rattle.std.proofs.lemmas.Iterator.Adapters.{YieldsList-from_vec}
use Rattle.std.proofs.lemmas.Iterator.Consumers.{YieldsList-end}
use Rattle.survey.specs.Joins.{Joins}
use Rattle.survey.proofs.Parts.{joins_more}
use Rattle.survey.proofs.workers.joined.Goals as goal

pub loop-part-preserved : goal.loop-part-preserved
loop-part-preserved c =
    rw (c.in_ok-part.was, c.in_ok-append.ensures.items) (joins_more c.loop-part.yielded c.loop-part.outcomes.items c.in_ok-part.field-0 c.loop-part.invariant)

pub returns : goal.returns
returns c =
    let rest = c.into_iter-part-iterator.ensures.into_iter_gives in
    let len : vec_len c.args.parts ≡ length c.args.parts.items = search rules in
    let end = YieldsList-end (YieldsList-from_vec c.args.parts.items rest.0 (rest.1 ∙ len)) c.loop-part.yielded c.loop-part.part-iterator c.loop-part.yielded_by c.next.result c.next.new.self c.in-None.is c.next.ensures.steps in
    record { joins = subst (λ l. Joins l c.loop-part.outcomes.items) (sym (map-id c.loop-part.yielded) ∙ end.0) c.loop-part.invariant }

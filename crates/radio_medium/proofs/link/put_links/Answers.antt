use Rattle.std.proofs.Common.{◌∙◌, [], sym, refl}
use Rattle.radio_medium.specs.Links.{every_at, radio_from}
use Rattle.radio_medium.proofs.Hearing.{far_off}
use Rattle.radio_medium.proofs.LinkLemmas.{links_step_some, links_step_none}
use Rattle.radio_medium.proofs.link.put_links.Goals as goal
use Rattle.radio_medium.proofs.link.put_links.Goals.{then-joins+in-Some+in_ok-push, then-joins+in_default, else-joins}

pub loop-to-preserved : goal.loop-to-preserved
loop-to-preserved c =
    let radio = radio_from c.args.places.now c.args.reach [] in
    let every = every_at c.args.every.now in
    let s = c.args.sender in
    let n = c.loop-to.to in
    let joins = rw (c.from.ensures, c.from-in-loop-to.ensures) at c.joins.ensures.value in
    elim c.if-joins.branch [
      | then-joins+in-Some+in_ok-push w ↦ rw (w.links-is, w.in_ok-push.ensures.items) (links_step_some radio every s n _ _ c.loop-to.invariant w.in-Some.ensures.link)
      | then-joins+in_default w ↦ rw w.links-is (links_step_none radio every s n _ c.loop-to.invariant w.in_default.ensures.link)
      | else-joins w ↦ rw w.links-is (links_step_none radio every s n _ c.loop-to.invariant (rw (far_off radio n s (sym joins ∙ w.if-joins.false)) refl))
    ]

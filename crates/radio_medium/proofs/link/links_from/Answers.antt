use Rattle.std.proofs.Common.{◌≡◌, ◌∙◌, ◌+◌, ◌*◌, ◌<◌, [], length, min, ap, arith}
use Rattle.radio_medium.specs.Medium.{receivers}
use Rattle.radio_medium.specs.Links.{every_at, links_of, links_below, radio_from}
use Rattle.radio_medium.proofs.Beyond.{links_beyond}
use Rattle.radio_medium.proofs.link.links_from.Goals as goal
use Rattle.radio_medium.proofs.link.links_from.Goals.{then-is_near+in_ok-put_links, else-is_near}

pub loop-index-preserved : goal.loop-index-preserved
loop-index-preserved c =
    let places = c.args.places.now in
    let radio = radio_from places c.args.reach [] in
    let every = every_at c.args.every.now in
    let s = c.args.sender in
    let i = c.loop-index.index in
    let some : i * 32 < length places = c.requires.groups.filled i (omega arith) in
    let first : min (length places) (i * 32) ≡ i * 32 = omega arith in
    let next : min (length places) (i * 32 + 32) ≡ min (length places) ((i + 1) * 32) = omega arith in
    let near = rw c.from.ensures at c.is_near.ensures.is_beyond in
    elim c.if-is_near.branch [
      | then-is_near+in_ok-put_links w ↦ rw w.links-is (w.in_ok-put_links.ensures.links ∙ ap (λ k. links_below radio every s k) (omega arith))
      | else-is_near w ↦ rw w.links-is
          (links_beyond places c.args.reach every s (i * 32) (min (length places) (i * 32 + 32)) _ _ (omega arith) (c.requires.groups.hold i _ (omega arith)) (near w.if-is_near.false) (rw first at c.loop-index.invariant)
          ∙ ap (λ k. links_below radio every s k) next)
    ]

pub returns : goal.returns
unfolding links_of receivers
returns c = record {
  links =
      let enough = c.requires.groups.enough in
      let all : min (length c.args.places.now) (c.loop-index.index * 32) ≡ length c.args.places.now = omega arith in
      rw all at c.loop-index.invariant;
}

use Rattle.std.proofs.Common.{[], ◌∙◌, sym, ap, arith}
use Rattle.std.proofs.lemmas.List.{get_or-map, length-map}
use Rattle.radio_medium.proofs.LinkLemmas.{ways_at, links_fit}
use Rattle.radio_medium.proofs.medium.Medium.links_of.Goals as goal

pub index-requires : goal.index-requires
index-requires c =
    let there = rw (← c.self.view_is) at c.requires.sender in
    let within = (ways_at _ _ c.args.s [] c.self.invariant.links there).0 in
    let inside = rw length-map at within in
    omega (arith, inside, c.self.inside.links.ok)

pub returns : goal.returns
returns c =
    let there = rw (← c.self.view_is) at c.requires.sender in
    let ways = ways_at _ _ c.args.s [] c.self.invariant.links there in
    let inside = rw length-map at ways.0 in
    let here = get_or-map (λ links. links.items) c.self.inside.links.items c.args.s c.index.result.now [] inside in
    let found = rw c.from.ensures at c.index.ensures in
    let way = c.deref.ensures.value ∙ ap (λ links. links.items) found ∙ sym here ∙ ways.1 in
    rw (← c.self.view_is) (record { ways = way; fit = rw way (links_fit _ c.self.invariant.limits c.self.invariant.fault c.args.s) })

use Rattle.std.proofs.lemmas.List.{map-append}
use Rattle.radio_medium.proofs.LinkLemmas.{ways_step}
use Rattle.radio_medium.proofs.link.all_links.Goals as goal

pub loop-sender-preserved : goal.loop-sender-preserved
loop-sender-preserved c = rw (c.in_ok-push.ensures.items, map-append) (ways_step _ _ _ _ c.loop-sender.invariant c.in_ok-links_from.ensures.links)

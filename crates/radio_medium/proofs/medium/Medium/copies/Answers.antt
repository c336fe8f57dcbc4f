use Rattle.radio_medium.specs.Medium.{copies}
use Rattle.radio_medium.proofs.LinkLemmas.{fates-links}
use Rattle.radio_medium.proofs.medium.Medium.copies.Goals as goal

pub returns : goal.returns
unfolding copies
returns c = record { value = rw (← fates-links c.args.self.now c.args.sent.now, ← c.links_of.ensures.ways) c.copies_along.ensures.copies }

use Rattle.radio_medium.proofs.LinkLemmas.{fates-links}
use Rattle.radio_medium.proofs.medium.Medium.fates.Goals as goal

pub returns : goal.returns
returns c = record { value = rw (← fates-links c.args.self.now c.args.sent.now, ← c.links_of.ensures.ways) c.fates_along.ensures.fates }

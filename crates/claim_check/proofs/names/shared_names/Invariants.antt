use Rattle.std.proofs.Common.{◌≡◌, ℕ, ◌<◌, Some}
use Rattle.mote_net.specs.Meaning.{net_of}
use Rattle.claim_check.specs.Names.{names_at}
use Rattle.claim_check.proofs.names.shared_names.Given as goal

abbrev pub invariant-loop-mote : goal.invariant-loop-mote
invariant-loop-mote l = (k : ℕ) → k < l.mote → names_at (net_of l.net) k ≡ Some l.names

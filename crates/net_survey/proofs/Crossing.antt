-- Threads may share a net, claims about it, and the faults that it may have.
use denote.Param.Send.{IsSync, sendable}
use denote.Param.SendFields.{declared_sync}
use denote.Ref.{NamedLft}
use Rattle.claims.proofs.claim.Claim.TheSendSync as claim
use Rattle.mote_net.proofs.NetCrossing.{net_sync}
use Rattle.fault_keys.proofs.keys.Candidates.TheSendSync as candidates
use Rattle.net_survey.specs.contracts.net_trial.NetTrial as NetTrial

pub trial_sync : (κ : NamedLft) → IsSync (NetTrial.the_row κ)
trial_sync κ = declared_sync (NetTrial.the_type κ) (search (net_sync, sendable), (search (claim.the_sync, sendable), (search (candidates.the_sync, sendable), tt)))

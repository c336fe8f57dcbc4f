-- The verdicts on some claims.
use Rattle.std.specs.Prelude.{ℕ, Bool, true, List, slice_get}
use Rattle.std.specs.Option.{option_map_or}
use Rattle.mote_net.specs.Report.{ReportModel}
use Rattle.claims.specs.declared.claim.Claim.{Claim}
use Rattle.claims.specs.Claims.{holds_in}

-- the claim with this number holds in the report; there is no claim with another number
abbrev pub claim_holds : List Claim → ReportModel → ℕ → Bool
claim_holds claims r k = option_map_or (λ c. holds_in c r) (slice_get claims k) true

-- The claim with a number.
use Rattle.std.proofs.Common.{◌≡◌, ℕ, ◌<◌, List, length, get_or, sym, ap, true}
use Rattle.std.specs.Option.{option_map_or}
use Rattle.std.proofs.lemmas.Option.{slice_get-get_or}
use Rattle.mote_net.specs.Report.{ReportModel}
use Rattle.claims.specs.declared.claim.Claim.{Claim}
use Rattle.claims.specs.Claims.{holds_in}
use Rattle.net_survey.specs.Judged.{claim_holds}

pub nth_holds : (claims : List Claim) (r : ReportModel) (k : ℕ) (d : Claim) → k < length claims → holds_in (get_or claims k d) r ≡ claim_holds claims r k
nth_holds claims r k d lt = sym (ap (λ o. option_map_or (λ c. holds_in c r) o true) (slice_get-get_or claims k d lt))

-- What is served of an input.
use Rattle.std.proofs.Common.{◌≡◌, ◌≢◌, ◌==◌, ◌∙◌, ℕ, List, None, Err, ap, inl, inr, refl, string_bytes, subst}
use Rattle.std.specs.List.{after_first, before_first}
use Rattle.std.specs.Str.Lines.{lines}
use Rattle.std.specs.Io.KnownBytes.{Keeps}
use Rattle.clap.specs.declared.error.kind.ErrorKind.{ErrorKind}
use Rattle.simulation.specs.FaultLines.{AppendsPrefix}
use Rattle.simulation.specs.Reads.{IsInputFault}
use Rattle.simulation.specs.declared.input.InputError.{InputError}
use Rattle.claim_check.specs.Asked.{is_in_conflict}
use Rattle.claim_check.specs.Command.{Ends, Responds, Serves, status_of, status_of_words}
use Rattle.claim_check.specs.FaultLines.{written_line}
use Rattle.claim_check.specs.Input.{ServesInput, ServesText, claims_in, scenario_in}
use Rattle.claim_check.specs.Words.{AsksOptions, FaultOf, options_app}
use Rattle.claim_check.specs.declared.command_line.Options.{Options}
use Rattle.claim_check.specs.declared.error.CheckError.TheVariants as check

module _ (input : List ℕ) (old new : Ends) (status : ℕ) where
  -- the options in the first part are served, with the other parts
  pub by_options : (options : Options) (words rest claims scenario : List ℕ) → words ≡ before_first (λ byte. byte == 0) input
      → rest ≡ after_first (λ byte. byte == 0) input → claims ≡ before_first (λ byte. byte == 0) rest → scenario ≡ after_first (λ byte. byte == 0) rest
      → AsksOptions (lines words) options → Serves (is_in_conflict options) (Responds None options scenario claims (string_bytes options.faults) old.output new.output) old new status → ServesText input old new status
  by_options options words rest claims scenario first behind second third asks serves =
      let claims_are : claims ≡ claims_in input = second ∙ ap (before_first (λ byte. byte == 0)) behind in
      let scenario_is : scenario ≡ scenario_in input = third ∙ ap (after_first (λ byte. byte == 0)) behind in
      let with_claims = subst (λ c. Serves (is_in_conflict options) (Responds None options scenario c (string_bytes options.faults) old.output new.output) old new status) claims_are serves in
      let served = subst (λ s. Serves (is_in_conflict options) (Responds None options s (claims_in input) (string_bytes options.faults) old.output new.output) old new status) scenario_is with_claims in
      inl (options, subst (λ w. AsksOptions (lines w) options) first asks, served)

  -- the words in the first part are refused, or ask for help
  pub by_words : (k : ErrorKind) (words : List ℕ) → words ≡ before_first (λ byte. byte == 0) input → FaultOf options_app (lines words) k
      → status ≡ status_of_words k → (status ≢ 0 → Keeps old.output new.output) → (status ≡ 0 → Keeps old.errors new.errors) → ServesText input old new status
  by_words k words first refused status_is fault help =
      inr (k, subst (λ w. FaultOf options_app (lines w) k) first refused, record { status_is = status_is; fault = fault; help = help })

  -- the input isn't a text
  pub by_input : (e : InputError) → IsInputFault input e → Keeps old.output new.output → status ≡ status_of (Err (check.Input e))
      → AppendsPrefix old.errors new.errors (written_line (check.Input e)) → ServesInput input old new status
  by_input e refused keeps status_is line =
      inr (record { answer = Err (check.Input e); is = (e, refl, refused, keeps); status_is = status_is; quiet = tt; line = line })

-- The result of what the options ask for.
use Rattle.std.proofs.Common.{◌≡◌, ◌||◌, ℕ, List, Bool, true, false, Option, Result, Ok, Err, IfErr, IfOk, refl, subst, sym, string_bytes}
use Rattle.std.specs.Bool.{MatchBool}
use Rattle.std.specs.Io.KnownBytes.{Keeps}
use Rattle.simulation.specs.FaultLines.{AppendsPrefix}
use Rattle.simulation.specs.Simulation.{Way}
use Rattle.claim_check.specs.Check.{Checks, Reports}
use Rattle.claim_check.specs.Asked.{is_survey, plan_for}
use Rattle.claim_check.specs.Command.{Answer, AnswersAsked, Concludes, Ends, Responds, Serves, WritesAnswers, status_of}
use Rattle.claim_check.specs.FaultLines.{written_line}
use Rattle.claim_check.specs.Survey.{Plan, Surveys}
use Rattle.claim_check.specs.declared.answers.Answers.{Answers}
use Rattle.claim_check.specs.declared.command_line.Options.{Options}
use Rattle.claim_check.specs.declared.error.CheckError.{CheckError}
use Rattle.claim_check.specs.declared.error.CheckError.TheVariants as check

module _ (way : Way) (options : Options) (s c f : List ℕ) where
  -- the result of a survey, or of one run
  abbrev either : Result Answers CheckError → Bool → Type 0
  either r b = MatchBool b (Surveys way (plan_for options) s c r) (Checks way s c f r)

  pub by_survey : (r : Result Answers CheckError) (test : Bool) (plan : Plan) → test ≡ is_survey options → test ≡ true → plan ≡ plan_for options
      → Surveys way plan s c r → AnswersAsked way options s c f r
  by_survey r test plan same is these h =
      let now : either r true = subst (λ p. Surveys way p s c r) these h in
      subst (either r) same (subst (either r) (sym is) now)

  pub by_check : (r : Result Answers CheckError) (test : Bool) → test ≡ is_survey options → test ≡ false → Checks way s c f r → AnswersAsked way options s c f r
  by_check r test same is h =
      let now : either r false = h in
      subst (either r) same (subst (either r) (sym is) now)

  neither : (b : Bool) → MatchBool b ⊥ ⊥ → ⊥
  neither true h = h
  neither false h = h

  -- without answers, nothing is written
  pub failed : (old new : Option (List ℕ)) (e : CheckError) → AnswersAsked way options s c f (Err e) → Keeps old new → WritesAnswers way options s c f old new (Err e)
  failed old new (check.Print e) h keeps = absurd (neither (is_survey options) h)
  failed old new e h keeps = (h, keeps)

  -- the answers are written as far as `written` says
  pub answered : (written : List ℕ → Type 0) (bytes : List ℕ) (a : Answers) → AnswersAsked way options s c f (Ok a)
      → bytes ≡ string_bytes a.text → written bytes → Answer way options s c f written a.all_hold
  answered written bytes a h same got = record { answers = a; answered = h; verdict = refl; got = subst written same got }

  -- the report is written, or the answers
  abbrev one_or_other : (old new : Option (List ℕ)) → Result Bool CheckError → Bool → Type 0
  one_or_other old new r b = MatchBool b (Reports way s f old new r) (WritesAnswers way options s c f old new r)

  pub by_report : (old new : Option (List ℕ)) (r : Result Bool CheckError) → options.report ≡ true → Reports way s f old new r → Responds way options s c f old new r
  by_report old new r is h =
      let now : one_or_other old new r true = h in
      subst (one_or_other old new r) (sym is) now

  pub by_writing : (old new : Option (List ℕ)) (r : Result Bool CheckError) → options.report ≡ false → WritesAnswers way options s c f old new r → Responds way options s c f old new r
  by_writing old new r is h =
      let now : one_or_other old new r false = h in
      subst (one_or_other old new r) (sym is) now

module _ (conflict : Bool) (result : Result Bool CheckError → Type 0) (old new : Ends) (status : ℕ) where
  -- a refusal, or a result
  abbrev refused_or_served : Bool → Type 0
  refused_or_served b = MatchBool b ((status ≡ 2) × Keeps old.output new.output) (Concludes result old.errors new.errors status)

  pub by_refusal : true ≡ conflict → status ≡ 2 → Keeps old.output new.output → Serves conflict result old new status
  by_refusal is two keeps =
      let now : refused_or_served true = (two, keeps) in
      subst refused_or_served is now

  pub by_result : false ≡ conflict → (answer : Result Bool CheckError) → result answer → status ≡ status_of answer
      → IfOk answer (λ _. Keeps old.errors new.errors) → IfErr answer (λ e. AppendsPrefix old.errors new.errors (written_line e)) → Serves conflict result old new status
  by_result is answer h status_is quiet line =
      let now : refused_or_served false = record { answer = answer; is = h; status_is = status_is; quiet = quiet; line = line } in
      subst refused_or_served is now

-- the first of two reasons, or the other one if there is any
pub first_of_two : (one other : Bool) → true ≡ one → true ≡ (one || other)
first_of_two one other is = subst (λ b. true ≡ (b || other)) is refl

pub other_of_two : (one other b : Bool) → false ≡ one → b ≡ other → b ≡ (one || other)
other_of_two one other b not_one is = subst (λ c. b ≡ (c || other)) not_one is

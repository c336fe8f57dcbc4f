-- Results of a check.
use Rattle.std.proofs.Common.{◌≡◌, ℕ, List, [], ◌∷◌, ◌++◌, Bool, ◌&&◌, Option, Result, Ok, Err, string_bytes, map, refl, sym, subst, ap, ap₂, ◌∙◌, append_assoc, append-nil, ◌<◌, length, arith}
use Rattle.std.proofs.Math.Bool.{and-true}
use Rattle.std.proofs.lemmas.List.Folds.{list_all-append}
use Rattle.std.specs.List.{list_all}
use Rattle.mote_net.specs.Net.{NetModel}
use Rattle.mote_net.specs.Report.{ReportModel}
use Rattle.std.specs.Io.KnownBytes.{Keeps}
use Rattle.radio_faults.specs.declared.fault.Fault.{Fault}
use Rattle.serial_run.specs.FaultRun.{IsReportWith}
use Rattle.trace_printer.specs.ReportText.{report_text}
use Rattle.claims.specs.declared.claim.Claim.{Claim}
use Rattle.claims.specs.Claims.{holds_in}
use Rattle.claim_text.specs.ClaimText.{text_of}
use Rattle.claim_text.specs.ClaimLines.{claim_lines, Refuses}
use Rattle.claim_text.specs.declared.error.ClaimsError.{ClaimsError}
use Rattle.net_scenario.specs.Reading.{TellsNet}
use Rattle.simulation.specs.Input.{IsText}
use Rattle.simulation.specs.Simulation.{RunsWith, Way}
use Rattle.simulation.specs.declared.error.SimError.{SimError}
use Rattle.simulation.specs.declared.error.SimError.TheVariants as fault
use Rattle.simulation.proofs.Printed.{scenario_of}
use Rattle.claim_check.specs.Check.{Answered, AreAnswers, Checks, IsAnswer, LacksRun, RefusesClaims, RefusesFaults, Reported, Reports}
use Rattle.claim_check.specs.Faults.{AreFaultsOf, RefusesFaultsOf}
use Rattle.claim_check.specs.Promises.{AnswersWith, RunsWithFaults}
use Rattle.claim_check.specs.declared.answers.Answers.{Answers}
use Rattle.mote_net.specs.declared.report.Report.{Report}
use Rattle.serial_run.specs.declared.error.RunError.{RunError}
use Rattle.claim_check.specs.declared.error.CheckError.{CheckError}
use Rattle.claim_check.specs.declared.error.CheckError.TheVariants as check
use Rattle.claim_check.specs.Names.{AreNames}

pub answered : (s c f : List ℕ) (net : NetModel) (chosen : List Fault) (r : ReportModel) (names : List (List ℕ)) (cs : List Claim) (a : Answers) → IsText s → TellsNet s net
    → AreFaultsOf net f chosen → AreNames net names → map (text_of names) cs ≡ claim_lines c → IsReportWith chosen net r → AnswersWith names r cs chosen a
    → Answered s c f (string_bytes a.text) a.all_hold
answered s c f net chosen r names cs a is_text tells are_faults named read run said =
    record {
      from = scenario_of s net is_text tells;
      chosen = chosen;
      are_faults = are_faults;
      report = r;
      run = run;
      names = names;
      named = named;
      asked = cs;
      read = read;
      lines = said.lines;
      answers = said.are;
      whole = said.whole;
      verdict = said.verdict;
    }

-- a run without faults
pub without_faults : (way : Way) (net : NetModel) (r : Result Report RunError) → RunsWith way net r → RunsWithFaults way net [] r
without_faults way net (Ok report) h = h
without_faults way net (Err e) h = h

pub without_any : (way : Way) (net : NetModel) (faults : List Fault) (r : Result Report RunError) → length faults < 1 → RunsWith way net r → RunsWithFaults way net faults r
without_any way net [] r below h = without_faults way net r h
without_any way net (fault ∷ faults) r below h = absurd (omega arith)

-- faults that are refused
module _ (way : Way) (s f : List ℕ) (net : NetModel) (is_text : IsText s) (tells : TellsNet s net) where
  refuses_faults : (e : CheckError) → RefusesFaultsOf net f e → RefusesFaults s f e
  refuses_faults e h = record { from = scenario_of s net is_text tells; refused = h }

  by_memory : (e : SimError) → RefusesFaultsOf net f (check.Simulation e) → LacksRun way s f (check.Simulation e)
  by_memory fault.Memory h = tt
  by_memory e h = absurd h

  pub checks_no_faults : (c : List ℕ) (e : CheckError) → RefusesFaultsOf net f e → Checks way s c f (Err e)
  checks_no_faults c (check.Simulation e) h = by_memory e h
  checks_no_faults c (check.Faults e) h = refuses_faults (check.Faults e) h
  checks_no_faults c (check.NotInNet number) h = refuses_faults (check.NotInNet number) h
  checks_no_faults c e h = absurd h

  pub reports_no_faults : (old new : Option (List ℕ)) (e : CheckError) → RefusesFaultsOf net f e → Keeps old new → Reports way s f old new (Err e)
  reports_no_faults old new (check.Simulation e) h keeps = (by_memory e h, keeps)
  reports_no_faults old new (check.Faults e) h keeps = (refuses_faults (check.Faults e) h, keeps)
  reports_no_faults old new (check.NotInNet number) h keeps = (refuses_faults (check.NotInNet number) h, keeps)
  reports_no_faults old new e h keeps = absurd h

  -- the report's text is written as far as `written` says
  pub reported : (written : List ℕ → Type 0) (chosen : List Fault) (r : ReportModel) → AreFaultsOf net f chosen → IsReportWith chosen net r → written (report_text net r) → Reported s f written
  reported written chosen r are_faults run got =
      record { from = scenario_of s net is_text tells; chosen = chosen; are_faults = are_faults; report = r; run = run; got = got }

-- claims that are refused
pub refuses_claims : (s c text : List ℕ) (net : NetModel) (names : List (List ℕ)) (e : ClaimsError) → IsText s → TellsNet s net → AreNames net names → text ≡ c → Refuses names text e
    → RefusesClaims s c e
refuses_claims s c text net names e is_text tells named same refused =
    record { from = scenario_of s net is_text tells; names = names; named = named; refused = subst (λ t. Refuses names t e) same refused }

-- one more answer
pub one_more : (names : List (List ℕ)) (r : ReportModel) (cs : List Claim) (text : List ℕ) (c : Claim) (line : List ℕ) → AreAnswers names r cs text → IsAnswer names r c line
    → AreAnswers names r (cs ++ c ∷ []) (text ++ line)
one_more names r [] text c line none is = (line, [], is, refl, ap (λ t. t ++ line) none ∙ sym (append-nil line))
one_more names r (k ∷ ks) text c line (first, rest, is_first, others, whole) is =
    (first, rest ++ line, is_first, one_more names r ks rest c line others is, ap (λ t. t ++ line) whole ∙ append_assoc first rest line)

-- so far all claims hold, and one more does or doesn't
pub verdict_more : (r : ReportModel) (cs : List Claim) (c : Claim) (before one : Bool) → before ≡ list_all (λ k. holds_in k r) cs → one ≡ holds_in c r
    → (before && one) ≡ list_all (λ k. holds_in k r) (cs ++ c ∷ [])
verdict_more r cs c before one is_before is_one =
    ap₂ (λ a b. a && b) is_before is_one ∙ (ap (λ b. list_all (λ k. holds_in k r) cs && b) (sym (and-true (holds_in c r))) ∙ sym (list_all-append (λ k. holds_in k r) cs (c ∷ [])))

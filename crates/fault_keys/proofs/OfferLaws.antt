-- What a survey rests on, for the runs of a net.
use Rattle.std.proofs.Common.{◌≡◌, ℕ, Bool, List, [], ◌∷◌, ◌++◌, map, ap, sym, inl, inr, ◌∙◌}
use Rattle.std.specs.Prelude.{IsPermutation}
use Rattle.std.specs.List.{Contains}
use Rattle.std.proofs.lemmas.Bool.{cases_Bool}
use Rattle.std.proofs.lemmas.List.Elements.{Contains-append_left}
use Rattle.std.proofs.lemmas.List.Sorted.{IsPermutation-map, IsPermutation-to_front}
use Rattle.radio_faults.specs.declared.fault.Fault.{Fault}
use Rattle.mote_net.specs.Net.{NetModel}
use Rattle.mote_net.specs.Report.{ReportModel}
use Rattle.serial_run.specs.FaultRun.{IsReportWith}
use Rattle.serial_run.specs.FaultLaws.{may_change}
use Rattle.serial_run.proofs.FaultLaws.{order_means_nothing, unsent_is_nothing}
use Rattle.serial_run.proofs.Unique.{report_is_one}
use Rattle.survey.specs.FaultSet.{IsSet}
use Rattle.survey.specs.Premise.{Runs}
use Rattle.fault_keys.specs.Offers.{AreRunsOf, NetsOfferAll}
use Rattle.fault_keys.proofs.Sets.{permutes, last_below, last_fresh}

module _ (net : NetModel) (fault_of : ℕ → Fault) (report : List ℕ → ReportModel) (claim : ReportModel → ℕ → Bool) (runs : Runs) (are : AreRunsOf net fault_of report claim runs) where
  same_report : (F G : List ℕ) → IsPermutation F G → report F ≡ report G
  same_report F G permuted =
      let moved : IsReportWith (map fault_of G) net (report F) = order_means_nothing (map fault_of F) (map fault_of G) net (report F) (IsPermutation-map fault_of F G permuted) (are.reports F) in
      report_is_one (map fault_of G) net (report G) (report F) (are.reports G) moved

  -- a fault that isn't offered leaves the report as it is
  unchanged : (F : List ℕ) (k : ℕ) → IsSet runs.bound (F ++ k ∷ []) → (Contains (runs.offers F) k → ⊥) → report (F ++ k ∷ []) ≡ report F
  unchanged F k set none =
      elim (cases_Bool (may_change (fault_of k) (report F))) [
        | inl felt ↦ absurd (none (are.all_offered F k (record { below = last_below runs.bound F k set; fresh = last_fresh runs.bound F k set; felt = felt })))
        | inr unsent ↦
            same_report (F ++ k ∷ []) (k ∷ F) (IsPermutation-to_front F k)
            ∙ report_is_one (map fault_of (k ∷ F)) net (report F) (report (k ∷ F)) (unsent_is_nothing (map fault_of F) (fault_of k) net (report F) (are.reports F) unsent) (are.reports (k ∷ F))
      ]

pub nets_offer_all : NetsOfferAll
nets_offer_all net fault_of report claim runs are = record {
  fresh = λ F k at. let o = are.offered F k at in (o.below, o.fresh);
  once = are.once;
  unordered = λ F G f g there back c. are.holds F c
      ∙ ap (λ r. claim r c) (same_report net fault_of report claim runs are F G (permutes runs.bound F G f g there back)) ∙ sym (are.holds G c);
  holds_same = λ F k set none c. are.holds (F ++ k ∷ []) c ∙ ap (λ r. claim r c) (unchanged net fault_of report claim runs are F k set none) ∙ sym (are.holds F c);
  offers_same = λ F k j set none at.
      let o = are.offered (F ++ k ∷ []) j at in
      are.all_offered F j (record {
        below = o.below;
        fresh = λ there. o.fresh (Contains-append_left F (k ∷ []) j there);
        felt = ap (may_change (fault_of j)) (sym (unchanged net fault_of report claim runs are F k set none)) ∙ o.felt;
      });
}

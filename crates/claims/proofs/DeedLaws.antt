-- The lines of a deed, mote by mote.
use Rattle.std.proofs.Common.{◌≡◌, ◌∙◌, Bool, List, filter, count_by}
use Rattle.std.specs.List.{list_any, sum_by, enumerate_from}
use Rattle.mote_net.specs.Report.{ReportModel}
use Rattle.claims.specs.declared.trace.Found.{Found}
use Rattle.claims.specs.declared.trace.Deed.{Deed}
use Rattle.claims.specs.declared.trace.Watched.{Watched}
use Rattle.claims.specs.Traces.{trace_at, found_at, lines_of_mote, lines_of, shows}
use Rattle.claims.specs.PerMote.{any_in, count_in}
use Rattle.claims.proofs.ListLaws.{list_any-flat_map, list_any-filter-map, count_by-flat_map, count_by-filter-map}

any_by : (q : Found → Bool) (r : ReportModel) (d : Deed) (ws : List Watched) → list_any (λ w. list_any q (filter (λ f. shows d w f.line) (lines_of_mote r w.mote))) ws ≡ list_any (any_in q r d) ws
any_by q r d ws = let each : (w : Watched) → list_any q (filter (λ f. shows d w f.line) (lines_of_mote r w.mote)) ≡ any_in q r d w
    = λ w. list_any-filter-map q (λ f. shows d w f.line) (found_at w.mote) (enumerate_from 0 (trace_at r w.mote)) in simp each

count_of_each : (q : Found → Bool) (r : ReportModel) (d : Deed) (ws : List Watched) → sum_by (λ w. count_by q (filter (λ f. shows d w f.line) (lines_of_mote r w.mote))) ws ≡ sum_by (count_in q r d) ws
count_of_each q r d ws = let each : (w : Watched) → count_by q (filter (λ f. shows d w f.line) (lines_of_mote r w.mote)) ≡ count_in q r d w
    = λ w. count_by-filter-map q (λ f. shows d w f.line) (found_at w.mote) (enumerate_from 0 (trace_at r w.mote)) in simp each

pub list_any-lines_of : (q : Found → Bool) (r : ReportModel) (d : Deed) → list_any q (lines_of r d) ≡ list_any (any_in q r d) d.watches.items
list_any-lines_of q r d = list_any-flat_map q (λ w. filter (λ f. shows d w f.line) (lines_of_mote r w.mote)) d.watches.items ∙ any_by q r d d.watches.items

pub count_by-lines_of : (q : Found → Bool) (r : ReportModel) (d : Deed) → count_by q (lines_of r d) ≡ sum_by (count_in q r d) d.watches.items
count_by-lines_of q r d = count_by-flat_map q (λ w. filter (λ f. shows d w f.line) (lines_of_mote r w.mote)) d.watches.items ∙ count_of_each q r d d.watches.items

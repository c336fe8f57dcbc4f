-- The lines of a deed at one mote. No public contract cites this file.
use Rattle.std.specs.Prelude.{ℕ, Bool, true, ◌&&◌, ◌==◌, not, if◌then◌else◌, List, filter, count_by}
use Rattle.std.specs.List.{enumerate_from, list_any}
use Rattle.mote_net.specs.Report.{ReportModel}
use Rattle.claims.specs.declared.trace.Found.{Found}
use Rattle.claims.specs.declared.trace.Watched.{Watched}
use Rattle.claims.specs.declared.trace.Deed.{Deed}
use Rattle.claims.specs.declared.lines.Lines.{Lines}
use Rattle.claims.specs.declared.values.Mark.{Mark}
use Rattle.claims.specs.declared.values.Mark.TheVariants.{Any, EarlierThan, Value, SameValue}
use Rattle.claims.specs.declared.compared.Place.{Place}
use Rattle.claims.specs.declared.compared.Place.TheVariants.{After, Last}
use Rattle.claims.specs.declared.compared.Comparison.{Comparison}
use Rattle.claims.specs.Traces.{trace_at, found_at, lines_of_mote, lines_of, shows}
use Rattle.claims.specs.Lines.{is_wanted}
use Rattle.claims.specs.Values.{is_earlier, is_value, is_last}
use Rattle.claims.specs.Compared.{has_same_value, rank, meets}

-- whether a line of a mote passes a test
abbrev pub any_in : (Found → Bool) → ReportModel → Deed → Watched → Bool
any_in q r d w = list_any (λ e. shows d w e.1 && q (found_at w.mote e)) (enumerate_from 0 (trace_at r w.mote))

-- how many lines of a mote pass a test
abbrev pub count_in : (Found → Bool) → ReportModel → Deed → Watched → ℕ
count_in q r d w = count_by (λ e. shows d w e.1 && q (found_at w.mote e)) (enumerate_from 0 (trace_at r w.mote))

-- the line is in the period of the watch, fits the deed's pattern, and has the order
abbrev pub is_counted : Lines → ReportModel → Watched → Found → Bool
is_counted s r w f = shows s.deed w f.line && is_wanted s.order r f

-- the lines of a mote that are counted
abbrev pub counted_in : Lines → ReportModel → Watched → List Found
counted_in s r w = filter (is_counted s r w) (lines_of_mote r w.mote)

abbrev pub has_mark : Mark → Found → Bool
has_mark Any f = true
has_mark (EarlierThan l) f = is_earlier f l
has_mark (Value v) f = is_value v f
has_mark (SameValue l) f = has_same_value l f

-- the line is at a place in time among the lines
abbrev pub is_placed : List Found → Place → Found → Bool
is_placed ls (After n) f = rank ls f == n
is_placed ls Last f = is_last ls f

-- the line has the value of another one, and is at a place in time
abbrev pub is_like : List Found → Place → (other : Found) → Found → Bool
is_like ls p other f = has_same_value other f && is_placed ls p f

-- whether a line meets what is compared, or doesn't
abbrev pub meets_so : Comparison → ReportModel → (is_so : Bool) → Found → Bool
meets_so c r is_so a = (let is_met = meets c.way (lines_of r c.deed) (lines_of r c.other) a in
    if is_so then is_met else not is_met)

-- The lines of a report that fit a pattern.
use Rattle.std.specs.Prelude.{ℕ, Bool, ◌&&◌, List, [], map, filter, slice_get, unwrap_or}
use Rattle.std.specs.List.{enumerate_from, flat_map, list_any}
use Rattle.mote_net.specs.Report.{ReportModel}
use Rattle.trace_lines.specs.declared.line.Line.{Line}
use Rattle.claims.specs.declared.trace.Found.{Found}
use Rattle.claims.specs.declared.trace.Watched.{Watched}
use Rattle.claims.specs.declared.trace.Deed.{Deed}
use Rattle.claims.specs.Sets.{is_in}
use Rattle.claims.specs.Patterns.{fits}

-- the trace of a mote; a mote that isn't in the report has no lines
abbrev pub trace_at : ReportModel → ℕ → List Line
trace_at r m = unwrap_or (slice_get r.traces m) []

-- a line of a mote, with its place in the mote's trace
abbrev pub found_at : ℕ → ℕ × Line → Found
found_at m e = record { mote = m; place = e.0; line = e.1 }

-- the lines of a mote
abbrev pub lines_of_mote : ReportModel → ℕ → List Found
lines_of_mote r m = map (found_at m) (enumerate_from 0 (trace_at r m))

-- the line is in the period of the watch, and fits one of the deed's patterns
abbrev pub shows : Deed → Watched → Line → Bool
shows d w l = is_in w.when l.at && list_any (λ p. fits p l.what) d.patterns.items

-- the lines of a deed: those of its motes, each in its period, that fit one of its patterns, mote by mote
abbrev pub lines_of : ReportModel → Deed → List Found
lines_of r d = flat_map (λ w. filter (λ f. shows d w f.line) (lines_of_mote r w.mote)) d.watches.items

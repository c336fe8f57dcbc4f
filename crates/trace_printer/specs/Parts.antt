-- The text of a report in pages.
use Rattle.std.specs.Prelude.{◌≡◌, ◌<◌, ℕ, ◌+◌, ◌*◌, List, ◌++◌, length, vec_len, Result, IfOk, slice_index_or}
use Rattle.std.specs.declared.alloc.AllocError.{AllocError}
use Rattle.mote_net.specs.Net.{NetModel}
use Rattle.mote_net.specs.Report.{report_of}
use Rattle.mote_net.specs.declared.report.Report.{Report}
use Rattle.trace_printer.specs.TraceLines.{net_lines, medium_lines, part_text}

-- there is one trace for each mote, and this is the number of lines that the motes show
abbrev pub HasTraces : NetModel → Report → (lines : ℕ) → Type 0
HasTraces net r lines = (vec_len r.traces ≡ length net.motes) × (length (net_lines net (report_of r).traces) ≡ lines)

-- the lines that all motes show, and then those of the medium
abbrev pub texts_of_lines : NetModel → Report → List (List ℕ)
texts_of_lines net r = net_lines net (report_of r).traces ++ medium_lines (report_of r).log

-- each page that was made has the next `size` of the lines, the first page those after the first `skip`
abbrev pub ArePages : (lines : List (List ℕ)) → (skip size : ℕ) → List (Result (List ℕ) AllocError) → Type 0
ArePages lines skip size pages = (i : ℕ) (d : Result (List ℕ) AllocError) → i < length pages
    → IfOk (slice_index_or pages i d) (λ page. page ≡ part_text lines (skip + i * size) size)

-- Lines that show that a test is, or isn't, met. They are counted mote by mote, and not in time.
use Rattle.std.specs.Prelude.{ℕ, Bool, true, false, zero, suc, Option, Some, None, List, [], ◌∷◌, slice_get}
use Rattle.mote_net.specs.Report.{ReportModel}
use Rattle.claims.specs.declared.trace.Found.{Found}
use Rattle.claims.specs.declared.lines.Lines.{Lines as LinesOfCode}
use Rattle.claims.specs.declared.count.Count.TheVariants.{Lines}
use Rattle.claims.specs.declared.claim.Test.{Test}
use Rattle.claims.specs.declared.claim.Test.TheVariants.{Count}
use Rattle.claims.specs.declared.witness.Break.{Break}
use Rattle.claims.specs.Lines.{wanted_lines}

-- there is no break
abbrev pub is_kept : Option Break → Bool
is_kept None = true
is_kept (Some b) = false

-- the first line after so many counted lines
abbrev pub line_beyond : LinesOfCode → ReportModel → Option ℕ → Option Found
line_beyond s r None = None
line_beyond s r (Some most) = slice_get (wanted_lines s r) most

-- the first line too many, if the test counts lines
abbrev pub spare_line : Test → ReportModel → Option Found
spare_line (Count (Lines s) limits) r = line_beyond s r limits.most
spare_line t r = None

-- the line with which so many lines are there
abbrev pub line_reaching : LinesOfCode → ReportModel → ℕ → Option Found
line_reaching s r zero = None
line_reaching s r (suc n) = slice_get (wanted_lines s r) n

-- the line with which a test is met, if it wants a number of lines
abbrev pub shown_line : Test → ReportModel → Option Found
shown_line (Count (Lines s) limits) r = line_reaching s r limits.least
shown_line t r = None

-- that of the first test
abbrev pub shown_in : ReportModel → List Test → Option Found
shown_in r [] = None
shown_in r (t ∷ ts) = shown_line t r

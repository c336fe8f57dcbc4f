-- The lines of a report without its last line, in order, and the text of a range of these lines.
use Rattle.std.specs.Prelude.{ℕ, ◌+◌, List, [], ◌∷◌, ◌++◌, codes, decimal, map, take, drop}
use Rattle.std.specs.List.{concat}
use Rattle.trace_lines.specs.declared.line.Line.{Line}
use Rattle.mote_net.specs.Net.{MoteSetup, NetModel}
use Rattle.mote_net.specs.Report.{Packet}
use Rattle.trace_printer.specs.ReportText.{line_text, packet_text}
use Rattle.trace_printer.specs.Words.{line_of}

-- the line that begins the text of a mote, and the lines of its trace
abbrev pub mote_lines : (mote : ℕ) → MoteSetup → List Line → List (List ℕ)
mote_lines mote m trace = line_of (codes "mote") (decimal mote ∷ m.program ∷ []) ∷ map (line_text m.tree) trace

-- the lines that the motes from this number on show
abbrev pub lines_from : (mote : ℕ) → List MoteSetup → List (List Line) → List (List ℕ)
lines_from mote (m ∷ ms) (t ∷ ts) = mote_lines mote m t ++ lines_from (mote + 1) ms ts
lines_from mote [] ts = []
lines_from mote (m ∷ ms) [] = []

-- the lines that the motes of a net show
abbrev pub net_lines : NetModel → List (List Line) → List (List ℕ)
net_lines net traces = lines_from 0 net.motes traces

-- the line that begins the log of the medium, and the lines of its packets
abbrev pub medium_lines : List Packet → List (List ℕ)
medium_lines log = line_of (codes "medium") [] ∷ map packet_text log

-- the text of at most `count` lines, after the first `skip`
abbrev pub part_text : (lines : List (List ℕ)) → (skip count : ℕ) → List ℕ
part_text lines skip count = concat (take count (drop skip lines))

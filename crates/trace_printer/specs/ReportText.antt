-- The text of a report. For each mote, it has the line `mote N PROGRAM` and the lines of the mote's trace. The line
-- `medium` and a line for each packet follow. The last line is `left K`.
use Rattle.std.specs.Prelude.{ℕ, ◌+◌, List, [], ◌∷◌, ◌++◌, codes, decimal, map}
use Rattle.std.specs.List.{flat_map}
use Rattle.program_tree.specs.Code.{Tree}
use Rattle.trace_lines.specs.declared.line.Line.{Line}
use Rattle.mote_net.specs.Net.{MoteSetup, NetModel}
use Rattle.mote_net.specs.Report.{Packet, ReportModel}
use Rattle.trace_printer.specs.Words.{line_of, words_of, fate_word}

-- a line of the trace of a mote with this program: the moment, and the words of the event
abbrev pub line_text : Tree → Line → List ℕ
line_text program l = line_of (decimal l.at) (words_of program l.what)

-- the text of the mote with this number
abbrev pub mote_text : (mote : ℕ) → MoteSetup → List Line → List ℕ
mote_text mote m trace = line_of (codes "mote") (decimal mote ∷ m.program ∷ []) ++ flat_map (line_text m.tree) trace

-- the text of the motes from this number on
abbrev pub motes_text : (mote : ℕ) → List MoteSetup → List (List Line) → List ℕ
motes_text mote (m ∷ ms) (t ∷ ts) = mote_text mote m t ++ motes_text (mote + 1) ms ts
motes_text mote [] ts = []
motes_text mote (m ∷ ms) [] = []

-- a line of the medium: the moment of a packet, its sender, its number and its value, and the fate of each copy
abbrev pub packet_text : Packet → List ℕ
packet_text p =
    line_of (decimal p.sent.at)
    (decimal p.sent.sender ∷ decimal p.sent.number ∷ decimal p.sent.value ∷ map fate_word p.fates)

abbrev pub medium_text : List Packet → List ℕ
medium_text log = line_of (codes "medium") [] ++ flat_map packet_text log

-- the last line: the number of copies that were still on their way
abbrev pub left_text : (left : ℕ) → List ℕ
left_text left = line_of (codes "left") (decimal left ∷ [])

abbrev pub report_text : NetModel → ReportModel → List ℕ
report_text net r = motes_text 0 net.motes r.traces ++ (medium_text r.log ++ left_text r.left)

-- The traces that a share returns at the end.
use Rattle.std.proofs.Common.{◌≡◌, ℕ, zero, suc, ◌<◌, List, [], ◌∷◌, Vec, Global, length, map, get_or, Option, Some, None, refl, arith}
use Rattle.std.specs.Prelude.{IsSomeAnd}
use Rattle.mote_node.specs.Turn.{Node}
use Rattle.program_tree.specs.Code.{Tree}
use Rattle.trace_lines.specs.declared.line.Line.{Line}
use Rattle.window_laws.specs.Windows.{LoneMote}
use Rattle.worker_window.specs.Share.{IsBetweenWindows, mote_here, trace_in}
use Rattle.worker_window.specs.declared.own.OwnWindow.{OwnWindow}

abbrev pub lines_in : Vec Line Global → List Line
lines_in trace = trace.items

pub trace_at : (traces : List (Vec Line Global)) (motes : List (Option OwnWindow)) → map lines_in traces ≡ map trace_in motes → (k : ℕ) → k < length motes → (d : Vec Line Global) → lines_in (get_or traces k d) ≡ trace_in (mote_here motes k)
trace_at [] [] e k low d = absurd (omega arith)
trace_at [] (m ∷ motes) e k low d = cc
trace_at (t ∷ traces) [] e k low d = cc
trace_at (t ∷ traces) (m ∷ motes) e zero low d = cc
trace_at (t ∷ traces) (m ∷ motes) e (suc k) low d = let f : map lines_in traces ≡ map trace_in motes = cc in trace_at traces motes f k (omega arith) d

pub all_kept : (traces : List (Vec Line Global)) (motes : List (Option OwnWindow)) → map lines_in traces ≡ map trace_in motes → length traces ≡ length motes
all_kept [] [] e = refl
all_kept [] (m ∷ motes) e = cc
all_kept (t ∷ traces) [] e = cc
all_kept (t ∷ traces) (m ∷ motes) e = let f : map lines_in traces ≡ map trace_in motes = cc in let same = all_kept traces motes f in omega arith

pub rest_lines : (tree : Tree) (mote : LoneMote Node Line) (o : Option OwnWindow) → IsSomeAnd o (IsBetweenWindows tree mote) → trace_in o ≡ mote.lines
rest_lines tree mote None h = absurd h
rest_lines tree mote (Some own) h = h.holds.lines

-- The lines of all traces, and the text of some of them.
use Rattle.std.proofs.Common.{◌≡◌, ℕ, zero, suc, ◌+◌, ◌-◌, ◌<◌, List, [], map, ◌∷◌, ◌++◌, length, get_or, take, drop, refl, ap, sym, ◌∙◌, add-one, arith, append_assoc, Vec, Global, Some, slice_get, option_map, codes, decimal}
use Rattle.std.specs.List.{concat, flat_map, sum_by}
use Rattle.std.proofs.lemmas.List.{drop-map, length-append, length-map, take-map}
use Rattle.std.proofs.lemmas.List.Folds.{concat-append}
use Rattle.std.proofs.lemmas.List.Sums.{sum_by-cons}
use Rattle.std.proofs.Math.Seq.{take-nil, drop-nil, take-add}
use Rattle.program_tree.specs.Code.{Tree}
use Rattle.trace_lines.specs.declared.line.Line.{Line}
use Rattle.mote_net.specs.Net.{MoteSetup, NetModel}
use Rattle.mote_net.specs.Report.{Packet, trace_lines_in, line_model}
use Rattle.mote_net.specs.declared.report.LogLine.{LogLine}
use Rattle.trace_printer.specs.ReportText.{line_text, medium_text, motes_text, packet_text}
use Rattle.trace_printer.specs.TraceLines.{mote_lines, lines_from, net_lines, medium_lines, part_text}
use Rattle.trace_printer.specs.Words.{line_of}

-- a part of no lines
pub part_nothing : (skip count : ℕ) → part_text [] skip count ≡ []
part_nothing skip count = rw (drop-nil {A = List ℕ} skip, take-nil {A = List ℕ} count) refl

-- mapped lines
mapped_lines : {X : Type 0} (f : X → List ℕ) (lines : List X) → concat (map f lines) ≡ flat_map f lines
mapped_lines f [] = refl
mapped_lines f (l ∷ ls) = ap (λ t. f l ++ t) (mapped_lines f ls)

mapped_part : {X : Type 0} (f : X → List ℕ) (trace : List X) (skip count : ℕ) → flat_map f (take count (drop skip trace)) ≡ part_text (map f trace) skip count
mapped_part f trace skip count = rw (drop-map f skip trace, take-map f count (drop skip trace), mapped_lines f (take count (drop skip trace))) refl

pub drop_drop : (a b : ℕ) (xs : List (List ℕ)) → drop b (drop a xs) ≡ drop (a + b) xs
drop_drop zero b xs = let same : 0 + b ≡ b = omega arith in rw same refl
drop_drop (suc a) b [] = rw (drop-nil {A = List ℕ} b, drop-nil {A = List ℕ} (suc a + b)) refl
drop_drop (suc a) b (x ∷ xs) = let more : suc a + b ≡ suc (a + b) = omega arith in rw more (drop_drop a b xs)

-- the text of a mote with this name and this program
mote_shows : (n : ℕ) (m : MoteSetup) (name : List ℕ) (tree : Tree) (lines : List Line) → Some m.program ≡ Some name → Some m.tree ≡ Some tree
    → mote_lines n m lines ≡ line_of (codes "mote") (decimal n ∷ name ∷ []) ∷ map (line_text tree) lines
mote_shows n m name tree lines named grown =
    let is_name : m.program ≡ name = cc in
    let is_tree : m.tree ≡ tree = cc in
    ap (λ word. line_of (codes "mote") (decimal n ∷ word ∷ []) ∷ map (line_text m.tree) lines) is_name
    ∙ ap (λ (t : Tree). line_of (codes "mote") (decimal n ∷ name ∷ []) ∷ map (line_text t) lines) is_tree

-- a part of two lists: some lines of the first, and then some of the second
pub part_both : (xs ys : List (List ℕ)) (skip count : ℕ) → part_text (xs ++ ys) skip count ≡ part_text xs skip count ++ part_text ys (skip - length xs) (count - (length xs - skip))
part_both [] ys skip count =
    let same : skip - 0 ≡ skip = omega arith in
    let all : count - (0 - skip) ≡ count = omega arith in
    rw (part_nothing skip count, same, all) refl
part_both (x ∷ xs) ys zero zero =
    let none : 0 - (length (x ∷ xs) - 0) ≡ 0 = omega arith in
    rw none refl
part_both (x ∷ xs) ys zero (suc c) =
    let skips : 0 - length (x ∷ xs) ≡ 0 - length xs = omega arith in
    let counts : suc c - (length (x ∷ xs) - 0) ≡ c - (length xs - 0) = omega arith in
    rw (skips, counts, append_assoc) (ap (λ l. x ++ l) (part_both xs ys 0 c))
part_both (x ∷ xs) ys (suc s) c =
    let skips : suc s - length (x ∷ xs) ≡ s - length xs = omega arith in
    let counts : length (x ∷ xs) - suc s ≡ length xs - s = omega arith in
    rw (skips, counts) (part_both xs ys s c)

-- a part of the lines, and then a part of the lines after it
pub part_sum : (lines : List (List ℕ)) (skip a b : ℕ) → part_text lines skip (a + b) ≡ part_text lines skip a ++ part_text lines (skip + a) b
part_sum lines skip a b = rw (take-add a b (drop skip lines), concat-append (take a (drop skip lines)) (take b (drop a (drop skip lines))), drop_drop skip a lines) refl

-- a part that begins after the first line of a mote or of the medium
pub part_later : {X : Type 0} (f : X → List ℕ) (head : List ℕ) (trace lines : List X) (skip count : ℕ) → 0 < skip → lines ≡ take count (drop (skip - 1) trace) → flat_map f lines ≡ part_text (head ∷ map f trace) skip count
part_later f head trace lines zero count some is = absurd (omega arith)
part_later f head trace lines (suc s) count some is =
    let before : suc s - 1 ≡ s = omega arith in
    ap (flat_map f) (is ∙ ap (λ n. take count (drop n trace)) before) ∙ mapped_part f trace s count

-- a part that begins with the first line of a mote or of the medium
pub part_first : {X : Type 0} (f : X → List ℕ) (head : List ℕ) (trace lines : List X) (count : ℕ) → 0 < count → lines ≡ take (count - 1) (drop 0 trace) → head ++ flat_map f lines ≡ part_text (head ∷ map f trace) 0 count
part_first f head trace lines zero some is = absurd (omega arith)
part_first f head trace lines (suc c) some is =
    let after : suc c - 1 ≡ c = omega arith in
    ap (λ l. head ++ l) (ap (flat_map f) (is ∙ ap (λ n. take n trace) after) ∙ mapped_part f trace 0 c)

-- the mote at i, which has the number n, is the next of the motes from i on
pub lines_next : (n : ℕ) (ms : List MoteSetup) (ts : List (Vec Line Global)) (i : ℕ) (t : Vec Line Global) (name : List ℕ) (tree : Tree) (lines : List Line) → i < length ms → length ts ≡ length ms
    → option_map (λ m. m.program) (slice_get ms i) ≡ Some name → option_map (λ m. m.tree) (slice_get ms i) ≡ Some tree → lines ≡ (get_or ts i t).items
    → lines_from n (drop i ms) (map trace_lines_in (drop i ts))
    ≡ (line_of (codes "mote") (decimal n ∷ name ∷ []) ∷ map (line_text tree) lines) ++ lines_from (n + 1) (drop (i + 1) ms) (map trace_lines_in (drop (i + 1) ts))
lines_next n [] ts i t name tree lines h same named grown is = absurd (omega arith)
lines_next n (m ∷ ms) [] i t name tree lines h same named grown is = absurd (omega arith)
lines_next n (m ∷ ms) (x ∷ ts) zero t name tree lines h same named grown is =
    ap (λ l. l ++ lines_from (n + 1) ms (map trace_lines_in ts))
    (ap (mote_lines n m) (sym is) ∙ mote_shows n m name tree lines named grown)
lines_next n (m ∷ ms) (x ∷ ts) (suc i) t name tree lines h same named grown is =
    simp add-one (simp add-one at (lines_next n ms ts i t name tree lines (omega arith) (omega arith) named grown is))

-- the number of lines that the motes show
pub lines_counted : (n : ℕ) (ms : List MoteSetup) (ts : List (Vec Line Global)) → length ts ≡ length ms → length (lines_from n ms (map trace_lines_in ts)) ≡ sum_by (λ t. length t.items + 1) ts
lines_counted n [] [] same = refl
lines_counted n [] (t ∷ ts) same = absurd (omega arith)
lines_counted n (m ∷ ms) [] same = absurd (omega arith)
lines_counted n (m ∷ ms) (t ∷ ts) same =
    let rest = lines_counted (n + 1) ms ts (omega arith) in
    omega (arith, rest, length-append (mote_lines n m t.items) (lines_from (n + 1) ms (map trace_lines_in ts)), length-map t.items (line_text m.tree), sum_by-cons (λ (v : Vec Line Global). length v.items + 1) t ts)

-- the text of all lines is that of the motes
pub lines_text : (n : ℕ) (ms : List MoteSetup) (ts : List (List Line)) → concat (lines_from n ms ts) ≡ motes_text n ms ts
lines_text n [] ts = refl
lines_text n (m ∷ ms) [] = refl
lines_text n (m ∷ ms) (t ∷ ts) =
    rw (concat-append (mote_lines n m t) (lines_from (n + 1) ms ts), mapped_lines (line_text m.tree) t, lines_text (n + 1) ms ts) refl

-- a part of the next lines is put, and a part of the rest is still to be put
pub part_next : (page put : List ℕ) (all lines rest : List (List ℕ)) (whole : List ℕ) (skip count skip_on count_on : ℕ) → all ≡ lines ++ rest → put ≡ page ++ part_text lines skip count
    → skip_on ≡ skip - length lines → count_on ≡ count - (length lines - skip) → page ++ part_text all skip count ≡ whole → put ++ part_text rest skip_on count_on ≡ whole
part_next page put all lines rest whole skip count skip_on count_on is more skips counts before =
    rw (more, skips, counts) (append_assoc page (part_text lines skip count) (part_text rest (skip - length lines) (count - (length lines - skip)))
    ∙ ap (λ (l : List ℕ). page ++ l) (sym (part_both lines rest skip count)) ∙ ap (λ (l : List (List ℕ)). page ++ part_text l skip count) (sym is) ∙ before)

-- some packets of a log
pub packets_some : (log some : List LogLine) (skip count : ℕ) → some ≡ take count (drop skip log)
    → map line_model some ≡ take count (drop skip (map line_model log))
packets_some log some skip count is =
    ap (map line_model) is ∙ rw (drop-map line_model skip log, take-map line_model count (drop skip log)) refl

-- the text of all lines is that of the motes, and then that of the medium
pub all_text : (net : NetModel) (ts : List (List Line)) (log : List Packet)
    → concat (net_lines net ts ++ medium_lines log) ≡ motes_text 0 net.motes ts ++ medium_text log
all_text net ts log =
    rw (concat-append (net_lines net ts) (medium_lines log), lines_text 0 net.motes ts, mapped_lines packet_text log) refl

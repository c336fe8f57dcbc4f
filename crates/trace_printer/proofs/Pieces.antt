-- Texts that consist of pieces: the next piece, and the rest after it.
use Rattle.std.proofs.Common.{◌≡◌, ◌+◌, ◌<◌, ◌≤◌, append_assoc, append-nil, ℕ, zero, suc, List, [], map, ◌∷◌, ◌++◌, length, get_or, drop, refl, ap, sym, ◌∙◌, add-one, arith, Vec, Global, Some, slice_get, option_map, codes, decimal}
use Rattle.std.specs.List.{flat_map}
use Rattle.program_tree.specs.Code.{Tree}
use Rattle.trace_lines.specs.declared.line.Line.{Line}
use Rattle.mote_net.specs.Net.{MoteSetup}
use Rattle.mote_net.specs.Report.{trace_lines_in}
use Rattle.trace_printer.specs.ReportText.{line_text, mote_text, motes_text}
use Rattle.trace_printer.specs.Words.{line_of}

-- the pieces from i on
pub flat_map-drop : {X : Type 0} (f : X → List ℕ) (xs : List X) (i : ℕ) (d : X) → i < length xs → flat_map f (drop i xs) ≡ f (get_or xs i d) ++ flat_map f (drop (i + 1) xs)
flat_map-drop f [] i d h = absurd (omega arith)
flat_map-drop f (x ∷ xs) zero d h = refl
flat_map-drop f (x ∷ xs) (suc i) d h = rw add-one (rw add-one at (flat_map-drop f xs i d (omega arith)))

-- the pieces of mapped items
pub flat_map-map : {X Y : Type 0} (g : Y → List ℕ) (f : X → Y) (xs : List X) → flat_map g (map f xs) ≡ flat_map (λ x. g (f x)) xs
flat_map-map g f [] = refl
flat_map-map g f (x ∷ xs) = ap (λ l. g (f x) ++ l) (flat_map-map g f xs)

-- the mapped pieces from i on
pub mapped-drop : {X Y : Type 0} (g : Y → List ℕ) (f : X → Y) (xs : List X) (i : ℕ) (d : X) → i < length xs
    → flat_map g (map f (drop i xs)) ≡ g (f (get_or xs i d)) ++ flat_map g (map f (drop (i + 1) xs))
mapped-drop g f xs i d h =
    flat_map-map g f (drop i xs) ∙ flat_map-drop (λ x. g (f x)) xs i d h ∙ ap (λ l. g (f (get_or xs i d)) ++ l) (sym (flat_map-map g f (drop (i + 1) xs)))

-- the next of the remaining pieces is put
pub mapped_more : {X Y : Type 0} (g : Y → List ℕ) (f : X → Y) (xs : List X) (i : ℕ) (d : X) (p q whole : List ℕ) → i < length xs
    → q ≡ p ++ g (f (get_or xs i d)) → p ++ flat_map g (map f (drop i xs)) ≡ whole → q ++ flat_map g (map f (drop (i + 1) xs)) ≡ whole
mapped_more g f xs i d p q whole h is before =
    let rest = flat_map g (map f (drop (i + 1) xs)) in
    ap (λ l. l ++ rest) is ∙ append_assoc p (g (f (get_or xs i d))) rest
    ∙ ap (λ l. p ++ l) (sym (mapped-drop g f xs i d h)) ∙ before

-- the next of the remaining words is put after a space
pub spaced_more : {X : Type 0} (f : X → List ℕ) (xs : List X) (i : ℕ) (d : X) (p q whole : List ℕ) → i < length xs → q ≡ p ++ 32 ∷ f (get_or xs i d)
    → p ++ flat_map (λ w. 32 ∷ w) (map f (drop i xs)) ≡ whole → q ++ flat_map (λ w. 32 ∷ w) (map f (drop (i + 1) xs)) ≡ whole
spaced_more f = mapped_more (λ w. 32 ∷ w) f

-- no item is left
pub flat_map-end : {X : Type 0} (f : X → List ℕ) (xs : List X) (i : ℕ) → length xs ≤ i → flat_map f (drop i xs) ≡ []
flat_map-end f [] zero h = refl
flat_map-end f [] (suc i) h = refl
flat_map-end f (x ∷ xs) zero h = absurd (omega arith)
flat_map-end f (x ∷ xs) (suc i) h = flat_map-end f xs i (omega arith)

-- no piece is left
pub mapped_end : {X Y : Type 0} (g : Y → List ℕ) (f : X → Y) (xs : List X) (i : ℕ) (p whole : List ℕ) → length xs ≤ i
    → p ++ flat_map g (map f (drop i xs)) ≡ whole → p ≡ whole
mapped_end g f xs i p whole h before =
    sym (append-nil p) ∙ ap (λ l. p ++ l) (sym (flat_map-map g f (drop i xs) ∙ flat_map-end (λ x. g (f x)) xs i h)) ∙ before

-- no word is left
pub spaced_end : {X : Type 0} (f : X → List ℕ) (xs : List X) (i : ℕ) (p whole : List ℕ) → length xs ≤ i
    → p ++ flat_map (λ w. 32 ∷ w) (map f (drop i xs)) ≡ whole → p ≡ whole
spaced_end f = mapped_end (λ w. 32 ∷ w) f

-- the text of a mote with this name and this program
mote_shows : (n : ℕ) (m : MoteSetup) (name : List ℕ) (tree : Tree) (lines : List Line) → Some m.program ≡ Some name → Some m.tree ≡ Some tree
    → mote_text n m lines ≡ line_of (codes "mote") (decimal n ∷ name ∷ []) ++ flat_map (line_text tree) lines
mote_shows n m name tree lines named grown =
    let is_name : m.program ≡ name = cc in
    let is_tree : m.tree ≡ tree = cc in
    ap (λ word. line_of (codes "mote") (decimal n ∷ word ∷ []) ++ flat_map (line_text m.tree) lines) is_name
    ∙ ap (λ (t : Tree). line_of (codes "mote") (decimal n ∷ name ∷ []) ++ flat_map (line_text t) lines) is_tree

-- the mote at i, which has the number n, is the next of the motes from i on
pub mote_next : (n : ℕ) (ms : List MoteSetup) (ts : List (Vec Line Global)) (i : ℕ) (t : Vec Line Global) (name : List ℕ) (tree : Tree) (lines : List Line) → i < length ms → length ts ≡ length ms
    → option_map (λ m. m.program) (slice_get ms i) ≡ Some name → option_map (λ m. m.tree) (slice_get ms i) ≡ Some tree → lines ≡ (get_or ts i t).items
    → motes_text n (drop i ms) (map trace_lines_in (drop i ts))
    ≡ (line_of (codes "mote") (decimal n ∷ name ∷ []) ++ flat_map (line_text tree) lines) ++ motes_text (n + 1) (drop (i + 1) ms) (map trace_lines_in (drop (i + 1) ts))
mote_next n [] ts i t name tree lines h same named grown is = absurd (omega arith)
mote_next n (m ∷ ms) [] i t name tree lines h same named grown is = absurd (omega arith)
mote_next n (m ∷ ms) (x ∷ ts) zero t name tree lines h same named grown is =
    ap (λ l. l ++ motes_text (n + 1) ms (map trace_lines_in ts))
    (ap (mote_text n m) (sym is) ∙ mote_shows n m name tree lines named grown)
mote_next n (m ∷ ms) (x ∷ ts) (suc i) t name tree lines h same named grown is =
    simp add-one (simp add-one at (mote_next n ms ts i t name tree lines (omega arith) (omega arith) named grown is))

-- no mote is left
pub motes_end : (n : ℕ) (ms : List MoteSetup) (ts : List (Vec Line Global)) (i : ℕ) → length ms ≤ i → length ts ≡ length ms → motes_text n (drop i ms) (map trace_lines_in (drop i ts)) ≡ []
motes_end n [] [] zero h same = refl
motes_end n [] [] (suc i) h same = refl
motes_end n [] (t ∷ ts) i h same = absurd (omega arith)
motes_end n (m ∷ ms) [] i h same = absurd (omega arith)
motes_end n (m ∷ ms) (t ∷ ts) zero h same = absurd (omega arith)
motes_end n (m ∷ ms) (t ∷ ts) (suc i) h same = motes_end n ms ts i (omega arith) (omega arith)

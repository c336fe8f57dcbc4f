-- Pages of consecutive lines, one after another.
use Rattle.std.proofs.Common.{◌≡◌, ℕ, suc, ◌+◌, ◌-◌, ◌*◌, ◌<◌, List, [], ◌∷◌, ◌++◌, length, take, drop, slice_index_or, Result, Ok, IfOk, ap, sym, subst, ◌∙◌, arith, append-nil, take-append-drop, Option}
use Rattle.std.specs.Io.KnownBytes.{Appends}
use Rattle.std.specs.List.{concat}
use Rattle.std.proofs.lemmas.List.Folds.{concat-append}
use Rattle.trace_printer.specs.Output.{AppendsFront}
use Rattle.std.specs.declared.alloc.AllocError.{AllocError}
use Rattle.trace_printer.specs.Page.{Written}
use Rattle.trace_printer.specs.Parts.{ArePages}
use Rattle.trace_printer.specs.TraceLines.{part_text}
use Rattle.trace_printer.proofs.TraceLines.{drop_drop, part_sum}

-- a text is written to its end
pub written_all : (a b : Option (List ℕ)) (text : List ℕ) → Appends a b text → Written a b text []
written_all a b text h = record { done = text; whole = sym (append-nil text); appended = h }

-- a prefix of the text is written
pub written_front_of : (a b : Option (List ℕ)) (text : List ℕ) → AppendsFront a b text → (rest : List ℕ) × Written a b text rest
written_front_of a b text (front, byte, rest, split, more) = (byte ∷ rest, record { done = front; whole = split; appended = more })

-- the lines of the pages from page i on are those of page i, and then those of the pages after it
pub next_page : (lines : List (List ℕ)) (skip size n i : ℕ) → i < n
    → part_text lines (skip + i * size) ((n - i) * size) ≡ part_text lines (skip + i * size) size ++ part_text lines (skip + (i + 1) * size) ((n - (i + 1)) * size)
next_page lines skip size n i inside =
    let left : n - i ≡ suc (n - (i + 1)) = omega (arith, inside) in
    let more : suc (n - (i + 1)) * size ≡ size + (n - (i + 1)) * size = grind arith in
    let sum : (n - i) * size ≡ size + (n - (i + 1)) * size = rw left more in
    let place : skip + i * size + size ≡ skip + (i + 1) * size = grind arith in
    ap (part_text lines (skip + i * size)) sum ∙ part_sum lines (skip + i * size) size ((n - (i + 1)) * size)
    ∙ ap (λ k. part_text lines (skip + i * size) size ++ part_text lines k ((n - (i + 1)) * size)) place

-- a page that was made has its lines
pub page_at : (lines : List (List ℕ)) (skip size : ℕ) (pages : List (Result (List ℕ) AllocError)) (i : ℕ) (item : Result (List ℕ) AllocError) (page : List ℕ)
    → ArePages lines skip size pages → i < length pages → slice_index_or pages i item ≡ item → item ≡ Ok page → page ≡ part_text lines (skip + i * size) size
page_at lines skip size pages i item page are inside is made =
    subst (λ (r : Result (List ℕ) AllocError). IfOk r (λ p. p ≡ part_text lines (skip + i * size) size)) (is ∙ made) (are i item inside)

-- the next `count` lines, and then the lines after them
pub rest_next : (lines : List (List ℕ)) (skip count : ℕ) → concat (drop skip lines) ≡ part_text lines skip count ++ concat (drop (skip + count) lines)
rest_next lines skip count =
    ap concat (sym (take-append-drop count (drop skip lines))) ∙ concat-append (take count (drop skip lines)) (drop count (drop skip lines))
    ∙ ap (λ (l : List (List ℕ)). part_text lines skip count ++ concat l) (drop_drop skip count lines)

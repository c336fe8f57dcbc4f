-- Bytes that are written into a list that has room for them.
use Rattle.std.proofs.Common.{◌≡◌, ℕ, ◌+◌, ◌≤◌, List, ◌++◌, length, take, drop, set, refl, ap, subst, ◌∙◌, ◌<◌, ◌∷◌, arith, append_assoc, take-append-drop}
use Rattle.std.proofs.lemmas.List.{take-append-le, length-take-le, length-drop, length-append}
use Rattle.std.proofs.lemmas.Slice.{take-put_mid}
use Rattle.std.proofs.Math.Seq.{take-append-add, take-set-lt, set-append_seam}
use borrow.Rule.Slice.PartMut.{put_mid, post_of}

-- a prefix of the appended text
pub put_front : (at k n : ℕ) (room put front : List ℕ) → at ≤ length room → n ≡ at + length front → take (length front) put ≡ front → length front ≤ length put → take n (put_mid at k room put) ≡ take at room ++ front
put_front at k n room put front within is begins few =
    let there : length (take at room) ≡ at = length-take-le at room within in
    let end : n ≡ length (take at room) + length front = omega arith in
    rw (end, take-append-add (take at room) (put ++ post_of at k room) (length front), take-append-le (length front) put (post_of at k room) few, begins) refl

-- at least the first m bytes of a text were put, and then all bytes after the first m
pub put_both : (at k l m from n : ℕ) (room first text : List ℕ) → at + length text ≤ length room → m ≤ length text → from ≡ at + m → n ≡ at + length text → take m first ≡ take m text → m ≤ length first
    → take n (put_mid from l (put_mid at k room first) (drop m text)) ≡ take at room ++ text
put_both at k l m from n room first text within part starts ends begins long =
    let rest = post_of at k room in
    let there : at + m ≤ length (put_mid at k room first) = omega (arith, length-append (take at room) (first ++ rest), length-append first rest, length-take-le at room (omega arith)) in
    let count : length (take m text) ≡ m = length-take-le m text part in
    let front : take (length (take m text)) first ≡ take m text = rw count begins in
    rw (take-put_mid from l (put_mid at k room first) (drop m text) n (omega (arith, length-drop m text)) (omega arith), put_front at k from room first (take m text) (omega arith) (omega arith) front (omega arith), append_assoc, take-append-drop) refl

-- the first byte that was put is overwritten
pub put_again : (at end : ℕ) (before room : List ℕ) (old new : ℕ) (rest : List ℕ) → at ≤ length before → at < end → take end room ≡ take at before ++ old ∷ rest → take end (set room at new) ≡ take at before ++ new ∷ rest
put_again at end before room old new rest within more is =
    let there : length (take at before) ≡ at = length-take-le at before within in
    take-set-lt end room at new more ∙ ap (λ l. set l at new) is
    ∙ subst (λ k. set (take at before ++ old ∷ rest) k new ≡ take at before ++ new ∷ rest) there (set-append_seam (take at before) old rest new)

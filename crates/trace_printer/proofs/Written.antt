-- A text that is written piece by piece.
use Rattle.std.proofs.Common.{◌≡◌, ℕ, List, [], ◌∷◌, ◌++◌, Option, Some, None, false, length, Result, Ok, Err, take, drop, refl, sym, ap, subst, ◌∙◌, append_assoc, append-nil, take-append-drop}
use Rattle.std.specs.Prelude.{◌==◌}
use Rattle.std.specs.Io.KnownBytes.{Appends, Keeps}
use Rattle.std.proofs.KnownBytes.{Appends-trans, Appends-nil}
use Rattle.trace_printer.specs.Output.{AppendsFront}
use Rattle.trace_printer.specs.Writes.{Writes}
use Rattle.trace_printer.specs.Page.{Written, Prints}

appended_kept : (a b c : Option (List ℕ)) (bytes : List ℕ) → Appends a b bytes → Keeps b c → Appends a c bytes
appended_kept None b c bytes more same = tt
appended_kept (Some xs) None c bytes more same = absurd more
appended_kept (Some xs) (Some ys) None bytes more same = absurd same
appended_kept (Some xs) (Some ys) (Some zs) bytes more same = same ∙ more

-- nothing is written yet
pub written_none : (a : Option (List ℕ)) (text : List ℕ) → Written a a text text
written_none a text = record { done = []; whole = refl; appended = Appends-nil a }

-- n more bytes are written
pub written_more : (a b c : Option (List ℕ)) (text rest left : List ℕ) (n : ℕ) → Written a b text rest → Appends b c (take n rest) → left ≡ drop n rest → Written a c text left
written_more a b c text rest left n before more is =
    record {
      done = before.done ++ take n rest;
      whole = before.whole ∙ ap (λ l. before.done ++ l) (sym (take-append-drop n rest) ∙ ap (λ l. take n rest ++ l) (sym is)) ∙ sym (append_assoc before.done (take n rest) left);
      appended = Appends-trans a b c before.done (take n rest) before.appended more;
    }

-- a failed call has written nothing
pub written_kept : (a b c : Option (List ℕ)) (text rest : List ℕ) → Written a b text rest → Keeps b c → Written a c text rest
written_kept a b c text rest w same = record { done = w.done; whole = w.whole; appended = appended_kept a b c w.done w.appended same }

-- a part of the text isn't written
pub written_stops : (a b : Option (List ℕ)) (text rest : List ℕ) → Written a b text rest → (length rest == 0) ≡ false → AppendsFront a b text
written_stops a b text [] w h = cc
written_stops a b text (byte ∷ rest) w h = (w.done, byte, rest, w.whole, w.appended)

-- the rest begins with a piece, and all of the piece except a rest is written
pub written_next : (a b c : Option (List ℕ)) (text rest piece left part : List ℕ) → Written a b text rest → rest ≡ piece ++ left → Written b c piece part → Written a c text (part ++ left)
written_next a b c text rest piece left part w is more =
    record {
      done = w.done ++ more.done;
      whole = w.whole ∙ ap (λ l. w.done ++ l) (is ∙ ap (λ l. l ++ left) more.whole ∙ append_assoc more.done part left) ∙ sym (append_assoc w.done more.done (part ++ left));
      appended = Appends-trans a b c w.done more.done w.appended more.appended;
    }

-- the written text has a rest that isn't empty
pub written_front : (a b : Option (List ℕ)) (text rest : List ℕ) (byte : ℕ) (left : List ℕ) → Written a b text (rest ++ byte ∷ left) → AppendsFront a b text
written_front a b text [] byte left w = (w.done, byte, left, w.whole, w.appended)
written_front a b text (x ∷ rest) byte left w = (w.done, x, rest ++ byte ∷ left, w.whole, w.appended)

-- a prefix is written, and then a text, to its end or to an error
pub written_then : {E : Type 0} (a b c : Option (List ℕ)) (r : Result (Unit {0}) E) (text rest : List ℕ) → Written a b text rest → Writes b c r rest → Writes a c r text
written_then a b c (Ok u) text rest w more = subst (Appends a c) (sym w.whole) (Appends-trans a b c w.done rest w.appended more)
written_then a b c (Err e) text rest w (front, byte, back, split, more) =
    (w.done ++ front, byte, back, w.whole ∙ ap (λ l. w.done ++ l) split ∙ sym (append_assoc w.done front (byte ∷ back)), Appends-trans a b c w.done front w.appended more)

-- one text is printed, and all of another except a rest is written
printed_both : (a b c : Option (List ℕ)) (p q rest one other : List ℕ) → Written a b (p ++ one) q → Written b c (q ++ other) rest → Written a c (p ++ (one ++ other)) rest
printed_both a b c p q rest one other w more =
    record {
      done = w.done ++ more.done;
      whole = sym (append_assoc p one other) ∙ ap (λ l. l ++ other) w.whole ∙ append_assoc w.done q other ∙ ap (λ l. w.done ++ l) more.whole ∙ sym (append_assoc w.done more.done rest);
      appended = Appends-trans a b c w.done more.done w.appended more.appended;
    }

-- one text is printed, and then another
pub prints_then : {E : Type 0} (a b c : Option (List ℕ)) (p q s : List ℕ) (r : Result (Unit {0}) E) (one other : List ℕ)
    → Written a b (p ++ one) q → Prints b c q s r other → Prints a c p s r (one ++ other)
prints_then a b c p q s (Ok u) one other w more = printed_both a b c p q s one other w more
prints_then a b c p q s (Err e) one other w (rest, more) = (rest, printed_both a b c p q rest one other w more)

-- a text is appended to the page, which is then written if it is full
pub put_printed : (a b : Option (List ℕ)) (p q s text : List ℕ) → q ≡ p ++ text → Written a b (q ++ []) s → Written a b (p ++ text) s
put_printed a b p q s text is w = subst (λ l. Written a b l s) (append-nil q ∙ is) w

-- a text is appended to the page, and a part of the page is then written
pub put_stopped : (a b : Option (List ℕ)) (p q text : List ℕ) → q ≡ p ++ text → (rest : List ℕ) × Written a b (q ++ []) rest → (rest : List ℕ) × Written a b (p ++ text) rest
put_stopped a b p q text is (rest, w) = (rest, put_printed a b p q rest text is w)

-- the next of the remaining texts is printed
pub printed_next : (a b c : Option (List ℕ)) (text p s piece left rest : List ℕ) → Written a b text (p ++ rest) → rest ≡ piece ++ left → Written b c (p ++ piece) s → Written a c text (s ++ left)
printed_next a b c text p s piece left rest w is more =
    written_next a b c text (p ++ rest) (p ++ piece) left s w (ap (λ l. p ++ l) is ∙ sym (append_assoc p piece left)) more

-- the next text is printed in part
pub stopped_next : (a b c : Option (List ℕ)) (text p piece left rest : List ℕ) → Written a b text (p ++ rest) → rest ≡ piece ++ left
    → (part : List ℕ) × Written b c (p ++ piece) part → (part : List ℕ) × Written a c text part
stopped_next a b c text p piece left rest w is (part, more) = (part ++ left, printed_next a b c text p part piece left rest w is more)

-- nothing is written yet, and nothing waits
pub written_start : (a : Option (List ℕ)) (p text : List ℕ) → p ≡ [] → Written a a text (p ++ text)
written_start a p text none = subst (λ l. Written a a text (l ++ text)) (sym none) (written_none a text)

-- the next text is printed in part, and it isn't the last
pub stopped_before : (a b c : Option (List ℕ)) (text p piece : List ℕ) (byte : ℕ) (left rest : List ℕ) → Written a b text (p ++ rest) → rest ≡ piece ++ byte ∷ left
    → (part : List ℕ) × Written b c (p ++ piece) part → AppendsFront a c text
stopped_before a b c text p piece byte left rest w is (part, more) = written_front a c text part byte left (printed_next a b c text p part piece (byte ∷ left) rest w is more)

-- Prefixes of a text that is written piece by piece.
use Rattle.std.proofs.Common.{◌≡◌, ℕ, List, [], ◌∷◌, ◌++◌, Option, Some, None, IfSome, Result, Ok, Err, refl, sym, ap, ◌∙◌, append_assoc, append-nil, subst}
use Rattle.std.specs.Prelude.{IsErr}
use Rattle.std.specs.List.{FoldsTo, concat}
use Rattle.std.specs.Fmt.{WritesInCalls}
use Rattle.std.specs.Fmt.InlineText.{inline_text, AppendsIfIntact}
use Rattle.std.specs.declared.fmt.InlineText.{InlineText}
use Rattle.std.specs.Io.KnownBytes.{Appends}
use Rattle.std.proofs.KnownBytes.{Appends-trans}
use Rattle.trace_printer.specs.Output.{AppendsFront}
use Rattle.trace_printer.specs.Writes.{Writes}
use Rattle.simulation.specs.FaultLines.{AppendsPrefix, WritesLine}

pub of_front : (a b : Option (List ℕ)) (text : List ℕ) → AppendsFront a b text → AppendsPrefix a b text
of_front a b text (front, byte, rest, is, more) = (front, byte ∷ rest, is, more)

-- a text that was written, or a proper prefix of it
pub wrote : {E : Type 0} (a b : Option (List ℕ)) (r : Result (Unit {0}) E) (text : List ℕ) → Writes a b r text → WritesLine a b r text
wrote a b (Ok u) text h = h
wrote a b (Err e) text h = of_front a b text h

-- a piece is written, and then a prefix of the rest
pub after_piece : (a b c : Option (List ℕ)) (piece text : List ℕ) → Appends a b piece → AppendsPrefix b c text → AppendsPrefix a c (piece ++ text)
after_piece a b c piece text first (front, rest, is, more) =
    (piece ++ front, rest, ap (λ l. piece ++ l) is ∙ sym (append_assoc piece front rest), Appends-trans a b c piece front first more)

-- a call that returned an error has written a prefix
pub stopped : {E : Type 0} (a b : Option (List ℕ)) (r : Result (Unit {0}) E) (text : List ℕ) → IsErr r → AppendsPrefix a b text → WritesLine a b r text
stopped a b (Ok u) text h p = cc
stopped a b (Err e) text h p = p

pub wrote_then : {E : Type 0} (a b c : Option (List ℕ)) (r : Result (Unit {0}) E) (piece text : List ℕ) → Appends a b piece → WritesLine b c r text → WritesLine a c r (piece ++ text)
wrote_then a b c (Ok u) piece text first then = Appends-trans a b c piece text first then
wrote_then a b c (Err e) piece text first then = after_piece a b c piece text first then

-- a prefix of a piece
pub stops_within : (a b : Option (List ℕ)) (piece text : List ℕ) → AppendsPrefix a b piece → AppendsPrefix a b (piece ++ text)
stops_within a b piece text (front, rest, is, more) = (front, rest ++ text, ap (λ l. l ++ text) is ∙ append_assoc front rest text, more)

pub for_some : {A : Type 0} (o : Option A) (P Q : A → Type 0) → IfSome o P → ((x : A) → P x → Q x) → IfSome o Q
for_some None P Q p h = tt
for_some (Some x) P Q p h = h x p

-- several calls append all that they are given
after_calls : {n : ℕ} (s : InlineText n) (parts : List (List ℕ)) (t : InlineText n) → FoldsTo AppendsIfIntact s parts t → AppendsIfIntact s (concat parts) t
after_calls s [] t p = subst (AppendsIfIntact s []) p (λ intact. (intact, sym (append-nil (inline_text s))))
after_calls s (x ∷ xs) t p = λ intact.
    let first = p.1 intact in
    let rest = after_calls p.0 xs t p.2 first.0 in
    (rest.0, rest.1 ∙ (ap (λ l. l ++ concat xs) first.1 ∙ append_assoc (inline_text s) x (concat xs)))

pub appended_in_calls : {n : ℕ} (s : InlineText n) (bs : List ℕ) (t : InlineText n) → WritesInCalls AppendsIfIntact s bs t → AppendsIfIntact s bs t
appended_in_calls s bs t wrote = subst (λ l. AppendsIfIntact s l t) wrote.whole (after_calls s wrote.parts t wrote.calls)

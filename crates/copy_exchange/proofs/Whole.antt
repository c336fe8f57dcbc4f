-- A prefix with a mark of each window is the list of all items pushed.
use Rattle.std.proofs.Common.{[], ◌≡◌, ℕ, zero, suc, ◌+◌, Bool, true, false, ◌&&◌, List, ◌∷◌, ◌++◌, map, refl, sym, ap, ◌∙◌, arith, append_assoc, append-nil}
use Rattle.std.proofs.lemmas.Bool.{and_parts, false≢true}
use Rattle.copy_exchange.specs.Laws.{AllIsTaken}
use Rattle.copy_exchange.specs.Pushes.{marks_in, pushes}
use Rattle.copy_inbox.specs.declared.items.Carried.{Carried}
use Rattle.copy_inbox.specs.declared.items.Carried.TheVariants.{Packet, Mark}
use Rattle.radio_packet.specs.declared.copy.RadioCopy.{RadioCopy}

pub marks_append : (xs ys : List Carried) → marks_in (xs ++ ys) ≡ marks_in xs + marks_in ys
marks_append [] ys = omega arith
marks_append (Packet c ∷ xs) ys = marks_append xs ys
marks_append (Mark n ∷ xs) ys = let ih = marks_append xs ys in omega arith

marks_copies : (cs : List RadioCopy) → marks_in (map Packet cs) ≡ 0
marks_copies [] = refl
marks_copies (c ∷ cs) = marks_copies cs

pub marks_pushes : (k : ℕ) (sent : ℕ → List RadioCopy) → marks_in (pushes k sent) ≡ k
marks_pushes zero sent = refl
marks_pushes (suc k) sent =
    let ih = marks_pushes k sent in
    let a = marks_append (pushes k sent) (map Packet (sent k) ++ Mark k ∷ []) in
    let b = marks_append (map Packet (sent k)) (Mark k ∷ []) in
    let c = marks_copies (sent k) in
    omega arith

-- there is a mark after each copy: the list is empty or ends in a mark
abbrev is_some : List Carried → Bool
is_some [] = false
is_some (x ∷ xs) = true

abbrev pub closed : List Carried → Bool
closed [] = true
closed (Packet c ∷ xs) = is_some xs && closed xs
closed (Mark n ∷ xs) = closed xs

pub closed_after : (c : RadioCopy) (xs : List Carried) → closed (Packet c ∷ xs) ≡ true → closed xs ≡ true
closed_after c xs h = (and_parts (is_some xs) (closed xs) h).1

closed_rest : (xs ys : List Carried) → closed (xs ++ ys) ≡ true → closed ys ≡ true
closed_rest [] ys h = h
closed_rest (Packet c ∷ xs) ys h = closed_rest xs ys (and_parts (is_some (xs ++ ys)) (closed (xs ++ ys)) h).1
closed_rest (Mark n ∷ xs) ys h = closed_rest xs ys h

some_last : (xs : List Carried) (x : Carried) → is_some (xs ++ x ∷ []) ≡ true
some_last [] x = refl
some_last (y ∷ xs) x = refl

closed_mark : (xs : List Carried) (n : ℕ) → closed (xs ++ Mark n ∷ []) ≡ true
closed_mark [] n = refl
closed_mark (Packet c ∷ xs) n = rw (some_last xs (Mark n)) (closed_mark xs n)
closed_mark (Mark m ∷ xs) n = closed_mark xs n

pub closed_pushes : (k : ℕ) (sent : ℕ → List RadioCopy) → closed (pushes k sent) ≡ true
closed_pushes zero sent = refl
closed_pushes (suc k) sent = rw (sym (append_assoc (pushes k sent) (map Packet (sent k)) (Mark k ∷ []))) (closed_mark (pushes k sent ++ map Packet (sent k)) k)

pub none_closed : (xs : List Carried) → marks_in xs ≡ 0 → closed xs ≡ true → xs ≡ []
none_closed [] m h = refl
none_closed (Packet c ∷ xs) m h =
    let b = and_parts (is_some xs) (closed xs) h in
    let e = none_closed xs m b.1 in
    absurd (false≢true (sym (ap is_some e) ∙ b.0))
none_closed (Mark n ∷ xs) m h = absurd (omega arith)

pub all_is_taken : AllIsTaken
all_is_taken windows sent taken begins lead =
    let rest = begins.0 in
    let m = marks_pushes windows sent in
    let a = marks_append taken rest in
    let f = ap marks_in begins.1 in
    let c : closed rest ≡ true = closed_rest taken rest (sym (ap closed begins.1) ∙ closed_pushes windows sent) in
    let none : rest ≡ [] = none_closed rest (omega arith) c in
    sym (begins.1 ∙ (ap (λ l. taken ++ l) none ∙ append-nil taken))

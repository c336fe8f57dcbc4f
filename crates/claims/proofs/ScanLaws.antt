-- Events of a mote, compared with a line one after another.
use Rattle.std.proofs.Common.{◌≡◌, ◌∙◌, refl, ap, ℕ, suc, ◌<◌, Bool, true, false, ◌&&◌, ◌||◌, List, [], ◌∷◌, length, get_or, Option, Some, None, ⊎_elim, arith, if◌then◌else◌}
use Rattle.std.specs.List.{list_any}
use Rattle.std.proofs.lemmas.Bool.{or_cases, and_parts}
use Rattle.trace_lines.specs.declared.line.Line.{Line}
use Rattle.claims.specs.declared.trace.Found.{Found}
use Rattle.claims.specs.declared.trace.Watched.{Watched}
use Rattle.claims.specs.declared.order.Order.{Order}
use Rattle.claims.specs.declared.order.Relation.{Relation}
use Rattle.claims.specs.Orders.{is_related}
use Rattle.claims.specs.Traces.{found_at, shows}
use Rattle.claims.specs.Seen.{is_followed, some_is, each_is, lasts, known_with}
use Rattle.claims.proofs.AnyLaws.{or_left, or_right}
use Rattle.claims.proofs.SeenLaws.{lasting, lasts_or}

some_of_none : (v : Bool) (q : Found → Bool) (e : Found) → some_is q (if v then Some e else None) ≡ true → q e ≡ true
some_of_none true q e h = h
some_of_none false q e h = cc

some_of_two : (v w : Bool) (q : Found → Bool) (e k : Found) → some_is q (if v then Some (if w then e else k) else Some k) ≡ true → (q k || q e) ≡ true
some_of_two true true q e k h = or_right (q k) (q e) h
some_of_two true false q e k h = or_left (q k) (q e) h
some_of_two false w q e k h = or_left (q k) (q e) h

known_event : (r : Relation) (l e : Found) (k : Option Found) (q : Found → Bool) → some_is q (known_with r l e k) ≡ true → (some_is q k || q e) ≡ true
known_event r l e None q h = some_of_none (is_related r l e) q e h
known_event r l e (Some k) q h = some_of_two (is_related r l e) (lasts l.mote k e) q e k h

each_of_none : (v : Bool) (q : Found → Bool) (e : Found) → q e ≡ v → each_is q (if v then Some e else None) ≡ true
each_of_none true q e h = h
each_of_none false q e h = refl

each_of_two : (v w : Bool) (q : Found → Bool) (e k : Found) → q e ≡ v → q k ≡ true → each_is q (if v then Some (if w then e else k) else Some k) ≡ true
each_of_two true true q e k h p = h
each_of_two true false q e k h p = p
each_of_two false w q e k h p = p

known_related : (r : Relation) (l e : Found) (k : Option Found) → each_is (is_related r l) k ≡ true → each_is (is_related r l) (known_with r l e k) ≡ true
known_related r l e None h = each_of_none (is_related r l e) (is_related r l) e refl
known_related r l e (Some k) h = each_of_two (is_related r l e) (lasts l.mote k e) (is_related r l) e k refl h

kept_of_two : (v w : Bool) (r : Relation) (l b e k : Found) → is_related r l e ≡ v → lasts l.mote k e ≡ w → is_followed l b ≡ true → is_related r b k ≡ true → some_is (is_related r b) (if v then Some (if w then e else k) else Some k) ≡ true
kept_of_two true true r l b e k i j f p = lasting r l b k e f i j p
kept_of_two true false r l b e k i j f p = p
kept_of_two false w r l b e k i j f p = p

known_kept : (r : Relation) (l b e : Found) (k : Option Found) → is_followed l b ≡ true → some_is (is_related r b) k ≡ true → some_is (is_related r b) (known_with r l e k) ≡ true
known_kept r l b e None f p = cc
known_kept r l b e (Some k) f p = kept_of_two (is_related r l e) (lasts l.mote k e) r l b e k refl refl f p

new_of_none : (v : Bool) (q : Found → Bool) (e : Found) → v ≡ true → q e ≡ true → some_is q (if v then Some e else None) ≡ true
new_of_none true q e i h = h
new_of_none false q e i h = cc

new_of_two : (v w : Bool) (r : Relation) (l b e k : Found) → lasts l.mote k e ≡ w → v ≡ true → is_followed l b ≡ true → is_related r l k ≡ true → is_related r b e ≡ true → some_is (is_related r b) (if v then Some (if w then e else k) else Some k) ≡ true
new_of_two true true r l b e k j i f g p = p
new_of_two true false r l b e k j i f g p = lasts_or r l b k e f g j p
new_of_two false w r l b e k j i f g p = cc

known_new : (r : Relation) (l b e : Found) (k : Option Found) → is_followed l b ≡ true → each_is (is_related r l) k ≡ true → (is_related r l e && is_related r b e) ≡ true → some_is (is_related r b) (known_with r l e k) ≡ true
known_new r l b e None f g h = let both = and_parts (is_related r l e) (is_related r b e) h in new_of_none (is_related r l e) (is_related r b) e both.0 both.1
known_new r l b e (Some k) f g h = let both = and_parts (is_related r l e) (is_related r b e) h in new_of_two (is_related r l e) (lasts l.mote k e) r l b e k refl both.0 f g both.1

-- the event that is known once a line of a trace has been compared, if it is one of the event
abbrev pub step : Bool → Relation → Found → Found → Option Found → Option Found
step s r l e k = if s then known_with r l e k else k

-- the event that is known once these lines of a trace have been compared
abbrev pub scan : Order → Found → Watched → List (ℕ × Line) → Option Found → Option Found
scan o l w [] k = k
scan o l w (x ∷ xs) k = scan o l w xs (step (shows o.event w x.1) o.relation l (found_at w.mote x) k)

step_event : (s : Bool) (r : Relation) (l e : Found) (k : Option Found) (q : Found → Bool) → some_is q (step s r l e k) ≡ true → (some_is q k || (s && q e)) ≡ true
step_event true r l e k q h = known_event r l e k q h
step_event false r l e k q h = or_left (some_is q k) false h

step_related : (s : Bool) (r : Relation) (l e : Found) (k : Option Found) → each_is (is_related r l) k ≡ true → each_is (is_related r l) (step s r l e k) ≡ true
step_related true r l e k h = known_related r l e k h
step_related false r l e k h = h

step_kept : (s : Bool) (r : Relation) (l b e : Found) (k : Option Found) → is_followed l b ≡ true → some_is (is_related r b) k ≡ true → some_is (is_related r b) (step s r l e k) ≡ true
step_kept true r l b e k f h = known_kept r l b e k f h
step_kept false r l b e k f h = h

step_new : (s : Bool) (r : Relation) (l b e : Found) (k : Option Found) → is_followed l b ≡ true → each_is (is_related r l) k ≡ true → (s && (is_related r l e && is_related r b e)) ≡ true → some_is (is_related r b) (step s r l e k) ≡ true
step_new true r l b e k f g h = known_new r l b e k f g h
step_new false r l b e k f g h = cc

or_moved : (a b c : Bool) → (a || b) ≡ true → (a || (b || c)) ≡ true
or_moved true b c h = refl
or_moved false b c h = or_left b c h

pub scan_event : (o : Order) (l : Found) (w : Watched) (xs : List (ℕ × Line)) (k : Option Found) (q : Found → Bool) → some_is q (scan o l w xs k) ≡ true → (some_is q k || list_any (λ x. shows o.event w x.1 && q (found_at w.mote x)) xs) ≡ true
scan_event o l w [] k q h = or_left (some_is q k) false h
scan_event o l w (x ∷ xs) k q h =
    let s = shows o.event w x.1 in
    let e = found_at w.mote x in
    let rest = list_any (λ y. shows o.event w y.1 && q (found_at w.mote y)) xs in
    ⊎_elim
    (λ a. or_moved (some_is q k) (s && q e) rest (step_event s o.relation l e k q a))
    (λ a. or_right (some_is q k) ((s && q e) || rest) (or_right (s && q e) rest a))
    (or_cases (some_is q (step s o.relation l e k)) rest (scan_event o l w xs (step s o.relation l e k) q h))

pub scan_related : (o : Order) (l : Found) (w : Watched) (xs : List (ℕ × Line)) (k : Option Found) → each_is (is_related o.relation l) k ≡ true → each_is (is_related o.relation l) (scan o l w xs k) ≡ true
scan_related o l w [] k h = h
scan_related o l w (x ∷ xs) k h = scan_related o l w xs (step (shows o.event w x.1) o.relation l (found_at w.mote x) k) (step_related (shows o.event w x.1) o.relation l (found_at w.mote x) k h)

pub scan_kept : (o : Order) (l b : Found) (w : Watched) (xs : List (ℕ × Line)) (k : Option Found) → is_followed l b ≡ true → some_is (is_related o.relation b) k ≡ true → some_is (is_related o.relation b) (scan o l w xs k) ≡ true
scan_kept o l b w [] k f h = h
scan_kept o l b w (x ∷ xs) k f h = scan_kept o l b w xs (step (shows o.event w x.1) o.relation l (found_at w.mote x) k) f (step_kept (shows o.event w x.1) o.relation l b (found_at w.mote x) k f h)

pub scan_all : (o : Order) (l b : Found) (w : Watched) (xs : List (ℕ × Line)) (k : Option Found) → is_followed l b ≡ true → each_is (is_related o.relation l) k ≡ true
    → list_any (λ x. shows o.event w x.1 && (is_related o.relation l (found_at w.mote x) && is_related o.relation b (found_at w.mote x))) xs ≡ true
    → some_is (is_related o.relation b) (scan o l w xs k) ≡ true
scan_all o l b w [] k f g h = cc
scan_all o l b w (x ∷ xs) k f g h =
    let s = shows o.event w x.1 in
    let e = found_at w.mote x in
    let next = step s o.relation l e k in
    ⊎_elim
    (λ a. scan_kept o l b w xs next f (step_new s o.relation l b e k f g a))
    (λ a. scan_all o l b w xs next f (step_related s o.relation l e k g) a)
    (or_cases (s && (is_related o.relation l e && is_related o.relation b e)) (list_any (λ y. shows o.event w y.1 && (is_related o.relation l (found_at w.mote y) && is_related o.relation b (found_at w.mote y))) xs) h)

far_of_two : (v w : Bool) (e k : Found) → v ≡ false → (if v then Some (if w then e else k) else Some k) ≡ Some k
far_of_two true w e k h = cc
far_of_two false w e k h = refl

far_of_none : (v : Bool) (e : Found) → v ≡ false → (if v then Some e else None) ≡ None
far_of_none true e h = cc
far_of_none false e h = refl

known_far : (r : Relation) (l e : Found) (k : Option Found) → is_related r l e ≡ false → known_with r l e k ≡ k
known_far r l e None h = far_of_none (is_related r l e) e h
known_far r l e (Some k) h = far_of_two (is_related r l e) (lasts l.mote k e) e k h

step_far : (s : Bool) (r : Relation) (l e : Found) (k : Option Found) → is_related r l e ≡ false → step s r l e k ≡ k
step_far true r l e k h = known_far r l e k h
step_far false r l e k h = refl

-- lines to which the line doesn't have the relation change nothing
pub scan_far : (o : Order) (l : Found) (w : Watched) (xs : List (ℕ × Line)) (k : Option Found) → ((i : ℕ) (d : ℕ × Line) → i < length xs → is_related o.relation l (found_at w.mote (get_or xs i d)) ≡ false) → scan o l w xs k ≡ k
scan_far o l w [] k h = refl
scan_far o l w (x ∷ xs) k h =
    ap (scan o l w xs) (step_far (shows o.event w x.1) o.relation l (found_at w.mote x) k (h 0 x (omega arith)))
    ∙ scan_far o l w xs k (λ i d g. h (suc i) d (omega arith))

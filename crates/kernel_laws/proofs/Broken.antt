-- Traces that don't have the property `HandedOn`.
use Rattle.std.proofs.Common.{ℕ, zero, suc, ◌≡◌, ◌<◌, ◌≤◌, ◌==◌, ◌&&◌, ◌⊎◌, not, inl, inr, Bool, true, false, List, [], ◌∷◌, ◌++◌, length, take, drop, refl, sym, ap, ◌∙◌, subst, arith, map}
use Rattle.std.specs.List.{All, AllZip, Contains, list_any}
use Rattle.std.proofs.lemmas.List.Elements.{All-head, All-tail, Contains-append_cases}
use Rattle.std.proofs.lemmas.List.{length-append}
use Rattle.std.proofs.Math.Seq.{take-append_seam, drop-append_seam}
use Rattle.std.proofs.lemmas.Bool.Decides.{nat_tests}
use Rattle.kernel_laws.specs.HandedOn.{Target, ToOne, ToAll, Line, Start, Leave, Post, Take, Halt, Other, Incarnation, Handing, has_incarnation, process_list, posted_serials, handings, handings_behind, of_serial, IsHandingFor, IsGivenToAll, EndsInHalt, HandedOn}
use Rattle.kernel_laws.proofs.Lines.{alone}
use Rattle.kernel_laws.specs.DeliveryTraces as traces
use Rattle.kernel_laws.specs.DeliveryTraces.{TracesThatDoNotDeliver}

abbrev has : ℕ → List ℕ → Bool
has s xs = list_any (λ x. x == s) xs

posts_skip : HandedOn traces.posts_skip_a_serial → ⊥
posts_skip h = let e : ◌≡◌ {A = List ℕ} (1 ∷ []) (0 ∷ []) = h.posts_count_up in absurd (cc)

posts_share : HandedOn traces.posts_share_a_serial → ⊥
posts_share h = let e : ◌≡◌ {A = List ℕ} (0 ∷ 0 ∷ []) (0 ∷ 1 ∷ []) = h.posts_count_up in absurd (cc)

goes_back : HandedOn traces.goes_back → ⊥
goes_back h = let e : 1 ≤ 0 = h.never_back 0 1 (record { serial = 0; process = 0; taken = true; before = [] }) (omega arith) (omega arith) in omega arith

-- the serial of a `post` line is one of the trace's serials

at_head : (x y : Line) (t : List Line) → Contains (x ∷ t) y → (x ≡ y) ⊎ Contains t y
at_head x y t c = elim (Contains-append_cases (x ∷ []) t y c) [ inl d ↦ inl (alone x y d) | inr d ↦ inr d ]

has_posted : (t : List Line) (s : ℕ) (g : Target) → Contains t (Post s g) → has s (posted_serials t) ≡ true
has_posted [] s g c = absurd (omega (arith, c.1))
has_posted (Post r f ∷ t) s g c = elim (at_head (Post r f) (Post s g) t c) [ inl e ↦ (let q : r ≡ s = cc in grind (arith, nat_tests)) | inr d ↦ (let q = has_posted t s g d in grind (arith, nat_tests)) ]
has_posted (x ∷ t) s g c = elim (at_head x (Post s g) t c) [ inl e ↦ absurd (cc) | inr d ↦ has_posted t s g d ]

not_yet : HandedOn traces.not_yet_posted → ⊥
not_yet h =
    let c : (g : Target) × Contains (Start 5 ∷ []) (Post 0 g) = h.after_posts 0 (record { serial = 0; process = 0; taken = true; before = [] }) (omega arith) in
    let e : false ≡ true = has_posted (Start 5 ∷ []) 0 c.0 c.1 in
    absurd (cc)

none_but_one : Contains {X = ℕ} (1 ∷ []) 0 → ⊥
none_but_one (zero, b, e) = omega (arith, e)
none_but_one (suc k, b, e) = omega arith

left_out : HandedOn traces.leaves_one_out → ⊥
left_out h =
    let b : 1 < h.handed = h.none_above 0 (record { serial = 0; process = 0; taken = true; before = [] }) (omega arith) in
    none_but_one (h.none_missing 0 (omega arith))

nobody : HandedOn traces.reaches_nobody → ⊥
nobody h =
    let b : 1 < h.handed = h.none_above 0 (record { serial = 0; process = 0; taken = true; before = [] }) (omega arith) in
    none_but_one (h.none_missing 0 (omega arith))

-- events that were posted to one process

unequal : (a b : ℕ) → (a == b) ≡ false → a ≡ b → ⊥
unequal a b e f = grind (arith, nat_tests)

some : Handing
some = record { serial = 0; process = 0; taken = true; before = [] }

after_leaving : HandedOn traces.taken_after_leaving → ⊥
after_leaving h =
    let b : 0 < h.handed = h.none_above 0 some (omega arith) in
    let g = h.to_one 0 5 b (1, omega arith, refl) in
    let e : record { serial = 0; process = 5; taken = true; before = Start 5 ∷ Post 0 (ToOne 5) ∷ Leave 5 ∷ [] } ∷ [] ≡ g.line ∷ [] = g.alone in
    let f : record { serial = 0; process = 5; taken = true; before = Start 5 ∷ Post 0 (ToOne 5) ∷ Leave 5 ∷ [] } ≡ g.line = cc in
    let q : true ≡ false = subst (λ (x : Handing). x.taken ≡ has_incarnation (process_list x.before) 5) (sym f) g.taken in
    absurd (cc)

though_listed : HandedOn traces.dropped_though_listed → ⊥
though_listed h =
    let b : 0 < h.handed = h.none_above 0 some (omega arith) in
    let g = h.to_one 0 5 b (1, omega arith, refl) in
    let e : record { serial = 0; process = 5; taken = false; before = Start 5 ∷ Post 0 (ToOne 5) ∷ [] } ∷ [] ≡ g.line ∷ [] = g.alone in
    let f : record { serial = 0; process = 5; taken = false; before = Start 5 ∷ Post 0 (ToOne 5) ∷ [] } ≡ g.line = cc in
    let q : false ≡ true = subst (λ (x : Handing). x.taken ≡ has_incarnation (process_list x.before) 5) (sym f) g.taken in
    absurd (cc)

twice : HandedOn traces.taken_twice → ⊥
twice h =
    let b : 0 < h.handed = h.none_above 0 some (omega arith) in
    let g = h.to_one 0 5 b (1, omega arith, refl) in
    unequal 2 1 refl (ap length g.alone)

by_another : HandedOn traces.taken_by_another → ⊥
by_another h =
    let b : 0 < h.handed = h.none_above 0 some (omega arith) in
    let g = h.to_one 0 5 b (2, omega arith, refl) in
    let e : record { serial = 0; process = 6; taken = true; before = Start 5 ∷ Start 6 ∷ Post 0 (ToOne 5) ∷ [] } ∷ [] ≡ g.line ∷ [] = g.alone in
    let f : record { serial = 0; process = 6; taken = true; before = Start 5 ∷ Start 6 ∷ Post 0 (ToOne 5) ∷ [] } ≡ g.line = cc in
    unequal 6 5 refl (subst (λ (x : Handing). x.process ≡ 5) (sym f) g.process)

-- Events that were posted to all processes. The place of such an event may be anywhere in the trace, and a test rules
-- out most places.

abbrev is_place : ℕ → List Line → ℕ → Bool
is_place s t k = has s (posted_serials (take k t)) && not (has s (map (λ h. h.serial) (handings (take k t))))

none_has : (s : ℕ) (hs : List Handing) → All (λ h. h.serial ≡ s → ⊥) hs → has s (map (λ h. h.serial) hs) ≡ false
none_has s [] a = refl
none_has s (h ∷ hs) a =
    let c : h.serial ≡ s → ⊥ = All-head (λ x. x.serial ≡ s → ⊥) h hs a in
    let d = none_has s hs (All-tail (λ x. x.serial ≡ s → ⊥) h hs a) in
    grind (arith, nat_tests, c)

record IsAt (t : List Line) (s : ℕ) (lacking : List Incarnation) (k : ℕ) : Type 0 where
  within : k ≤ length t
  passes : is_place s t k ≡ true
  reached : List Incarnation
  whole : process_list (take k t) ≡ reached ++ lacking
  in_turn : AllZip IsHandingFor reached (of_serial s (handings_behind (take k t) (drop k t)))

at_place : (t : List Line) (s : ℕ) (lacking : List Incarnation) → IsGivenToAll t s lacking → (k : ℕ) × IsAt t s lacking k
at_place t s lacking g =
    let b : take (length g.before) t ≡ g.before = ap (take (length g.before)) g.place ∙ take-append_seam g.before g.behind in
    let c : drop (length g.before) t ≡ g.behind = ap (drop (length g.before)) g.place ∙ drop-append_seam g.before g.behind in (
      length g.before,
      record {
        within = omega (arith, ap length g.place, length-append g.before g.behind);
        passes = rw (b, has_posted g.before s ToAll g.after_post, none_has s (handings g.before) g.not_after_own) refl;
        reached = g.reached;
        whole = rw b g.whole;
        in_turn = rw (b, c) g.in_turn;
      },
    )

-- the place of the event with serial 0 that was posted to all
placed : (t : List Line) (h : HandedOn t) → 0 < h.handed → Contains t (Post 0 ToAll)
    → (lacking : List Incarnation) × (k : ℕ) × IsAt t 0 lacking k × ((lacking ≡ []) ⊎ ((1 ≡ h.handed) × EndsInHalt t))
placed t h b c = let g = h.to_all 0 b c in let p = at_place t 0 g.0 g.1 in (g.0, p.0, p.1, g.2)

-- two lines are too many if only one incarnation is listed
two_for_one : (a : Incarnation) (lacking is : List Incarnation) (h i : Handing) → AllZip IsHandingFor is (h ∷ i ∷ []) → a ∷ [] ≡ is ++ lacking → ⊥
two_for_one a lacking [] h i z w = z
two_for_one a lacking (x ∷ []) h i z w = z.1
two_for_one a lacking (x ∷ y ∷ is) h i z w = absurd (cc)

-- the first line is for the first listed incarnation
first_is : (a : Incarnation) (list lacking is : List Incarnation) (h : Handing) (hs : List Handing) → AllZip IsHandingFor is (h ∷ hs) → a ∷ list ≡ is ++ lacking → IsHandingFor a h
first_is a list lacking [] h hs z w = absurd z
first_is a list lacking (x ∷ is) h hs z w = let e : x ≡ a = cc in subst (λ y. IsHandingFor y h) e z.0

second_is : (a b : Incarnation) (list lacking is : List Incarnation) (h i : Handing) (hs : List Handing) → AllZip IsHandingFor is (h ∷ i ∷ hs) → a ∷ b ∷ list ≡ is ++ lacking → IsHandingFor b i
second_is a b list lacking [] h i hs z w = absurd z
second_is a b list lacking (x ∷ []) h i hs z w = absurd z.1
second_is a b list lacking (x ∷ y ∷ is) h i hs z w = let e : y ≡ b = cc in subst (λ k. IsHandingFor k i) e z.1.0

-- if there is only one line, one of two incarnations lacks its line
one_for_two : (a b : Incarnation) (lacking is : List Incarnation) (h : Handing) → AllZip IsHandingFor is (h ∷ []) → a ∷ b ∷ [] ≡ is ++ lacking → lacking ≡ [] → ⊥
one_for_two a b lacking [] h z w e = z
one_for_two a b lacking (x ∷ []) h z w e = let f : a ∷ b ∷ [] ≡ x ∷ [] = w ∙ ap (λ l. x ∷ l) e in absurd (cc)
one_for_two a b lacking (x ∷ y ∷ is) h z w e = z.1

last_or : Line → List Line → Line
last_or x [] = x
last_or x (y ∷ ys) = last_or y ys

last_of : List Line → Line
last_of [] = Other
last_of (x ∷ xs) = last_or x xs

last_or_halt : (x : Line) (t : List Line) → last_or x (t ++ Halt ∷ []) ≡ Halt
unfolding last_or
last_or_halt x [] = refl
last_or_halt x (y ∷ t) = last_or_halt y t

last_is_halt : (t : List Line) → EndsInHalt t → last_of t ≡ Halt
unfolding last_of last_or
last_is_halt t (before, e) = ap last_of e ∙ ends before
  where
    ends : (b : List Line) → last_of (b ++ Halt ∷ []) ≡ Halt
    ends [] = refl
    ends (y ∷ b) = last_or_halt y b

late_at : (lacking : List Incarnation) (k : ℕ) → IsAt traces.reaches_a_late_starter 0 lacking k → ⊥
late_at lacking (suc (suc zero)) a = two_for_one _ lacking a.reached _ _ a.in_turn a.whole
late_at lacking x a = let e : false ≡ true = a.passes in absurd (cc)

late : HandedOn traces.reaches_a_late_starter → ⊥
late h =
    let p = placed _ h (h.none_above 0 some (omega arith)) (1, omega arith, refl) in
    late_at p.0 p.1 p.2

oldest_at : (lacking : List Incarnation) (k : ℕ) → IsAt traces.oldest_first 0 lacking k → ⊥
oldest_at lacking (suc (suc (suc zero))) a = unequal 5 6 refl (first_is _ _ lacking a.reached _ _ a.in_turn a.whole).process
oldest_at lacking x a = let e : false ≡ true = a.passes in absurd (cc)

oldest : HandedOn traces.oldest_first → ⊥
oldest h =
    let p = placed _ h (h.none_above 0 some (omega arith)) (2, omega arith, refl) in
    oldest_at p.0 p.1 p.2

incarnation_at : (lacking : List Incarnation) (k : ℕ) → IsAt traces.taken_by_another_incarnation 0 lacking k → ⊥
incarnation_at lacking (suc (suc (suc zero))) a = let e : true ≡ false = (second_is _ _ _ lacking a.reached _ _ _ a.in_turn a.whole).taken in absurd (cc)
incarnation_at lacking x a = let e : false ≡ true = a.passes in absurd (cc)

incarnation : HandedOn traces.taken_by_another_incarnation → ⊥
incarnation h =
    let p = placed _ h (h.none_above 0 some (omega arith)) (2, omega arith, refl) in
    incarnation_at p.0 p.1 p.2

lacks_at : (lacking : List Incarnation) (k : ℕ) → IsAt traces.lacks_a_line 0 lacking k → lacking ≡ [] → ⊥
lacks_at lacking (suc (suc (suc zero))) a f = one_for_two _ _ lacking a.reached _ a.in_turn a.whole f
lacks_at lacking x a f = let e : false ≡ true = a.passes in absurd (cc)

no_halt : EndsInHalt traces.lacks_a_line → ⊥
unfolding last_of last_or
no_halt e = let f : Take 0 6 ≡ Halt = last_is_halt traces.lacks_a_line e in absurd (cc)

lacks : HandedOn traces.lacks_a_line → ⊥
lacks h =
    let p = placed _ h (h.none_above 0 some (omega arith)) (2, omega arith, refl) in
    elim p.3 [ inl e ↦ lacks_at p.0 p.1 p.2 e | inr e ↦ no_halt e.1 ]

lacks_first_at : (lacking : List Incarnation) (k : ℕ) → IsAt traces.lacks_the_first_line 0 lacking k → ⊥
lacks_first_at lacking (suc (suc (suc zero))) a = unequal 5 6 refl (first_is _ _ lacking a.reached _ _ a.in_turn a.whole).process
lacks_first_at lacking x a = let e : false ≡ true = a.passes in absurd (cc)

lacks_first : HandedOn traces.lacks_the_first_line → ⊥
lacks_first h =
    let p = placed _ h (h.none_above 0 some (omega arith)) (2, omega arith, refl) in
    lacks_first_at p.0 p.1 p.2

lacks_earlier_at : (lacking : List Incarnation) (k : ℕ) → IsAt traces.lacks_an_earlier_line 0 lacking k → lacking ≡ [] → ⊥
lacks_earlier_at lacking (suc (suc (suc zero))) a f = one_for_two _ _ lacking a.reached _ a.in_turn a.whole f
lacks_earlier_at lacking (suc (suc (suc (suc zero)))) a f = one_for_two _ _ lacking a.reached _ a.in_turn a.whole f
lacks_earlier_at lacking x a f = let e : false ≡ true = a.passes in absurd (cc)

lacks_earlier : HandedOn traces.lacks_an_earlier_line → ⊥
lacks_earlier h =
    let c : 1 < h.handed = h.none_above 1 some (omega arith) in
    let p = placed _ h (h.none_above 0 some (omega arith)) (2, omega arith, refl) in
    elim p.3 [ inl e ↦ lacks_earlier_at p.0 p.1 p.2 e | inr e ↦ (let f = e.0 in omega (arith, f)) ]

pub broken : TracesThatDoNotDeliver
broken = record {
  posts_skip_a_serial = posts_skip;
  posts_share_a_serial = posts_share;
  goes_back = goes_back;
  not_yet_posted = not_yet;
  leaves_one_out = left_out;
  reaches_nobody = nobody;
  taken_after_leaving = after_leaving;
  dropped_though_listed = though_listed;
  taken_twice = twice;
  taken_by_another = by_another;
  reaches_a_late_starter = late;
  oldest_first = oldest;
  taken_by_another_incarnation = incarnation;
  lacks_a_line = lacks;
  lacks_the_first_line = lacks_first;
  lacks_an_earlier_line = lacks_earlier;
}

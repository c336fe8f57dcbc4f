-- The lines of a trace, compared with a line from one of them on.
use Rattle.std.proofs.Common.{◌≡◌, ◌∙◌, refl, sym, ap, subst, zero-add, ℕ, zero, suc, ◌+◌, ◌<◌, ◌≤◌, Bool, true, false, ◌&&◌, ◌||◌, List, [], ◌∷◌, length, get_or, drop, Option, ⊎_elim, arith}
use Rattle.std.specs.Prelude.{nat_le}
use Rattle.std.specs.List.{list_any, enumerate_from}
use Rattle.std.proofs.lemmas.Bool.{or_cases, and_parts, leb-true}
use Rattle.std.proofs.lemmas.List.{get_or-drop, length-drop, drop_more}
use Rattle.std.proofs.lemmas.List.FromFn.{length-enumerate_from, get_or-enumerate_from}
use Rattle.mote_net.specs.Report.{ReportModel}
use Rattle.trace_lines.specs.declared.line.Line.{Line}
use Rattle.claims.specs.declared.trace.Found.{Found}
use Rattle.claims.specs.declared.trace.Watched.{Watched}
use Rattle.claims.specs.declared.order.Order.{Order}
use Rattle.claims.specs.Orders.{is_related}
use Rattle.claims.specs.Traces.{found_at, trace_at, shows}
use Rattle.claims.specs.PerMote.{any_in}
use Rattle.claims.specs.Seen.{Extends, some_is, is_shared_from, reach, rises_from}
use Rattle.claims.proofs.AnyLaws.{or_left, or_weaker, any_weaker, any_in_drop}
use Rattle.claims.proofs.SeenLaws.{unrelated_far}
use Rattle.claims.proofs.ScanLaws.{scan, step, scan_event, scan_related, scan_kept, scan_all, scan_far}

rises_above : (n : ℕ) (ls : List Line) → rises_from n ls ≡ true → (j : ℕ) (d : Line) → j < length ls → n ≤ (get_or ls j d).at
rises_above n [] h j d g = absurd (omega arith)
rises_above n (l ∷ ls) h zero d g = leb-true n l.at (and_parts (nat_le n l.at) (rises_from l.at ls) h).0
rises_above n (l ∷ ls) h (suc j) d g =
    let both = and_parts (nat_le n l.at) (rises_from l.at ls) h in
    omega (arith, leb-true n l.at both.0, rises_above l.at ls both.1 j d (omega arith))

pub rises_along : (n : ℕ) (ls : List Line) → rises_from n ls ≡ true → (i j : ℕ) (d : Line) → i ≤ j → j < length ls → (get_or ls i d).at ≤ (get_or ls j d).at
rises_along n [] h i j d p g = absurd (omega arith)
rises_along n (l ∷ ls) h zero zero d p g = omega arith
rises_along n (l ∷ ls) h zero (suc j) d p g = rises_above l.at ls (and_parts (nat_le n l.at) (rises_from l.at ls) h).1 j d (omega arith)
rises_along n (l ∷ ls) h (suc i) zero d p g = absurd (omega arith)
rises_along n (l ∷ ls) h (suc i) (suc j) d p g = rises_along l.at ls (and_parts (nat_le n l.at) (rises_from l.at ls) h).1 i j d (omega arith) (omega arith)

moment_at : (T : List Line) (i : ℕ) (d : ℕ × Line) → i < length T → (get_or (enumerate_from 0 T) i d).1.at ≡ (get_or T i d.1).at
moment_at T i d g = ap (λ x. x.1.at) (get_or-enumerate_from 0 T i d g)

-- one line
pub scan_step : (o : Order) (l : Found) (w : Watched) (T : List Line) (i : ℕ) (d : Line) (k : Option Found) → i < length T → scan o l w (drop i (enumerate_from 0 T)) k ≡ scan o l w (drop (i + 1) (enumerate_from 0 T)) (step (shows o.event w (get_or T i d)) o.relation l (record { mote = w.mote; place = i; line = get_or T i d }) k)
scan_step o l w T i d k g =
    let E = enumerate_from 0 T in
    let at : ℕ → ℕ × Line = λ n. (n, get_or T i d) in
    ap (λ (xs : List (ℕ × Line)). scan o l w xs k)
    (drop_more E i (0, d) (omega (arith, length-enumerate_from 0 T)) ∙ ap (λ (x : ℕ × Line). x ∷ drop (i + 1) E) (get_or-enumerate_from 0 T i (0, d) g ∙ ap at (zero-add i)))

-- from a line beyond the reach on, a sorted trace changes nothing
pub scan_beyond : (o : Order) (l : Found) (w : Watched) (T : List Line) (i : ℕ) (k : Option Found) → rises_from 0 T ≡ true → ((d : Line) → reach o.relation l < (get_or T i d).at) → scan o l w (drop i (enumerate_from 0 T)) k ≡ k
scan_beyond o l w T i k s h =
    scan_far o l w (drop i (enumerate_from 0 T)) k
    (λ j d g.
    let inside : i + j < length T = omega (arith, length-drop i (enumerate_from 0 T), length-enumerate_from 0 T) in
    unrelated_far o.relation l (found_at w.mote (get_or (drop i (enumerate_from 0 T)) j d))
    (omega (arith, ap (λ x. x.1.at) (get_or-drop i (enumerate_from 0 T) j d), moment_at T (i + j) d inside, rises_along 0 T s i (i + j) d.1 (omega arith) inside, h d.1)))

any_late : {A : Type 0} (p q : A → Bool) (c : ℕ) (xs : List A) → ((k : ℕ) (d : A) → k < c → k < length xs → p (get_or xs k d) ≡ true → false ≡ true) → ((x : A) → p x ≡ true → q x ≡ true) → list_any p xs ≡ true → list_any q (drop c xs) ≡ true
any_late p q zero xs e w h = any_weaker p q w xs h
any_late p q (suc c) [] e w h = h
any_late p q (suc c) (x ∷ xs) e w h =
    ⊎_elim
    (λ a. let none : false ≡ true = e 0 x (omega arith) (omega arith) a in cc)
    (λ a. any_late p q c xs (λ k d g j b. e (suc k) d (omega arith) (omega arith) b) w a)
    (or_cases (p x) (list_any p xs) h)

and_inner : (s n a : Bool) → (s && (n && a)) ≡ true → (s && a) ≡ true
and_inner true true a h = h
and_inner true false a h = cc
and_inner false n a h = h

and_middle : (s n a : Bool) → (s && (n && a)) ≡ true → n ≡ true
and_middle true true a h = refl
and_middle true false a h = cc
and_middle false n a h = cc

late : (n m : ℕ) → nat_le n m ≡ true → m < n → false ≡ true
late n m h g = absurd (omega (arith, leb-true n m h))

or_none : (a : Bool) → (a || false) ≡ true → a ≡ true
or_none true h = refl
or_none false h = h

extends_here : (o : Order) (r : ReportModel) (l : Found) (n : ℕ) (w : Watched) (c : ℕ) (i k : Option Found) → ((j : ℕ) (d : Line) → j < c → (get_or (trace_at r w.mote) j d).at < n) → k ≡ scan o l w (drop c (enumerate_from 0 (trace_at r w.mote))) i → Extends o r l n (w ∷ []) i k
extends_here o r l n w c i k early e =
    let E = enumerate_from 0 (trace_at r w.mote) in
    subst (λ (v : Option Found). Extends o r l n (w ∷ []) i v) (sym e)
    (record {
      event = λ q h. or_weaker (some_is q i) (list_any (λ x. shows o.event w x.1 && q (found_at w.mote x)) (drop c E)) (any_in q r o.event w || false)
          (λ a. or_left (any_in q r o.event w) false (any_in_drop (λ x. shows o.event w x.1 && q (found_at w.mote x)) c E a))
          (scan_event o l w (drop c E) i q h);
      related = λ h. scan_related o l w (drop c E) i h;
      kept = λ b f g h. scan_kept o l b w (drop c E) i f h;
      all = λ b f g h. scan_all o l b w (drop c E) i f g
          (any_late (λ x. shows o.event w x.1 && is_shared_from n o.relation l b (found_at w.mote x)) (λ x. shows o.event w x.1 && (is_related o.relation l (found_at w.mote x) && is_related o.relation b (found_at w.mote x))) c E
          (λ j d g p a.
          let inside : j < length (trace_at r w.mote) = omega (arith, length-enumerate_from 0 (trace_at r w.mote)) in
          late n (get_or E j d).1.at
          (and_middle (shows o.event w (get_or E j d).1) (nat_le n (get_or E j d).1.at) (is_related o.relation l (found_at w.mote (get_or E j d)) && is_related o.relation b (found_at w.mote (get_or E j d))) a)
          (omega (arith, moment_at (trace_at r w.mote) j d inside, early j d.1 g)))
          (λ x a. and_inner (shows o.event w x.1) (nat_le n x.1.at) (is_related o.relation l (found_at w.mote x) && is_related o.relation b (found_at w.mote x)) a)
          (or_none (any_in (is_shared_from n o.relation l b) r o.event w) h));
    })

-- the lines of a trace from one on, if those before it are before a moment
pub extends_by : (o : Order) (r : ReportModel) (l : Found) (n : ℕ) (w : Watched) (T : List Line) (c : ℕ) (i k : Option Found) → T ≡ trace_at r w.mote → ((j : ℕ) (d : Line) → j < c → (get_or T j d).at < n) → k ≡ scan o l w (drop c (enumerate_from 0 T)) i → Extends o r l n (w ∷ []) i k
extends_by o r l n w T c i k t early e =
    let P : List Line → Type 0 = λ U. ((j : ℕ) (d : Line) → j < c → (get_or U j d).at < n) → k ≡ scan o l w (drop c (enumerate_from 0 U)) i → Extends o r l n (w ∷ []) i k in
    subst P (sym t) (extends_here o r l n w c i k) early e

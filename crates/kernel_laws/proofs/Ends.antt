-- When no walk is in progress, and after a halt, the lines have the property `HandedOn`.
use Rattle.std.proofs.Common.{ℕ, ◌≡◌, ◌+◌, ◌<◌, ◌==◌, ◌⊎◌, inl, inr, Bool, true, false, List, [], ◌∷◌, ◌++◌, length, refl, sym, ap, ◌∙◌, subst, arith, map}
use Rattle.std.proofs.lemmas.List.{map-append}
use Rattle.std.specs.List.{All, AllZip, Contains, range_with_len}
use Rattle.std.proofs.lemmas.List.Elements.{All-append, All-nil, All-cons, All-head, All-tail, Contains-append_right}
use Rattle.std.proofs.lemmas.List.FromFn.{length-range_with_len}
use Rattle.std.proofs.lemmas.Bool.Decides.{nat_tests}
use Rattle.kernel_laws.specs.HandedOn.{Target, ToOne, ToAll, Line, Halt, Incarnation, Handing, process_list, handings, handings_behind, of_serial, IsGivenToOne, IsHandingFor, IsGivenToAll, EndsInHalt, HandedOn}
use Rattle.kernel_laws.specs.Delivery.{DeliveryMachine, initial}
use Rattle.kernel_laws.specs.DeliveryLaws.{DeliveryHandsOn}
use Rattle.kernel_laws.proofs.Lines.{handings_joined}
use Rattle.kernel_laws.proofs.IsInState.{Posts, IsPair, Gone, IsGivenTo, IsGiven, lacking_of, IsInState}
use Rattle.kernel_laws.proofs.Follows.{below_split, lacking_none, lacking_other, lacking_own, nothing_lacks, in_state_aside, halt_is_aside, in_state_runs, in_state_at_first}

abbrev HasLine : List Line → ℕ → Type 0
HasLine t s = Contains (map (λ h. h.serial) (handings t)) s

found_at : (x : Handing) (hs : List Handing) (s : ℕ) → x.serial ≡ s → Contains (map (λ h. h.serial) (x ∷ hs)) s
found_at x hs s e = (0, omega arith, e)

found : (s : ℕ) (hs : List Handing) (h : Handing) (more : List Handing) → of_serial s hs ≡ h ∷ more → Contains (map (λ x. x.serial) hs) s
found s [] h more e = absurd (cc)
found s (x ∷ hs) h more e = elim (split (x.serial == s) refl) [ inl f ↦ found_at x hs s (grind (arith, nat_tests)) | inr f ↦ Contains-append_right (x.serial ∷ []) (map (λ y. y.serial) hs) s (found s hs h more (grind (arith, nat_tests))) ]
  where
    split : (b : Bool) → (x.serial == s) ≡ b → ((x.serial == s) ≡ true) ⊎ ((x.serial == s) ≡ false)
    split true q = inl q
    split false q = inr q

-- events that were given to all their processes have lines

found_in_turn : (t : List Line) (s : ℕ) (lacking : List Incarnation) (g : IsGivenToAll t s lacking) → (is : List Incarnation) (hs : List Handing) → (is ≡ [] → ⊥) → AllZip IsHandingFor is hs → of_serial s (handings_behind g.before g.behind) ≡ hs → HasLine t s
found_in_turn t s lacking g [] hs f z e = absurd (f refl)
found_in_turn t s lacking g (i ∷ is) [] f z e = absurd z
found_in_turn t s lacking g (i ∷ is) (h ∷ hs) f z e =
    let c = found s (handings_behind g.before g.behind) h hs e in
    let q : handings t ≡ handings g.before ++ handings_behind g.before g.behind = ap handings g.place ∙ handings_joined [] g.before g.behind in
    rw (q, map-append) (Contains-append_right (map (λ x. x.serial) (handings g.before)) _ s c)

has_line : (g : Target) (t : List Line) (s : ℕ) → IsGivenTo g t s [] → HasLine t s
has_line (ToOne p) t s h = found s (handings t) h.0.line [] h.0.alone
has_line ToAll t s h = let g = h.0 in found_in_turn t s [] g g.reached _ (λ e. h.1 (g.whole ∙ rw (e) refl)) g.in_turn refl

-- the state at the end: the events with serials below a number have their lines, and none is lacking, except after a
-- halt
pub record Ended (t : List Line) (handed : ℕ) : Type 0 where
  pub lacks : ℕ → List Incarnation
  pub given : (s : ℕ) → s < handed → IsGiven t s (lacks s)
  pub ends : (s : ℕ) → s < handed → (lacks s ≡ []) ⊎ ((s + 1 ≡ handed) × EndsInHalt t)
  pub below : All (λ h. h.serial < handed) (handings t)
  pub lines : (s : ℕ) → s < handed → HasLine t s

to_one_of : (g : Target) (t : List Line) (s p : ℕ) (lacking : List Incarnation) → g ≡ ToOne p → IsGivenTo g t s lacking → IsGivenToOne t s p
to_one_of (ToOne q) t s p lacking e h = let f : q ≡ p = cc in subst (λ x. IsGivenToOne t s x) f h.0
to_one_of ToAll t s p lacking e h = absurd (cc)

to_all_of : (g : Target) (t : List Line) (s : ℕ) (lacking : List Incarnation) → g ≡ ToAll → IsGivenTo g t s lacking → IsGivenToAll t s lacking
to_all_of (ToOne q) t s lacking e h = absurd (cc)
to_all_of ToAll t s lacking e h = h.0

hands_on : (n k handed : ℕ) (t : List Line) → Posts n t → Gone k t → Ended t handed → HandedOn t
hands_on n k handed t p g e = record {
  posts_count_up = p.counted ∙ ap (range_with_len 0) (sym (ap length p.counted ∙ length-range_with_len 0 n));
  never_back = g.never_back;
  after_posts = g.after_posts;
  handed = handed;
  none_above = e.below;
  none_missing = e.lines;
  to_one = λ s q b c. let h = e.given s b in to_one_of h.target t s q (e.lacks s) (p.single s h.target (ToOne q) h.was_posted c) h.is_given;
  to_all = λ s b c. let h = e.given s b in (e.lacks s, to_all_of h.target t s (e.lacks s) (p.single s h.target ToAll h.was_posted c) h.is_given, e.ends s b);
}

given_whole : (m : DeliveryMachine) (t : List Line) (h : IsInState m t) → h.lacking ≡ [] → (s : ℕ) → s < h.taken → IsGiven t s []
given_whole m t h e s k = let g = h.are_given s k in rw (e, lacking_none m.walked s) at g

ended_whole : (m : DeliveryMachine) (t : List Line) (h : IsInState m t) → h.lacking ≡ [] → Ended t h.taken
ended_whole m t h e = record {
  lacks = λ s. [];
  given = given_whole m t h e;
  ends = λ s k. inl refl;
  below = h.gone.below;
  lines = λ s k. let g = given_whole m t h e s k in has_line g.target t s g.is_given;
}

pub done_hands_on : (m : DeliveryMachine) (t : List Line) → IsInState m t → m.coming ≡ [] → HandedOn t
done_hands_on m t h c = hands_on m.accepted h.taken h.taken t h.posts h.gone (ended_whole m t h (nothing_lacks (IsPair m.list m.numbered (process_list t) (length t)) m.coming h.lacking h.pairs c))

-- a halt in the middle of a walk

none_equal : (s : ℕ) (hs : List Handing) → of_serial s hs ≡ [] → All (λ h. h.serial ≡ s → ⊥) hs
none_equal s [] e = All-nil _
none_equal s (x ∷ hs) e = elim (split (x.serial == s) refl) [ inl f ↦ (let q : x ∷ of_serial s hs ≡ [] = rw f at e in absurd (cc)) | inr f ↦ All-cons (λ h. h.serial ≡ s → ⊥) x hs (λ q. (grind (arith, nat_tests))) (none_equal s hs (rw f at e)) ]
  where
    split : (b : Bool) → (x.serial == s) ≡ b → ((x.serial == s) ≡ true) ⊎ ((x.serial == s) ≡ false)
    split true q = inl q
    split false q = inr q

both_below : (s n : ℕ) (hs : List Handing) → s + 1 ≡ n → All (λ h. h.serial < n) hs → All (λ h. h.serial ≡ s → ⊥) hs → All (λ h. h.serial < s) hs
both_below s n [] e a b = All-nil _
both_below s n (h ∷ hs) e a b =
    let c : h.serial < n = All-head (λ x. x.serial < n) h hs a in
    let d : h.serial ≡ s → ⊥ = All-head (λ x. x.serial ≡ s → ⊥) h hs b in
    All-cons (λ x. x.serial < s) h hs (grind (arith, d)) (both_below s n hs e (All-tail (λ x. x.serial < n) h hs a) (All-tail (λ x. x.serial ≡ s → ⊥) h hs b))

zip_none : (hs : List Handing) → AllZip IsHandingFor [] hs → hs ≡ []
zip_none [] z = refl
zip_none (h ∷ hs) z = absurd z

none_reached : (t : List Line) (s : ℕ) (lacking : List Incarnation) (g : IsGivenToAll t s lacking) → g.reached ≡ [] → All (λ h. h.serial ≡ s → ⊥) (handings t)
none_reached t s lacking g e =
    let z : AllZip IsHandingFor [] (of_serial s (handings_behind g.before g.behind)) = subst (λ x. AllZip IsHandingFor x (of_serial s (handings_behind g.before g.behind))) e g.in_turn in
    let q : handings t ≡ handings g.before ++ handings_behind g.before g.behind = ap handings g.place ∙ handings_joined [] g.before g.behind in
    rw q (All-append (λ h. h.serial ≡ s → ⊥) _ _ g.not_after_own (none_equal s _ (zip_none _ z)))

given_before : (m : DeliveryMachine) (t : List Line) (h : IsInState m t) → m.walked + 1 ≡ h.taken → (s : ℕ) → s < m.walked → IsGiven t s []
given_before m t h w s k = let g = h.are_given s (omega arith) in rw (lacking_other m.walked h.lacking s k) at g

-- the walk has no line yet: its event is not delivered
ended_before : (m : DeliveryMachine) (t : List Line) (h : IsInState m t) → m.walked + 1 ≡ h.taken → All (λ x. x.serial ≡ m.walked → ⊥) (handings t) → Ended t m.walked
ended_before m t h w a = record {
  lacks = λ s. [];
  given = given_before m t h w;
  ends = λ s k. inl refl;
  below = both_below m.walked h.taken (handings t) w h.gone.below a;
  lines = λ s k. let g = given_before m t h w s k in has_line g.target t s g.is_given;
}

-- the walk has a line
ended_within : (m : DeliveryMachine) (t : List Line) (h : IsInState m t) → m.walked + 1 ≡ h.taken → HasLine t m.walked → EndsInHalt t → Ended t h.taken
ended_within m t h w l e = record {
  lacks = lacking_of m.walked h.lacking;
  given = h.are_given;
  ends = λ s k. elim (below_split s m.walked (omega arith)) [ inl b ↦ inl (lacking_other m.walked h.lacking s b) | inr b ↦ inr (rw b w, e) ];
  below = h.gone.below;
  lines = λ s k. elim (below_split s m.walked (omega arith)) [ inl b ↦ (let g = given_before m t h w s b in has_line g.target t s g.is_given) | inr b ↦ rw b l ];
}

ended_at : (m : DeliveryMachine) (t : List Line) (h : IsInState m t) → m.walked + 1 ≡ h.taken → EndsInHalt t → (g : IsGivenToAll t m.walked h.lacking) → (is : List Incarnation) → g.reached ≡ is → HandedOn t
ended_at m t h w e g [] r = hands_on m.accepted h.taken m.walked t h.posts h.gone (ended_before m t h w (none_reached t m.walked h.lacking g r))
ended_at m t h w e g (i ∷ is) r =
    let f : g.reached ≡ [] → ⊥ = λ q. let c : i ∷ is ≡ [] = sym r ∙ q in (cc) in
    hands_on m.accepted h.taken h.taken t h.posts h.gone (ended_within m t h w (found_in_turn t m.walked h.lacking g g.reached _ f g.in_turn refl) e)

walked_to_all : (g : Target) (t : List Line) (s : ℕ) (lacking : List Incarnation) → (lacking ≡ [] → ⊥) → IsGivenTo g t s lacking → IsGivenToAll t s lacking
walked_to_all (ToOne p) t s lacking f h = absurd (f h.1)
walked_to_all ToAll t s lacking f h = h.0

halted_within : (m : DeliveryMachine) (t : List Line) (h : IsInState m t) → (h.lacking ≡ [] → ⊥) → EndsInHalt t → HandedOn t
halted_within m t h f e =
    let w : m.walked + 1 ≡ h.taken = h.current (λ c. f (nothing_lacks (IsPair m.list m.numbered (process_list t) (length t)) m.coming h.lacking h.pairs c)) in
    let g : IsGiven t m.walked (lacking_of m.walked h.lacking m.walked) = h.are_given m.walked (omega arith) in
    let g' : IsGiven t m.walked h.lacking = subst (λ x. IsGiven t m.walked x) (lacking_own m.walked h.lacking) g in
    let a = walked_to_all g'.target t m.walked h.lacking f g'.is_given in
    ended_at m t h w e a a.reached refl

halted_with : (m : DeliveryMachine) (t : List Line) (h : IsInState m t) → EndsInHalt t → (lacking : List Incarnation) → h.lacking ≡ lacking → HandedOn t
halted_with m t h e [] q = hands_on m.accepted h.taken h.taken t h.posts h.gone (ended_whole m t h q)
halted_with m t h e (i ∷ is) q = halted_within m t h (λ f. let c : i ∷ is ≡ [] = sym q ∙ f in (cc)) e

pub halt_hands_on : (m : DeliveryMachine) (t : List Line) → IsInState m t → HandedOn (t ++ Halt ∷ [])
halt_hands_on m t h = let k = in_state_aside m Halt t halt_is_aside h in halted_with m (t ++ Halt ∷ []) k (t, refl) k.lacking refl

pub delivery_hands_on : DeliveryHandsOn
delivery_hands_on t (inl r) = done_hands_on r.0 t (in_state_runs initial [] t r.0 r.1 in_state_at_first) r.2
delivery_hands_on t (inr h) = rw h.ends (halt_hands_on h.last h.before (in_state_runs initial [] h.before h.last h.runs in_state_at_first))

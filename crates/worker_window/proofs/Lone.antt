-- A mote by itself: its run doesn't depend on the lines and packets from before, or on the order of copies with the
-- same moment.
use Rattle.std.proofs.Common.{◌≡◌, ℕ, ◌<◌, ◌≤◌, ◌⊎◌, Bool, true, false, not, ◌||◌, eqb, List, [], ◌∷◌, ◌++◌, refl, sym, ap, ◌∙◌, subst, inl, inr, arith, append_assoc, Option, Some, None}
use Rattle.std.proofs.lemmas.Bool.{cases_Bool, cases_eq, cases_lt, eq-eqb, ne_eqb, or_parts, false≢true}
use Rattle.std.proofs.lemmas.Bool.Decides.{nat_tests}
use Rattle.std.specs.List.{filter, list_any, AllByRecursion}
use Rattle.radio_packet.specs.declared.copy.RadioCopy.{RadioCopy}
use Rattle.radio_packet.specs.declared.sent.Sent.{Sent}
use Rattle.window_laws.proofs.Lists.{filter_stronger, every_filter, is_filled}
use Rattle.window_laws.specs.Forward.{IsLater}
use Rattle.window_laws.specs.NetStep.{sends_of}
use Rattle.window_laws.specs.Order.{in_order}
use Rattle.window_laws.specs.System.{System, Turned}
use Rattle.window_laws.specs.Windows.{LoneMote, after_lone_turn, lone_turn, is_at, wakes_at, NoneBefore, IsQuiet, Alone, Rests, Turns}
use Rattle.window_laws.proofs.Alone.{filled_given}
use Rattle.worker_window.proofs.Ends.{not_before}

-- the mote with earlier lines and packets before its own
abbrev pub in_front : {S L : Type 0} → List L → List Sent → LoneMote S L → LoneMote S L
in_front lines sends mote = record mote { lines = lines ++ mote.lines; sends = sends ++ mote.sends }

-- the tests as statements about numbers
other_at : (t u c : ℕ) → (u ≡ t → ⊥) → eqb c u ≡ true → not (eqb c t) ≡ true
other_at t u c ne e = grind (arith, nat_tests)

module _ {S L : Type 0} (system : System S L) (k bound : ℕ) where
  turn_in_front : (lines : List L) (sends : List Sent) (t : ℕ) (mote : LoneMote S L) (turned : Turned S L) → after_lone_turn t k (in_front lines sends mote) turned ≡ in_front lines sends (after_lone_turn t k mote turned)
  turn_in_front lines sends t mote turned =
      ap (λ (l : List L). record { state = turned.state; wake = turned.wake; lines = l; sends = (sends ++ mote.sends) ++ sends_of t k turned }) (append_assoc lines mote.lines turned.lines)
      ∙ ap (λ (l : List Sent). record { state = turned.state; wake = turned.wake; lines = lines ++ (mote.lines ++ turned.lines); sends = l }) (append_assoc sends mote.sends (sends_of t k turned))

  pub alone_in_front : (lines : List L) (sends : List Sent) {window_copies : List RadioCopy} {mote last : LoneMote S L} → Alone system k bound window_copies mote last
      → Alone system k bound window_copies (in_front lines sends mote) (in_front lines sends last)
  alone_in_front lines sends (Rests quiet) = Rests quiet
  alone_in_front lines sends {window_copies} {mote} {last} (Turns t quiet comes low rest) =
      Turns t quiet comes low
      (subst (λ m. Alone system k bound (filter (λ copy. not (is_at t copy)) window_copies) m (in_front lines sends last))
      (sym (turn_in_front lines sends t mote (system.turn k mote.state t (in_order (filter (is_at t) window_copies)))))
      (alone_in_front lines sends rest))

  -- the two lists have the same copies at each moment, after the copies of the moment are sorted
  abbrev pub IsAlike : (a b : List RadioCopy) → Type 0
  IsAlike a b = (t : ℕ) → in_order (filter (is_at t) a) ≡ in_order (filter (is_at t) b)

  any_alike : (a b : List RadioCopy) → IsAlike a b → (t : ℕ) → list_any (is_at t) a ≡ list_any (is_at t) b
  any_alike a b alike t = sym (filled_given (is_at t) a) ∙ (ap is_filled (alike t) ∙ filled_given (is_at t) b)

  none_sooner : (t : ℕ) (b : List RadioCopy) → ((u : ℕ) → u < t → list_any (is_at u) b ≡ false) → AllByRecursion (λ c. t ≤ c.at) b
  none_sooner t [] h = tt
  none_sooner t (c ∷ b) h = (not_sooner (cases_lt c.at t), none_sooner t b (λ u g. (or_parts _ _ (h u g)).1))
    where
      not_sooner : (c.at < t) ⊎ (t ≤ c.at) → t ≤ c.at
      not_sooner (inl g) = absurd (let e : eqb c.at c.at ≡ true = eq-eqb c.at c.at refl in false≢true (sym (or_parts _ _ (h c.at g)).0 ∙ e))
      not_sooner (inr g) = g

  any_sooner : (t : ℕ) (a : List RadioCopy) → AllByRecursion (λ c. t ≤ c.at) a → (u : ℕ) → u < t → list_any (is_at u) a ≡ false
  any_sooner t [] h u g = refl
  any_sooner t (c ∷ a) h u g = let le = h.0 in let e : eqb c.at u ≡ false = ne_eqb c.at u (λ f. absurd (omega arith)) in rw e (any_sooner t a h.1 u g)

  pub quiet_alike : (t : ℕ) (wake : Option ℕ) (a b : List RadioCopy) → IsAlike a b → IsQuiet t wake a → IsQuiet t wake b
  quiet_alike t wake a b alike quiet = record {
    no_wake = quiet.no_wake;
    no_copies = none_sooner t b (λ u h. sym (any_alike a b alike u) ∙ any_sooner t a quiet.no_copies u h);
  }

  not_at : (t : ℕ) (b : Bool) → not b ≡ true → b ≡ false
  not_at t true e = absurd (cc)
  not_at t false e = refl

  none_at : (t : ℕ) (a : List RadioCopy) → filter (is_at t) (filter (λ copy. not (is_at t copy)) a) ≡ []
  none_at t [] = refl
  none_at t (c ∷ a) = elim (cases_Bool (eqb c.at t)) [ inl e ↦ rw e (none_at t a) | inr e ↦ rw (e, e) (none_at t a) ]

  rest_alike : (t : ℕ) (a b : List RadioCopy) → IsAlike a b → IsAlike (filter (λ copy. not (is_at t copy)) a) (filter (λ copy. not (is_at t copy)) b)
  rest_alike t a b alike u =
      elim (cases_eq u t) [
        | inl e ↦ subst (λ v. in_order (filter (is_at v) (filter (λ copy. not (is_at t copy)) a)) ≡ in_order (filter (is_at v) (filter (λ copy. not (is_at t copy)) b))) (sym e)
            (ap in_order (none_at t a ∙ sym (none_at t b)))
        | inr ne ↦ ap in_order (filter_stronger (is_at u) (λ copy. not (is_at t copy)) (λ c e. other_at t u c.at ne e) a)
            ∙ (alike u ∙ sym (ap in_order (filter_stronger (is_at u) (λ copy. not (is_at t copy)) (λ c e. other_at t u c.at ne e) b)))
      ]

  alike_from : {a : List RadioCopy} (b : List RadioCopy) {mote last : LoneMote S L} (other : LoneMote S L) → mote ≡ other → IsAlike a b → Alone system k bound a mote last → Alone system k bound b other last
  alike_from {a} b {mote} other e alike (Rests quiet) = subst (λ m. Alone system k bound b m mote) e (Rests (quiet_alike bound mote.wake a b alike quiet))
  alike_from {a} b {mote} {last} other e alike (Turns t quiet comes low rest) =
      Turns t (subst (λ m. IsQuiet t m.wake b) e (quiet_alike t mote.wake a b alike quiet))
      (subst (λ m. (wakes_at t m.wake || list_any (is_at t) b) ≡ true) e (ap (λ x. wakes_at t mote.wake || x) (sym (any_alike a b alike t)) ∙ comes)) low
      (alike_from (filter (λ copy. not (is_at t copy)) b) (lone_turn system t k other (in_order (filter (is_at t) b)))
      (ap (λ m. lone_turn system t k m (in_order (filter (is_at t) a))) e ∙ ap (lone_turn system t k other) (alike t)) (rest_alike t a b alike) rest)

  pub alone_alike : {a : List RadioCopy} (b : List RadioCopy) {mote last : LoneMote S L} → IsAlike a b → Alone system k bound a mote last → Alone system k bound b mote last
  alone_alike b {mote} alike run = alike_from b mote refl alike run

  pub rests_quiet : {window_copies : List RadioCopy} {mote last : LoneMote S L} → Alone system k bound window_copies mote last → NoneBefore bound last.wake
  rests_quiet (Rests quiet) = quiet.no_wake
  rests_quiet (Turns t quiet comes low rest) = rests_quiet rest

  -- a property that each turn of the window preserves holds at the window's end
  module _ (wakes_later : (mote : ℕ) (state : S) (moment : ℕ) (given : List RadioCopy) → IsLater moment (system.turn mote state moment given).wake) (from : ℕ) where
    later_from : (t : ℕ) (wake : Option ℕ) → from ≤ t → IsLater t wake → NoneBefore from wake
    later_from t None h g = tt
    later_from t (Some u) h g = omega arith

    pub alone_keeps : (P : LoneMote S L → Type 0) → ((t : ℕ) (mote : LoneMote S L) (given : List RadioCopy) → from ≤ t → t < bound → P mote → P (lone_turn system t k mote given))
        → {window_copies : List RadioCopy} {mote last : LoneMote S L} → IsQuiet from mote.wake window_copies → P mote → Alone system k bound window_copies mote last → P last
    alone_keeps P step quiet p (Rests rests) = p
    alone_keeps P step {window_copies} {mote} quiet p (Turns t now comes low rest) =
        let le = not_before from t mote.wake window_copies quiet comes in
        let given : List RadioCopy = in_order (filter (is_at t) window_copies) in
        alone_keeps P step
        (record {
          no_wake = later_from t (system.turn k mote.state t given).wake le (wakes_later k mote.state t given);
          no_copies = every_filter _ _ (λ copy. not (is_at t copy)) (λ c h e. h) window_copies quiet.no_copies;
        })
        (step t mote given le low p) rest

-- Earlier deliveries are unchanged, and each new delivery is added to them.
use Rattle.std.proofs.Common.{ℕ, ◌≡◌, ◌<◌, ◌≤◌, Bool, List, [], ◌∷◌, ◌++◌, refl, sym, ap, ◌∙◌, append_assoc, append-nil, arith}
use Rattle.std.specs.List.{All, Contains}
use Rattle.std.proofs.lemmas.List.Elements.{filter-append, Contains-append_left, All-append, All-nil, All-cons, All-weaker, All-head, All-tail}
use Rattle.std.proofs.lemmas.Slice.Zip.{all_zipped_more}
use Rattle.std.proofs.lemmas.Bool.Decides.{nat_tests}
use Rattle.kernel_laws.specs.HandedOn.{Target, ToOne, ToAll, Line, Post, Incarnation, Handing, is_on, has_incarnation, process_list, handing_at, handings_behind, handings, of_serial, IsGivenToOne, IsHandingFor, IsGivenToAll}
use Rattle.kernel_laws.specs.Delivery.{take_or_drop}
use Rattle.kernel_laws.proofs.Lines.{handings_more, given_handing}
use Rattle.kernel_laws.proofs.IsInState.{IsGivenTo, IsGiven, handings_given}

-- the line is not a `take` or `drop` line of this serial or a smaller one
pub record IsBeyond (s : ℕ) (l : Line) : Type 0 where
  pub later : (b : List Line) → All (λ h. s ≤ h.serial) (handing_at b l)
  pub other : (b : List Line) → of_serial s (handing_at b l) ≡ []

pub beyond_quiet : (s : ℕ) (l : Line) → ((b : List Line) → handing_at b l ≡ []) → IsBeyond s l
beyond_quiet s l q = record { later = λ b. rw (q b) (All-nil _); other = λ b. rw (q b) refl }

single_other : (s : ℕ) (h : Handing) → s < h.serial → of_serial s (h ∷ []) ≡ []
single_other s h e = grind (arith, nat_tests)

single_own : (s : ℕ) (h : Handing) → h.serial ≡ s → of_serial s (h ∷ []) ≡ h ∷ []
single_own s h e = grind (arith, nat_tests)

pub beyond_given : (s r p : ℕ) (there : Bool) → s < r → IsBeyond s (take_or_drop there r p)
beyond_given s r p there e = record {
  later = λ b. rw (given_handing there r p b) (All-cons (λ h. s ≤ h.serial) _ [] (omega arith) (All-nil _));
  other = λ b. rw (given_handing there r p b) (single_other s _ e);
}

of_more : (s : ℕ) (b t : List Line) (l : Line) → IsBeyond s l → of_serial s (handings_behind b (t ++ l ∷ [])) ≡ of_serial s (handings_behind b t)
of_more s b t l h = ap (of_serial s) (handings_more b t l) ∙ filter-append _ (handings_behind b t) (handing_at (b ++ t) l) ∙ rw (h.other (b ++ t), append-nil) refl

one_more : (t : List Line) (l : Line) (s p : ℕ) → IsBeyond s l → IsGivenToOne t s p → IsGivenToOne (t ++ l ∷ []) s p
one_more t l s p h g = record { line = g.line; alone = of_more s [] t l h ∙ g.alone; process = g.process; taken = g.taken }

abbrev all_more : (t : List Line) (l : Line) (s : ℕ) (lacking : List Incarnation) → IsBeyond s l → IsGivenToAll t s lacking → IsGivenToAll (t ++ l ∷ []) s lacking
all_more t l s lacking h g = record {
  before = g.before;
  behind = g.behind ++ l ∷ [];
  place = ap (λ x. x ++ l ∷ []) g.place ∙ append_assoc g.before g.behind (l ∷ []);
  after_post = g.after_post;
  after_smaller = rw (handings_more g.before g.behind l) (All-append (λ x. s ≤ x.serial) _ _ g.after_smaller (h.later _));
  not_after_own = g.not_after_own;
  reached = g.reached;
  whole = g.whole;
  in_turn = rw (of_more s g.before g.behind l h) g.in_turn;
}

to_more : (g : Target) (t : List Line) (l : Line) (s : ℕ) (lacking : List Incarnation) → IsBeyond s l → IsGivenTo g t s lacking → IsGivenTo g (t ++ l ∷ []) s lacking
to_more (ToOne p) t l s lacking h g = (one_more t l s p h g.0, g.1)
to_more ToAll t l s lacking h g = (all_more t l s lacking h g.0, g.1)

-- a line beyond the serial of an event doesn't change the delivery of the event
pub given_more : (t : List Line) (l : Line) (s : ℕ) (lacking : List Incarnation) → IsBeyond s l → IsGiven t s lacking → IsGiven (t ++ l ∷ []) s lacking
given_more t l s lacking h g = record {
  target = g.target;
  was_posted = Contains-append_left t (l ∷ []) _ g.was_posted;
  is_given = to_more g.target t l s lacking h g.is_given;
}

pub none_of : (s : ℕ) (hs : List Handing) → All (λ h. h.serial < s) hs → of_serial s hs ≡ []
none_of s [] a = refl
none_of s (h ∷ hs) a = let e : h.serial < s = All-head (λ x. x.serial < s) h hs a in let f = none_of s hs (All-tail (λ x. x.serial < s) h hs a) in grind (arith, nat_tests)

-- an event that was posted to one process is given to it
pub given_one : (t : List Line) (s p : ℕ) (there : Bool) → Contains t (Post s (ToOne p)) → All (λ h. h.serial < s) (handings t) → there ≡ has_incarnation (process_list t) p → IsGiven (t ++ take_or_drop there s p ∷ []) s []
given_one t s p there c a e = record {
  target = ToOne p;
  was_posted = Contains-append_left t _ _ c;
  is_given = (
    record {
      line = record { serial = s; process = p; taken = there; before = t };
      alone = ap (of_serial s) (handings_given t there s p) ∙ filter-append _ (handings t) _ ∙ rw (none_of s (handings t) a) (single_own s _ refl);
      process = refl;
      taken = e;
    },
    refl,
  );
}

-- the walk of an event that was posted to all processes begins; all incarnations still lack their lines
pub given_begin : (t : List Line) (s : ℕ) → Contains t (Post s ToAll) → All (λ h. h.serial < s) (handings t) → (process_list t ≡ [] → ⊥) → IsGiven t s (process_list t)
given_begin t s c a n = record {
  target = ToAll;
  was_posted = c;
  is_given = (
    record {
      before = t;
      behind = [];
      place = sym (append-nil t);
      after_post = c;
      after_smaller = All-nil _;
      not_after_own = All-weaker (λ h. h.serial < s) (λ h. h.serial ≡ s → ⊥) (λ h e f. omega arith) (handings t) a;
      reached = [];
      whole = refl;
      in_turn = tt;
    },
    n,
  );
}

-- the walk reaches the first incarnation that lacks its line
abbrev all_next : (t : List Line) (s : ℕ) (i : Incarnation) (lacking : List Incarnation) (there : Bool) (p : ℕ) → p ≡ i.process → there ≡ is_on (process_list t) i → IsGivenToAll t s (i ∷ lacking) → IsGivenToAll (t ++ take_or_drop there s p ∷ []) s lacking
all_next t s i lacking there p e f g =
    let l = take_or_drop there s p in
    let h : handing_at (g.before ++ g.behind) l ≡ record { serial = s; process = p; taken = there; before = t } ∷ [] = given_handing there s p _ ∙ ap (λ b. record { serial = s; process = p; taken = there; before = b } ∷ []) (sym g.place) in
    let all : handings_behind g.before (g.behind ++ l ∷ []) ≡ handings_behind g.before g.behind ++ record { serial = s; process = p; taken = there; before = t } ∷ [] = handings_more g.before g.behind l ∙ ap (λ x. handings_behind g.before g.behind ++ x) h in
    record {
      before = g.before;
      behind = g.behind ++ l ∷ [];
      place = ap (λ x. x ++ l ∷ []) g.place ∙ append_assoc g.before g.behind (l ∷ []);
      after_post = g.after_post;
      after_smaller = rw all (All-append (λ x. s ≤ x.serial) _ _ g.after_smaller (All-cons (λ x. s ≤ x.serial) _ [] (omega arith) (All-nil _)));
      not_after_own = g.not_after_own;
      reached = g.reached ++ i ∷ [];
      whole = g.whole ∙ sym (append_assoc g.reached (i ∷ []) lacking);
      in_turn = rw (all, filter-append, single_own s (record { serial = s; process = p; taken = there; before = t }) refl) (all_zipped_more IsHandingFor g.reached _ i _ g.in_turn (record { process = e; taken = f }));
    }

next_of_target : (g : Target) (t : List Line) (s : ℕ) (i : Incarnation) (lacking : List Incarnation) (there : Bool) (p : ℕ) → p ≡ i.process → there ≡ is_on (process_list t) i → IsGivenTo g t s (i ∷ lacking) → IsGivenTo g (t ++ take_or_drop there s p ∷ []) s lacking
next_of_target (ToOne q) t s i lacking there p e f g = let h : i ∷ lacking ≡ [] = g.1 in absurd (cc)
next_of_target ToAll t s i lacking there p e f g = (all_next t s i lacking there p e f g.0, g.1)

pub given_next : (t : List Line) (s : ℕ) (i : Incarnation) (lacking : List Incarnation) (there : Bool) (p : ℕ) → p ≡ i.process → there ≡ is_on (process_list t) i → IsGiven t s (i ∷ lacking) → IsGiven (t ++ take_or_drop there s p ∷ []) s lacking
given_next t s i lacking there p e f g = record {
  target = g.target;
  was_posted = Contains-append_left t _ _ g.was_posted;
  is_given = next_of_target g.target t s i lacking there p e f g.is_given;
}

-- The invariant of the machine and its lines so far.
use Rattle.std.proofs.Common.{ℕ, zero, suc, ◌≡◌, ◌+◌, ◌<◌, ◌≤◌, ◌==◌, not, ◌⊎◌, inl, inr, Bool, true, List, [], ◌∷◌, ◌++◌, length, refl, sym, ap, ◌∙◌, subst, append-nil, arith, if◌then◌else◌, map}
use Rattle.std.proofs.lemmas.List.Quantifiers.{all_pairs_push}
use Rattle.std.specs.List.{All, AllPairs, AllZip, Contains, filter, list_any, range_with_len}
use Rattle.std.proofs.lemmas.List.Elements.{Contains-append_left, Contains-push, Contains-push_cases, All-push, All-nil, All-cons, All-weaker, All-get_or, All-filter, All-head, All-tail}
use Rattle.std.proofs.lemmas.Bool.Decides.{nat_tests}
use Rattle.kernel_laws.specs.HandedOn.{Target, ToOne, ToAll, Line, Post, Incarnation, Handing, is_on, has_incarnation, without, process_list, posted_serials, handing_at, handings, IsGivenToOne, IsGivenToAll}
use Rattle.kernel_laws.specs.Delivery.{Waiting, DeliveryMachine, take_or_drop}
use Rattle.kernel_laws.proofs.Lines.{on_start, on_leave, handings_more, posted_more, given_handing}

-- the `post` lines are the lines of the events that were accepted
pub record Posts (accepted : ℕ) (t : List Line) : Type 0 where
  pub counted : posted_serials t ≡ range_with_len 0 accepted
  pub known : (s : ℕ) (g : Target) → Contains t (Post s g) → s < accepted
  pub single : (s : ℕ) (g g' : Target) → Contains t (Post s g) → Contains t (Post s g') → g ≡ g'

-- a `take` or `drop` line is after the `post` line of its serial
abbrev pub IsAfterPost : Handing → Type 0
IsAfterPost h = (g : Target) × Contains h.before (Post h.serial g)

abbrev pub IsBelow : ℕ → Incarnation → Type 0
IsBelow n i = i.number < n

-- two process lists have the same processes in the same order; each list has a number that no incarnation on it has
-- reached
pub record SameList (list : List Incarnation) (numbered : ℕ) (there : List Incarnation) (n : ℕ) : Type 0 where
  pub same : map (λ i. i.process) list ≡ map (λ i. i.process) there
  pub below : All (IsBelow numbered) list
  pub before : All (IsBelow n) there

-- two incarnations of one process, one in the numbering of each list; either both have left or neither has
pub record IsPair (list : List Incarnation) (numbered : ℕ) (there : List Incarnation) (n : ℕ) (x i : Incarnation) : Type 0 where
  pub process : x.process ≡ i.process
  pub below : x.number < numbered
  pub before : i.number < n
  pub same : is_on list x ≡ is_on there i

-- the `take` and `drop` lines are about the events that were taken, in order
pub record Gone (taken : ℕ) (t : List Line) : Type 0 where
  pub never_back : AllPairs (λ x y. x.serial ≤ y.serial) (handings t)
  pub after_posts : All IsAfterPost (handings t)
  pub below : All (λ h. h.serial < taken) (handings t)

-- the waiting events are the accepted events from this serial on
abbrev pub Waits : ℕ → List Waiting → ℕ → List Line → Type 0
Waits k [] accepted t = k ≡ accepted
Waits k (x ∷ xs) accepted t = (x.serial ≡ k) × Contains t (Post k x.target) × Waits (k + 1) xs accepted t

-- an event was given to the processes to which it was posted, except to the incarnations that lack their lines
abbrev pub IsGivenTo : Target → List Line → ℕ → List Incarnation → Type 0
IsGivenTo (ToOne p) t s lacking = IsGivenToOne t s p × (lacking ≡ [])
IsGivenTo ToAll t s lacking = (g : IsGivenToAll t s lacking) × (process_list g.before ≡ [] → ⊥)

pub record IsGiven (t : List Line) (s : ℕ) (lacking : List Incarnation) : Type 0 where
  pub target : Target
  pub was_posted : Contains t (Post s target)
  pub is_given : IsGivenTo target t s lacking

abbrev pub lacking_of : ℕ → List Incarnation → ℕ → List Incarnation
lacking_of walked lacking s = if s == walked then lacking else []

pub record IsInState (m : DeliveryMachine) (t : List Line) : Type 0 where
  pub posts : Posts m.accepted t
  pub lists : SameList m.list m.numbered (process_list t) (length t)
  pub taken : ℕ
  pub gone : Gone taken t
  pub waits : Waits taken m.queue m.accepted t
  pub lacking : List Incarnation
  pub pairs : AllZip (IsPair m.list m.numbered (process_list t) (length t)) m.coming lacking
  pub are_given : (s : ℕ) → s < taken → IsGiven t s (lacking_of m.walked lacking s)
  pub current : (m.coming ≡ [] → ⊥) → m.walked + 1 ≡ taken

-- posts

not_post : (l : Line) (s : ℕ) (g : Target) → posted_serials (l ∷ []) ≡ [] → l ≡ Post s g → ⊥
not_post l s g e q = let f : posted_serials (l ∷ []) ≡ s ∷ [] = ap (λ x. posted_serials (x ∷ [])) q in (cc)

was_before : (t : List Line) (l : Line) (s : ℕ) (g : Target) → posted_serials (l ∷ []) ≡ [] → Contains (t ++ l ∷ []) (Post s g) → Contains t (Post s g)
was_before t l s g e c = elim (Contains-push_cases t l (Post s g) c) [ inl d ↦ d | inr q ↦ absurd (not_post l s g e q) ]

pub posts_other : (n : ℕ) (t : List Line) (l : Line) → posted_serials (l ∷ []) ≡ [] → Posts n t → Posts n (t ++ l ∷ [])
posts_other n t l e p = record {
  counted = posted_more t l ∙ rw (e, append-nil) p.counted;
  known = λ s g c. p.known s g (was_before t l s g e c);
  single = λ s g g' c d. p.single s g g' (was_before t l s g e c) (was_before t l s g' e d);
}

range_more : (a n j : ℕ) → a + n ≡ j → range_with_len a (n + 1) ≡ range_with_len a n ++ j ∷ []
range_more a zero j e = let f : a ≡ j = omega arith in ap (λ k. k ∷ []) f
range_more a (suc n) j e = let f : (a + 1) + n ≡ j = omega arith in let g : suc n + 1 ≡ suc (n + 1) = omega arith in rw g (ap (λ xs. a ∷ xs) (range_more (a + 1) n j f))

posts_known : (n : ℕ) (t : List Line) (h : Target) → Posts n t → (s : ℕ) (g : Target) → Contains (t ++ Post n h ∷ []) (Post s g) → s < n + 1
posts_known n t h p s g c = elim (Contains-push_cases t (Post n h) (Post s g) c) [ inl d ↦ (let k = p.known s g d in omega arith) | inr q ↦ (let k : n ≡ s = cc in omega arith) ]

posts_single : (n : ℕ) (t : List Line) (h : Target) → Posts n t → (s : ℕ) (g g' : Target) → Contains t (Post s g) ⊎ (Post n h ≡ Post s g) → Contains t (Post s g') ⊎ (Post n h ≡ Post s g') → g ≡ g'
posts_single n t h p s g g' (inl c) (inl d) = p.single s g g' c d
posts_single n t h p s g g' (inl c) (inr q) = let k = p.known s g c in let e : n ≡ s = cc in absurd (omega arith)
posts_single n t h p s g g' (inr q) (inl d) = let k = p.known s g' d in let e : n ≡ s = cc in absurd (omega arith)
posts_single n t h p s g g' (inr q) (inr r) = cc

pub posts_post : (n : ℕ) (t : List Line) (g : Target) → Posts n t → Posts (n + 1) (t ++ Post n g ∷ [])
posts_post n t g p = record {
  counted = posted_more t (Post n g) ∙ rw p.counted (sym (range_more 0 n n (omega arith)));
  known = posts_known n t g p;
  single = λ s x y c d. posts_single n t g p s x y (Contains-push_cases t (Post n g) (Post s x) c) (Contains-push_cases t (Post n g) (Post s y) d);
}

-- the process lists

any_of_processes : (list : List Incarnation) (p : ℕ) → has_incarnation list p ≡ list_any (λ q. q == p) (map (λ i. i.process) list)
any_of_processes [] p = refl
any_of_processes (i ∷ list) p = rw (any_of_processes list p) refl

pub same_listed : (list there : List Incarnation) (p : ℕ) → map (λ i. i.process) list ≡ map (λ i. i.process) there → has_incarnation list p ≡ has_incarnation there p
same_listed list there p e = any_of_processes list p ∙ ap (λ ps. list_any (λ q. q == p) ps) e ∙ sym (any_of_processes there p)

without_of_processes : (list : List Incarnation) (p : ℕ) → map (λ i. i.process) (without list p) ≡ filter (λ q. not (q == p)) (map (λ i. i.process) list)
without_of_processes [] p = refl
without_of_processes (i ∷ list) p = grind (arith, nat_tests, without_of_processes list p)

pub lists_start : (list : List Incarnation) (numbered : ℕ) (there : List Incarnation) (n p : ℕ) → SameList list numbered there n → SameList (record { process = p; number = numbered } ∷ list) (numbered + 1) (record { process = p; number = n } ∷ there) (n + 1)
lists_start list numbered there n p s = record {
  same = ap (λ ps. p ∷ ps) s.same;
  below = All-cons (IsBelow (numbered + 1)) _ list (omega arith) (All-weaker (IsBelow numbered) (IsBelow (numbered + 1)) (λ i h. omega arith) list s.below);
  before = All-cons (IsBelow (n + 1)) _ there (omega arith) (All-weaker (IsBelow n) (IsBelow (n + 1)) (λ i h. omega arith) there s.before);
}

pub lists_leave : (list : List Incarnation) (numbered : ℕ) (there : List Incarnation) (n p : ℕ) → SameList list numbered there n → SameList (without list p) numbered (without there p) (n + 1)
lists_leave list numbered there n p s = record {
  same = without_of_processes list p ∙ ap (λ ps. filter (λ q. not (q == p)) ps) s.same ∙ sym (without_of_processes there p);
  below = All-filter _ (IsBelow numbered) list s.below;
  before = All-weaker (IsBelow n) (IsBelow (n + 1)) (λ i h. omega arith) _ (All-filter _ (IsBelow n) there s.before);
}

pub lists_other : (list : List Incarnation) (numbered : ℕ) (there : List Incarnation) (n : ℕ) → SameList list numbered there n → SameList list numbered there (n + 1)
lists_other list numbered there n s = record {
  same = s.same;
  below = s.below;
  before = All-weaker (IsBelow n) (IsBelow (n + 1)) (λ i h. omega arith) _ s.before;
}

-- the pairs of a walk

zip_weaker : {A B : Type 0} (P Q : A → B → Type 0) → ((x : A) (y : B) → P x y → Q x y) → (xs : List A) (ys : List B) → AllZip P xs ys → AllZip Q xs ys
zip_weaker P Q w [] [] h = tt
zip_weaker P Q w [] (y ∷ ys) h = absurd h
zip_weaker P Q w (x ∷ xs) [] h = absurd h
zip_weaker P Q w (x ∷ xs) (y ∷ ys) h = (w x y h.0, zip_weaker P Q w xs ys h.1)

pair_start : (list : List Incarnation) (numbered : ℕ) (there : List Incarnation) (n p : ℕ) (x i : Incarnation) → IsPair list numbered there n x i → IsPair (record { process = p; number = numbered } ∷ list) (numbered + 1) (record { process = p; number = n } ∷ there) (n + 1) x i
pair_start list numbered there n p x i h = record {
  process = h.process;
  below = omega arith;
  before = omega arith;
  same = on_start list p numbered x h.below ∙ h.same ∙ sym (on_start there p n i h.before);
}

pair_leave : (list : List Incarnation) (numbered : ℕ) (there : List Incarnation) (n p : ℕ) (x i : Incarnation) → IsPair list numbered there n x i → IsPair (without list p) numbered (without there p) (n + 1) x i
pair_leave list numbered there n p x i h = record {
  process = h.process;
  below = h.below;
  before = omega arith;
  same = on_leave list p x ∙ rw (h.same, h.process) (sym (on_leave there p i));
}

pair_other : (list : List Incarnation) (numbered : ℕ) (there : List Incarnation) (n : ℕ) (x i : Incarnation) → IsPair list numbered there n x i → IsPair list numbered there (n + 1) x i
pair_other list numbered there n x i h = record { process = h.process; below = h.below; before = omega arith; same = h.same }

on_itself : (list : List Incarnation) (x : Incarnation) → is_on (x ∷ list) x ≡ true
on_itself list x = grind (arith, nat_tests)

on_more : (list : List Incarnation) (y x : Incarnation) → is_on list x ≡ true → is_on (y ∷ list) x ≡ true
on_more list y x h = grind (arith, nat_tests)

abbrev IsOn : List Incarnation → Incarnation → Type 0
IsOn list x = is_on list x ≡ true

all_on : (list : List Incarnation) → All (IsOn list) list
all_on [] = All-nil _
all_on (y ∷ list) = All-cons (IsOn (y ∷ list)) y list (on_itself list y) (All-weaker (IsOn list) (IsOn (y ∷ list)) (λ x h. on_more list y x h) list (all_on list))

pairs_of : (list : List Incarnation) (numbered : ℕ) (there : List Incarnation) (n : ℕ) (xs is : List Incarnation) → map (λ i. i.process) xs ≡ map (λ i. i.process) is → All (IsBelow numbered) xs → All (IsBelow n) is → All (IsOn list) xs → All (IsOn there) is → AllZip (IsPair list numbered there n) xs is
pairs_of list numbered there n [] [] e b c on on' = tt
pairs_of list numbered there n [] (i ∷ is) e b c on on' = absurd (cc)
pairs_of list numbered there n (x ∷ xs) [] e b c on on' = absurd (cc)
pairs_of list numbered there n (x ∷ xs) (i ∷ is) e b c on on' =
    let here : is_on list x ≡ true = All-head (IsOn list) x xs on in let same : is_on there i ≡ true = All-head (IsOn there) i is on' in (
      record { process = cc; below = All-head (IsBelow numbered) x xs b; before = All-head (IsBelow n) i is c; same = here ∙ sym same },
      pairs_of list numbered there n xs is (cc) (All-tail (IsBelow numbered) x xs b) (All-tail (IsBelow n) i is c) (All-tail (IsOn list) x xs on) (All-tail (IsOn there) i is on'),
    )

-- at the beginning of a walk, each incarnation on one list forms a pair with the incarnation at the same place of the
-- other list
pub pairs_begin : (list : List Incarnation) (numbered : ℕ) (there : List Incarnation) (n : ℕ) → SameList list numbered there n → AllZip (IsPair list numbered there n) list there
pairs_begin list numbered there n s = pairs_of list numbered there n list there s.same s.below s.before (all_on list) (all_on there)

pub pairs_start : (list : List Incarnation) (numbered : ℕ) (there : List Incarnation) (n p : ℕ) (xs is : List Incarnation) → AllZip (IsPair list numbered there n) xs is → AllZip (IsPair (record { process = p; number = numbered } ∷ list) (numbered + 1) (record { process = p; number = n } ∷ there) (n + 1)) xs is
pairs_start list numbered there n p xs is h = zip_weaker _ _ (pair_start list numbered there n p) xs is h

pub pairs_leave : (list : List Incarnation) (numbered : ℕ) (there : List Incarnation) (n p : ℕ) (xs is : List Incarnation) → AllZip (IsPair list numbered there n) xs is → AllZip (IsPair (without list p) numbered (without there p) (n + 1)) xs is
pairs_leave list numbered there n p xs is h = zip_weaker _ _ (pair_leave list numbered there n p) xs is h

pub pairs_other : (list : List Incarnation) (numbered : ℕ) (there : List Incarnation) (n : ℕ) (xs is : List Incarnation) → AllZip (IsPair list numbered there n) xs is → AllZip (IsPair list numbered there (n + 1)) xs is
pairs_other list numbered there n xs is h = zip_weaker _ _ (pair_other list numbered there n) xs is h

-- the queue

pub waits_more : (k : ℕ) (xs : List Waiting) (n : ℕ) (t : List Line) (l : Line) → Waits k xs n t → Waits k xs n (t ++ l ∷ [])
waits_more k [] n t l w = w
waits_more k (x ∷ xs) n t l w = (w.0, Contains-append_left t (l ∷ []) _ w.1, waits_more (k + 1) xs n t l w.2)

pub waits_post : (k : ℕ) (xs : List Waiting) (n : ℕ) (t : List Line) (g : Target) → Waits k xs n t → Waits k (xs ++ record { serial = n; target = g } ∷ []) (n + 1) (t ++ Post n g ∷ [])
waits_post k [] n t g w = (sym w, subst (λ j. Contains (t ++ Post n g ∷ []) (Post j g)) (sym w) (Contains-push t (Post n g)), ap (λ j. j + 1) w)
waits_post k (x ∷ xs) n t g w = (w.0, Contains-append_left t (Post n g ∷ []) _ w.1, waits_post (k + 1) xs n t g w.2)

-- the `take` and `drop` lines

pub handings_quiet : (t : List Line) (l : Line) → ((b : List Line) → handing_at b l ≡ []) → handings (t ++ l ∷ []) ≡ handings t
handings_quiet t l q = handings_more [] t l ∙ rw (q t, append-nil) refl

pub gone_quiet : (n : ℕ) (t : List Line) (l : Line) → ((b : List Line) → handing_at b l ≡ []) → Gone n t → Gone n (t ++ l ∷ [])
gone_quiet n t l q g = let e = handings_quiet t l q in record { never_back = rw e g.never_back; after_posts = rw e g.after_posts; below = rw e g.below }

pub handings_given : (t : List Line) (there : Bool) (s p : ℕ) → handings (t ++ take_or_drop there s p ∷ []) ≡ handings t ++ record { serial = s; process = p; taken = there; before = t } ∷ []
handings_given t there s p = handings_more [] t (take_or_drop there s p) ∙ rw (given_handing there s p t) refl

pub gone_given : (n m : ℕ) (t : List Line) (there : Bool) (s p : ℕ) (g : Target) → n ≤ m → s + 1 ≡ m → Contains t (Post s g) → Gone n t → Gone m (t ++ take_or_drop there s p ∷ [])
gone_given n m t there s p g le e c h = let q = handings_given t there s p in record {
  never_back = rw q (all_pairs_push (λ x y. x.serial ≤ y.serial) (handings t) _ h.never_back (λ k d b. let f = All-get_or (λ x. x.serial < n) (handings t) k d b h.below in omega arith));
  after_posts = rw q (All-push IsAfterPost (handings t) _ h.after_posts (g, c));
  below = rw q (All-push (λ x. x.serial < m) (handings t) _ (All-weaker (λ x. x.serial < n) (λ x. x.serial < m) (λ x f. omega arith) (handings t) h.below) (omega arith));
}

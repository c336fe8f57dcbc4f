-- Each step of the machine keeps the invariant `IsInState` of the machine and its lines.
use Rattle.std.proofs.Common.{ℕ, ◌≡◌, ◌+◌, ◌<◌, ◌==◌, ◌⊎◌, inl, inr, true, false, cond, List, [], ◌∷◌, ◌++◌, length, refl, sym, ap, ◌∙◌, subst, append_assoc, append-nil, arith, map}
use Rattle.std.proofs.lemmas.List.{length_push}
use Rattle.std.specs.List.{All, AllZip, Contains}
use Rattle.std.proofs.lemmas.List.Elements.{All-weaker}
use Rattle.std.proofs.lemmas.Bool.Decides.{nat_tests}
use Rattle.kernel_laws.specs.HandedOn.{Target, ToOne, ToAll, Line, Start, Leave, Post, Halt, Other, Incarnation, is_on, has_incarnation, without, list_after, process_list, posted_serials, handing_at, handings}
use Rattle.kernel_laws.specs.Delivery.{Waiting, DeliveryMachine, initial, take_or_drop, DeliveryStep, starts, leaves, posts, gives_one, begins_walk, walks_on, writes, renumbers, DeliveryRuns, stays, goes_on}
use Rattle.kernel_laws.proofs.Lines.{listed_more, given_list, given_posted}
use Rattle.kernel_laws.proofs.IsInState.{IsBelow, IsPair, Waits, IsGiven, lacking_of, IsInState, posts_other, posts_post, same_listed, lists_start, lists_leave, lists_other, pairs_begin, pairs_start, pairs_leave, pairs_other, waits_more, waits_post, gone_quiet, gone_given}
use Rattle.kernel_laws.proofs.Given.{beyond_quiet, beyond_given, given_more, given_one, given_begin, given_next}

pub lacking_none : (w s : ℕ) → lacking_of w [] s ≡ []
lacking_none w s = elim (s == w) as (λ b. cond {A = List Incarnation} b [] [] ≡ []) [ true ↦ refl | false ↦ refl ]

pub lacking_other : (w : ℕ) (lacking : List Incarnation) (s : ℕ) → s < w → lacking_of w lacking s ≡ []
lacking_other w lacking s h = grind (arith, nat_tests)

pub lacking_own : (w : ℕ) (lacking : List Incarnation) → lacking_of w lacking w ≡ lacking
lacking_own w lacking = grind (arith, nat_tests)

pub below_split : (s n : ℕ) → s < n + 1 → (s < n) ⊎ (s ≡ n)
below_split s n h = grind arith

pub nothing_lacks : (R : Incarnation → Incarnation → Type 0) (coming lacking : List Incarnation) → AllZip R coming lacking → coming ≡ [] → lacking ≡ []
nothing_lacks R [] [] h e = refl
nothing_lacks R [] (i ∷ is) h e = absurd h
nothing_lacks R (x ∷ xs) lacking h e = absurd (cc)

in_state_start : (m : DeliveryMachine) (p : ℕ) (t : List Line) → IsInState m t → IsInState (record m { list = record { process = p; number = m.numbered } ∷ m.list; numbered = m.numbered + 1 }) (t ++ Start p ∷ [])
in_state_start m p t h = record {
  posts = posts_other m.accepted t (Start p) refl h.posts;
  lists = rw (listed_more t (Start p), length_push t (Start p)) (lists_start m.list m.numbered (process_list t) (length t) p h.lists);
  taken = h.taken;
  gone = gone_quiet h.taken t (Start p) (λ b. refl) h.gone;
  waits = waits_more h.taken m.queue m.accepted t (Start p) h.waits;
  lacking = h.lacking;
  pairs = rw (listed_more t (Start p), length_push t (Start p)) (pairs_start m.list m.numbered (process_list t) (length t) p m.coming h.lacking h.pairs);
  are_given = λ s k. given_more t (Start p) s _ (beyond_quiet s (Start p) (λ b. refl)) (h.are_given s k);
  current = h.current;
}

in_state_leave : (m : DeliveryMachine) (p : ℕ) (t : List Line) → IsInState m t → IsInState (record m { list = without m.list p }) (t ++ Leave p ∷ [])
in_state_leave m p t h = record {
  posts = posts_other m.accepted t (Leave p) refl h.posts;
  lists = rw (listed_more t (Leave p), length_push t (Leave p)) (lists_leave m.list m.numbered (process_list t) (length t) p h.lists);
  taken = h.taken;
  gone = gone_quiet h.taken t (Leave p) (λ b. refl) h.gone;
  waits = waits_more h.taken m.queue m.accepted t (Leave p) h.waits;
  lacking = h.lacking;
  pairs = rw (listed_more t (Leave p), length_push t (Leave p)) (pairs_leave m.list m.numbered (process_list t) (length t) p m.coming h.lacking h.pairs);
  are_given = λ s k. given_more t (Leave p) s _ (beyond_quiet s (Leave p) (λ b. refl)) (h.are_given s k);
  current = h.current;
}

in_state_post : (m : DeliveryMachine) (g : Target) (t : List Line) → IsInState m t → IsInState (record m { queue = m.queue ++ record { serial = m.accepted; target = g } ∷ []; accepted = m.accepted + 1 }) (t ++ Post m.accepted g ∷ [])
in_state_post m g t h = let l = Post m.accepted g in record {
  posts = posts_post m.accepted t g h.posts;
  lists = rw (listed_more t l, length_push t l) (lists_other m.list m.numbered (process_list t) (length t) h.lists);
  taken = h.taken;
  gone = gone_quiet h.taken t l (λ b. refl) h.gone;
  waits = waits_post h.taken m.queue m.accepted t g h.waits;
  lacking = h.lacking;
  pairs = rw (listed_more t l, length_push t l) (pairs_other m.list m.numbered (process_list t) (length t) m.coming h.lacking h.pairs);
  are_given = λ s k. given_more t l s _ (beyond_quiet s l (λ b. refl)) (h.are_given s k);
  current = h.current;
}

-- a line about no process and no event
pub record IsAside (l : Line) : Type 0 where
  pub list : (n : ℕ) (list : List Incarnation) → list_after n list l ≡ list
  pub post : posted_serials (l ∷ []) ≡ []
  pub handing : (b : List Line) → handing_at b l ≡ []

pub other_is_aside : IsAside Other
other_is_aside = record { list = λ n list. refl; post = refl; handing = λ b. refl }

pub halt_is_aside : IsAside Halt
halt_is_aside = record { list = λ n list. refl; post = refl; handing = λ b. refl }

pub in_state_aside : (m : DeliveryMachine) (l : Line) (t : List Line) → IsAside l → IsInState m t → IsInState m (t ++ l ∷ [])
in_state_aside m l t a h = record {
  posts = posts_other m.accepted t l a.post h.posts;
  lists = rw (listed_more t l, a.list (length t) (process_list t), length_push t l) (lists_other m.list m.numbered (process_list t) (length t) h.lists);
  taken = h.taken;
  gone = gone_quiet h.taken t l a.handing h.gone;
  waits = waits_more h.taken m.queue m.accepted t l h.waits;
  lacking = h.lacking;
  pairs = rw (listed_more t l, a.list (length t) (process_list t), length_push t l) (pairs_other m.list m.numbered (process_list t) (length t) m.coming h.lacking h.pairs);
  are_given = λ s k. given_more t l s _ (beyond_quiet s l a.handing) (h.are_given s k);
  current = h.current;
}

given_one_more : (m : DeliveryMachine) (s p : ℕ) (t : List Line) (h : IsInState m t) → s ≡ h.taken → Contains t (Post h.taken (ToOne p)) → h.lacking ≡ [] → (r : ℕ) → (r < h.taken) ⊎ (r ≡ h.taken) → IsGiven (t ++ take_or_drop (has_incarnation m.list p) s p ∷ []) r (lacking_of m.walked h.lacking r)
given_one_more m s p t h e c n r (inl k) = given_more t _ r _ (beyond_given r s p (has_incarnation m.list p) (omega arith)) (h.are_given r k)
given_one_more m s p t h e c n r (inr k) = rw (n, lacking_none m.walked r, k, e) (given_one t h.taken p (has_incarnation m.list p) c h.gone.below (same_listed m.list (process_list t) p h.lists.same))

in_state_one : (m : DeliveryMachine) (s p : ℕ) (waiting : List Waiting) (t : List Line) → m.coming ≡ [] → m.queue ≡ record { serial = s; target = ToOne p } ∷ waiting → IsInState m t → IsInState (record m { queue = waiting }) (t ++ take_or_drop (has_incarnation m.list p) s p ∷ [])
in_state_one m s p waiting t c q h =
    let w : (s ≡ h.taken) × Contains t (Post h.taken (ToOne p)) × Waits (h.taken + 1) waiting m.accepted t = subst (λ x. Waits h.taken x m.accepted t) q h.waits in
    let n : h.lacking ≡ [] = nothing_lacks (IsPair m.list m.numbered (process_list t) (length t)) m.coming h.lacking h.pairs c in
    let there = has_incarnation m.list p in
    let l = take_or_drop there s p in
    record {
      posts = posts_other m.accepted t l (given_posted there s p) h.posts;
      lists = rw (listed_more t l, given_list there s p (length t) (process_list t), length_push t l) (lists_other m.list m.numbered (process_list t) (length t) h.lists);
      taken = h.taken + 1;
      gone = gone_given h.taken (h.taken + 1) t there s p (ToOne p) (omega arith) (ap (λ x. x + 1) w.0) (subst (λ x. Contains t (Post x (ToOne p))) (sym w.0) w.1) h.gone;
      waits = waits_more (h.taken + 1) waiting m.accepted t l w.2;
      lacking = h.lacking;
      pairs = rw (listed_more t l, given_list there s p (length t) (process_list t), length_push t l) (pairs_other m.list m.numbered (process_list t) (length t) m.coming h.lacking h.pairs);
      are_given = λ r k. given_one_more m s p t h w.0 w.1 n r (below_split r h.taken k);
      current = λ f. absurd (f c);
    }

given_begin_more : (m : DeliveryMachine) (s : ℕ) (t : List Line) (h : IsInState m t) → s ≡ h.taken → Contains t (Post h.taken ToAll) → h.lacking ≡ [] → (process_list t ≡ [] → ⊥) → (r : ℕ) → (r < h.taken) ⊎ (r ≡ h.taken) → IsGiven t r (lacking_of s (process_list t) r)
given_begin_more m s t h e c n f r (inl k) = let g = h.are_given r k in rw (lacking_other s (process_list t) r (omega arith)) (rw (n, lacking_none m.walked r) at g)
given_begin_more m s t h e c n f r (inr k) = rw (k, e, lacking_own h.taken (process_list t)) (given_begin t h.taken c h.gone.below f)

no_process : (list there : List Incarnation) → map (λ i. i.process) list ≡ map (λ i. i.process) there → (list ≡ [] → ⊥) → there ≡ [] → ⊥
no_process [] there e f g = f refl
no_process (x ∷ list) [] e f g = cc
no_process (x ∷ list) (y ∷ there) e f g = cc

in_state_begin : (m : DeliveryMachine) (s : ℕ) (waiting : List Waiting) (t : List Line) → m.coming ≡ [] → m.queue ≡ record { serial = s; target = ToAll } ∷ waiting → (m.list ≡ [] → ⊥) → IsInState m t → IsInState (record m { queue = waiting; walked = s; coming = m.list }) t
in_state_begin m s waiting t c q f h =
    let w : (s ≡ h.taken) × Contains t (Post h.taken ToAll) × Waits (h.taken + 1) waiting m.accepted t = subst (λ x. Waits h.taken x m.accepted t) q h.waits in
    let n : h.lacking ≡ [] = nothing_lacks (IsPair m.list m.numbered (process_list t) (length t)) m.coming h.lacking h.pairs c in
    record {
      posts = h.posts;
      lists = h.lists;
      taken = h.taken + 1;
      gone = record { never_back = h.gone.never_back; after_posts = h.gone.after_posts; below = All-weaker (λ x. x.serial < h.taken) (λ x. x.serial < h.taken + 1) (λ x k. omega arith) (handings t) h.gone.below };
      waits = w.2;
      lacking = process_list t;
      pairs = pairs_begin m.list m.numbered (process_list t) (length t) h.lists;
      are_given = λ r k. given_begin_more m s t h w.0 w.1 n (no_process m.list (process_list t) h.lists.same f) r (below_split r h.taken k);
      current = λ x. ap (λ y. y + 1) w.0;
    }

given_walk_more : (m : DeliveryMachine) (i j : Incarnation) (lacking : List Incarnation) (t : List Line) (h : IsInState m t) → m.walked + 1 ≡ h.taken → h.lacking ≡ j ∷ lacking → i.process ≡ j.process → is_on m.list i ≡ is_on (process_list t) j → (r : ℕ) → r < h.taken → (r < m.walked) ⊎ (r ≡ m.walked) → IsGiven (t ++ take_or_drop (is_on m.list i) m.walked i.process ∷ []) r (lacking_of m.walked lacking r)
given_walk_more m i j lacking t h w e p o r b (inl k) =
    let g = h.are_given r b in
    rw (lacking_other m.walked lacking r k) (given_more t _ r [] (beyond_given r m.walked i.process (is_on m.list i) k) (rw (lacking_other m.walked h.lacking r k) at g))
given_walk_more m i j lacking t h w e p o r b (inr k) =
    let g : IsGiven t m.walked (lacking_of m.walked h.lacking m.walked) = h.are_given m.walked (omega arith) in
    let g' : IsGiven t m.walked (j ∷ lacking) = subst (λ x. IsGiven t m.walked x) (lacking_own m.walked h.lacking ∙ e) g in
    rw (k, lacking_own m.walked lacking) (given_next t m.walked j lacking (is_on m.list i) i.process p o g')

in_state_walk : (m : DeliveryMachine) (i : Incarnation) (rest : List Incarnation) (t : List Line) → m.coming ≡ i ∷ rest → (h : IsInState m t) → (lacking : List Incarnation) → h.lacking ≡ lacking → AllZip (IsPair m.list m.numbered (process_list t) (length t)) (i ∷ rest) lacking → IsInState (record m { coming = rest }) (t ++ take_or_drop (is_on m.list i) m.walked i.process ∷ [])
in_state_walk m i rest t c h [] e z = absurd z
in_state_walk m i rest t c h (j ∷ lacking) e z =
    let w : m.walked + 1 ≡ h.taken = h.current (λ f. let x : i ∷ rest ≡ [] = sym c ∙ f in (cc)) in
    let there = is_on m.list i in
    let l = take_or_drop there m.walked i.process in
    let g : IsGiven t m.walked (lacking_of m.walked h.lacking m.walked) = h.are_given m.walked (omega arith) in
    record {
      posts = posts_other m.accepted t l (given_posted there m.walked i.process) h.posts;
      lists = rw (listed_more t l, given_list there m.walked i.process (length t) (process_list t), length_push t l) (lists_other m.list m.numbered (process_list t) (length t) h.lists);
      taken = h.taken;
      gone = gone_given h.taken h.taken t there m.walked i.process g.target (omega arith) w g.was_posted h.gone;
      waits = waits_more h.taken m.queue m.accepted t l h.waits;
      lacking = lacking;
      pairs = rw (listed_more t l, given_list there m.walked i.process (length t) (process_list t), length_push t l) (pairs_other m.list m.numbered (process_list t) (length t) rest lacking z.1);
      are_given = λ r k. given_walk_more m i j lacking t h w e z.0.process z.0.same r k (below_split r m.walked (omega arith));
      current = λ f. w;
    }

in_state_numbers : (m : DeliveryMachine) (list : List Incarnation) (n : ℕ) (t : List Line) → m.coming ≡ [] → map (λ i. i.process) list ≡ map (λ i. i.process) m.list → All (IsBelow n) list → IsInState m t → IsInState (record m { list = list; numbered = n }) t
in_state_numbers m list n t c e a h =
    let k : h.lacking ≡ [] = nothing_lacks (IsPair m.list m.numbered (process_list t) (length t)) m.coming h.lacking h.pairs c in
    record {
      posts = h.posts;
      lists = record { same = e ∙ h.lists.same; below = a; before = h.lists.before };
      taken = h.taken;
      gone = h.gone;
      waits = h.waits;
      lacking = h.lacking;
      pairs = rw (c, k) tt;
      are_given = h.are_given;
      current = h.current;
    }

pub in_state_step : (m : DeliveryMachine) (more : List Line) (m' : DeliveryMachine) (t : List Line) → DeliveryStep m more m' → IsInState m t → IsInState m' (t ++ more)
in_state_step m more m' t (starts n p u) h = in_state_start n p t h
in_state_step m more m' t (leaves n p) h = in_state_leave n p t h
in_state_step m more m' t (posts n g) h = in_state_post n g t h
in_state_step m more m' t (gives_one n s p waiting c q) h = in_state_one n s p waiting t c q h
in_state_step m more m' t (begins_walk n s waiting c q f) h = rw append-nil (in_state_begin n s waiting t c q f h)
in_state_step m more m' t (walks_on n i rest c) h = in_state_walk n i rest t c h h.lacking refl (subst (λ x. AllZip (IsPair n.list n.numbered (process_list t) (length t)) x h.lacking) c h.pairs)
in_state_step m more m' t (writes n) h = in_state_aside n Other t other_is_aside h
in_state_step m more m' t (renumbers n list k c e a) h = rw append-nil (in_state_numbers n list k t c e a h)

pub in_state_runs : (m : DeliveryMachine) (t more : List Line) (m' : DeliveryMachine) → DeliveryRuns m more m' → IsInState m t → IsInState m' (t ++ more)
in_state_runs m t more m' stays h = rw append-nil h
in_state_runs m t more m' (goes_on ls n next n' r s) h = rw (← append_assoc) (in_state_step n next n' (t ++ ls) s (in_state_runs m t ls n r h))

pub in_state_at_first : IsInState initial []
in_state_at_first = record {
  posts = record { counted = refl; known = λ s g c. absurd (omega (arith, c.1)); single = λ s g g' c d. absurd (omega (arith, c.1)) };
  lists = record { same = refl; below = λ k d b. absurd (omega arith); before = λ k d b. absurd (omega arith) };
  taken = 0;
  gone = record { never_back = λ i j d a b. absurd (omega arith); after_posts = λ k d b. absurd (omega arith); below = λ k d b. absurd (omega arith) };
  waits = refl;
  lacking = [];
  pairs = tt;
  are_given = λ s k. absurd (omega arith);
  current = λ f. absurd (f refl);
}

-- The search of the sets of one size, step by step.
use Rattle.std.proofs.Common.{◌≡◌, ℕ, zero, suc, ◌+◌, ◌<◌, ◌≤◌, Bool, true, false, List, [], ◌∷◌, ◌++◌, length, length-append, get_or, take, drop, map, append_assoc, append-nil, refl, ap, sym, subst, inl, inr, arith, ◌∙◌, Vec, Global}
use Rattle.std.specs.List.{All, Contains, flat_map}
use Rattle.std.proofs.lemmas.List.{take_more, take_all, get_or-map, length-map, map-append, take-append-drop}
use Rattle.std.proofs.lemmas.List.Concat.{flat_map-append}
use Rattle.std.specs.Bool.{MatchBool}
use Rattle.std.proofs.lemmas.List.Elements.{All-push, Contains-get_or, Contains-append_left, Contains-append_cases, Contains-push_cases}
use Rattle.survey.specs.FaultSet.{IsOnce, IsSet}
use Rattle.survey.specs.Premise.{Runs, OffersAll}
use Rattle.survey.specs.Order.{asleep, before, next_keys}
use Rattle.survey.specs.Breaks.{breaks_of, IsSettled, AreSmallerSettled}
use Rattle.survey.specs.Search.{AddsNode, AreNodesOf, children_of, Course, FitNodes, Grows, HasTried, IsAt, IsKept, IsNodeOf, IsTask, ListsFor, Looks, sets_of}
use Rattle.survey.specs.Turns.{IsPruned, IsWorthRun, Picks, StopsIn, AreListedIn, children}
use Rattle.survey.specs.declared.broken.Broken.{Broken}
use Rattle.survey.specs.declared.level.Level.{Level}
use Rattle.survey.specs.declared.search.Limits.{Limits}
use Rattle.survey.specs.declared.task.Node.{Node}
use Rattle.survey.specs.declared.task.Task.{Task}
use Rattle.survey.proofs.Kept.{settled_grows, lists_grow}
use Rattle.survey.proofs.Order.{asleep_push, awake_once, awake_in, before_place}
use Rattle.survey.proofs.Outcomes.{zip_push}
use Rattle.survey.proofs.Turns.{listed_push, only_of, with_set, picks_append, stops_later, stops_before, grown_same, SameBelow}
use Rattle.survey.proofs.Within.{set_push}

-- one set more was run
pub at_more : (runs : Runs) (course : Course) (done : List (List ℕ)) (level next : Level) (task : Task) → IsAt runs course done level
    → IsTask runs course.size course.goes_on task
    → IsKept runs.bound (length task.set.items) runs.holds runs.claims (breaks_of next.found.items)
    → ListsFor (breaks_of level.found.items) task.set.items (breaks_of next.found.items)
    → IsSettled runs.holds runs.claims (breaks_of next.found.items) task.set.items
    → AddsNode runs.offers task level.nodes.items next.nodes.items
    → next.trials ≡ level.trials + 1 → IsAt runs course (done ++ task.set.items ∷ []) next
at_more runs course done level next task is fits kept lists settled node trials =
    let F = task.set.items in
    let new = map (with_set F) lists.0 in
    let K : ℕ → Type 0 = λ k. IsKept runs.bound k runs.holds runs.claims (breaks_of next.found.items) in
    record {
      smaller = is.smaller;
      kept = subst K fits.of_size kept;
      more = is.more ++ new;
      found = lists.2 ∙ (ap (λ t. t ++ new) is.found ∙ append_assoc course.start is.more new);
      of_size = λ B c at. elim (Contains-append_cases is.more new (B, c) at) [
        | inl old ↦ is.of_size B c old
        | inr other ↦ ap length (only_of F lists.0 B c other) ∙ fits.of_size
      ];
      settled = λ G at. elim (Contains-push_cases done F G at) [
        | inl old ↦
            let s = is.settled G old in
            (s.0, s.1, settled_grows runs.holds runs.claims (breaks_of level.found.items) (breaks_of next.found.items) G (lists_grow (breaks_of level.found.items) (breaks_of next.found.items) F lists) s.2)
        | inr e ↦
            let P : List ℕ → Type 0 = λ t. IsSet runs.bound t × (length t ≡ course.size) × IsSettled runs.holds runs.claims (breaks_of next.found.items) t in
            subst P e (fits.set, fits.of_size, settled)
      ];
      nodes = λ goes.
          let n = node (fits.goes_as ∙ goes) (fits.asleep goes) in
          let P : List Node → Type 0 = λ t. AreNodesOf runs.offers (done ++ F ∷ []) t in
          subst P (sym n.1) (zip_push (IsNodeOf runs.offers) done level.nodes.items F n.0 (is.nodes goes) n.2);
      counted = omega (arith, is.counted, trials, length-append done (F ∷ []));
      order =
          let P : List (List ℕ) → List (List ℕ × ℕ) → Type 0 = λ t b. AreListedIn t b in
          let Q : List (List ℕ) → Type 0 = λ t. AreListedIn t (breaks_of next.found.items) in
          let R : List (List ℕ × ℕ) → Type 0 = λ b. AreListedIn ((course.earlier ++ done) ++ F ∷ []) b in
          subst Q (append_assoc course.earlier done (F ∷ [])) (subst R (sym lists.2) (listed_push (course.earlier ++ done) (breaks_of level.found.items) F lists.0 lists.1 is.order));
    }

-- the task at a place of those that wait
pub task_at : (runs : Runs) (course : Course) (tasks now : List Task) (i : ℕ) (task : Task) → All (IsTask runs course.size course.goes_on) tasks
    → now ≡ tasks → i < length tasks → task ≡ get_or now i task → IsTask runs course.size course.goes_on task × (task ≡ get_or tasks i task)
task_at runs course tasks now i task all same lt is =
    let at : task ≡ get_or tasks i task = is ∙ ap (λ t. get_or t i task) same in
    let P : Task → Type 0 = λ t. IsTask runs course.size course.goes_on t in
    (subst P (sym at) (all i task lt), at)

pub sets_more : (tasks : List Task) (i : ℕ) (task : Task) → i < length tasks → task ≡ get_or tasks i task
    → take (i + 1) (sets_of tasks) ≡ take i (sets_of tasks) ++ task.set.items ∷ []
sets_more tasks i task lt is =
    let f : Task → List ℕ = λ t. t.set.items in
    take_more (sets_of tasks) i task.set.items (omega (arith, length-map tasks f))
    ∙ ap (λ x. take i (sets_of tasks) ++ x ∷ []) (get_or-map f tasks i task task.set.items lt ∙ ap f (sym is))

-- the smaller sets are settled while larger ones are run
pub smaller_here : (runs : Runs) (course : Course) (done : List (List ℕ)) (level : Level) (F : List ℕ) → IsAt runs course done level → length F ≡ course.size
    → AreSmallerSettled runs.bound (length F) runs.holds runs.claims (breaks_of level.found.items)
smaller_here runs course done level F is len G set lt =
    let grows : Grows course.start (breaks_of level.found.items) = λ B c at.
    let P : List (List ℕ × ℕ) → Type 0 = λ t. Contains t (B, c) in
    subst P (sym is.found) (Contains-append_left course.start is.more (B, c) at) in
    settled_grows runs.holds runs.claims course.start (breaks_of level.found.items) G grows (is.smaller G set (omega arith))

-- what waits plays no part
pub at_level : (runs : Runs) (course : Course) (done : List (List ℕ)) (level next : Level) → next.found ≡ level.found → next.trials ≡ level.trials
    → next.nodes ≡ level.nodes → IsAt runs course done level → IsAt runs course done next
at_level runs course done level next found trials nodes is =
    let K : List Broken → Type 0 = λ t. IsKept runs.bound course.size runs.holds runs.claims (breaks_of t) in
    let same : level.found.items ≡ next.found.items = ap (λ (v : Vec Broken Global). v.items) (sym found) in
    let S : List ℕ → List Broken → Type 0 = λ F t. IsSet runs.bound F × (length F ≡ course.size) × IsSettled runs.holds runs.claims (breaks_of t) F in
    let N : List Node → Type 0 = λ t. AreNodesOf runs.offers done t in
    let O : List Broken → Type 0 = λ t. AreListedIn (course.earlier ++ done) (breaks_of t) in
    record {
      smaller = is.smaller;
      kept = subst K same is.kept;
      more = is.more;
      found = sym (ap breaks_of same) ∙ is.found;
      of_size = is.of_size;
      settled = λ F at. let P : List Broken → Type 0 = λ t. S F t in subst P same (is.settled F at);
      nodes = λ goes. subst N (ap (λ (v : Vec Node Global). v.items) (sym nodes)) (is.nodes goes);
      counted = trials ∙ is.counted;
      order = subst O same is.order;
    }

-- after the tasks that waited were run, none waits
pub none_waits : (runs : Runs) (course : Course) (tried done : List (List ℕ)) (old mid next : Level) (i : ℕ)
    → IsAt runs course (done ++ take i (sets_of old.waiting.items)) mid → length (sets_of old.waiting.items) ≤ i → tried ≡ done ++ sets_of old.waiting.items
    → next.found ≡ mid.found → next.trials ≡ mid.trials → next.nodes ≡ mid.nodes → next.waiting.items ≡ [] → HasTried runs course tried next
none_waits runs course tried done old mid next i is all tried_is found trials nodes none =
    let whole : take i (sets_of old.waiting.items) ≡ sets_of old.waiting.items = take_all i (sets_of old.waiting.items) all in
    let P : List (List ℕ) → Type 0 = λ t. IsAt runs course t next in
    let Q : List Task → Type 0 = λ t. (tried ≡ tried ++ sets_of t) × All (IsTask runs course.size course.goes_on) t in
    let rest = subst Q (sym none) (sym (append-nil tried), λ k d lt. absurd (omega arith)) in (
      tried,
      subst P (ap (λ t. done ++ t) whole ∙ sym tried_is) (at_level runs course (done ++ take i (sets_of old.waiting.items)) mid next found trials nodes is),
      rest.0,
      rest.1,
    )

-- a task that waits is tried
pub waits_more : (runs : Runs) (course : Course) (tried : List (List ℕ)) (old next : Level) (task : Task) → next.found ≡ old.found → next.trials ≡ old.trials
    → next.nodes ≡ old.nodes → next.waiting.items ≡ old.waiting.items ++ task ∷ [] → IsTask runs course.size course.goes_on task
    → HasTried runs course tried old → HasTried runs course (tried ++ task.set.items ∷ []) next
waits_more runs course tried old next task found trials nodes waiting fits has =
    let P : List Task → Type 0 = λ t. All (IsTask runs course.size course.goes_on) t in (
      has.0,
      at_level runs course has.0 old next found trials nodes has.1,
      ap (λ t. t ++ task.set.items ∷ []) has.2 ∙ (append_assoc has.0 (sets_of old.waiting.items) (task.set.items ∷ [])
          ∙ ap (λ t. has.0 ++ t) (sym (sets_push old.waiting.items task) ∙ sym (ap sets_of waiting))),
      subst P (sym waiting) (All-push (IsTask runs course.size course.goes_on) old.waiting.items task has.3 fits),
    )
  where
    sets_push : (tasks : List Task) (t : Task) → sets_of (tasks ++ t ∷ []) ≡ sets_of tasks ++ t.set.items ∷ []
    sets_push [] t = refl
    sets_push (x ∷ tasks) t = ap (λ s. x.set.items ∷ s) (sets_push tasks t)

-- what was found by this size doesn't tell which of its sets are worth a run
pub now_same : (runs : Runs) (course : Course) (done : List (List ℕ)) (level : Level) → IsAt runs course done level
    → SameBelow (course.size + 1) course.start (breaks_of level.found.items)
now_same runs course done level is =
    let P : List (List ℕ × ℕ) → Type 0 = λ t. SameBelow (course.size + 1) course.start t in
    subst P (sym is.found) (grown_same course.size course.start is.more (λ B c at. let l = is.of_size B c at in omega arith))

-- a pruned set was pruned from the start
pub pruned_from_start : (runs : Runs) (course : Course) (done : List (List ℕ)) (level : Level) (F : List ℕ) → IsAt runs course done level → length F ≡ course.size
    → IsPruned runs.claims (breaks_of level.found.items) F → IsPruned runs.claims course.start F
pruned_from_start runs course done level F is len pruned c lt = (now_same runs course done level is F (omega arith) c).1 (pruned c lt)

pub worth_from_start : (runs : Runs) (course : Course) (done : List (List ℕ)) (level : Level) (F : List ℕ) → IsAt runs course done level → length F ≡ course.size
    → IsWorthRun runs.claims (breaks_of level.found.items) F → IsWorthRun runs.claims course.start F
worth_from_start runs course done level F is len worth = (worth.0, worth.1, λ has. worth.2 ((now_same runs course done level is F (omega arith) worth.0).0 has))

-- the children of a node, up to a place
pub children_more : (F next : List ℕ) (i : ℕ) → i < length next
    → map (λ k. F ++ k ∷ []) (take (i + 1) next) ≡ map (λ k. F ++ k ∷ []) (take i next) ++ (F ++ get_or next i 0 ∷ []) ∷ []
children_more F next i lt = ap (map (λ k. F ++ k ∷ [])) (take_more next i 0 lt) ∙ map_push (take i next) (get_or next i 0)
  where
    map_push : (ks : List ℕ) (k : ℕ) → map (λ j. F ++ j ∷ []) (ks ++ k ∷ []) ≡ map (λ j. F ++ j ∷ []) ks ++ (F ++ k ∷ []) ∷ []
    map_push [] k = refl
    map_push (x ∷ ks) k = ap (λ t. (F ++ x ∷ []) ∷ t) (map_push ks k)

-- the task of a child fits
pub child_fits : (runs : Runs) (all : OffersAll runs) (course : Course) (goes_on : Bool) (node : Node) (i : ℕ) (task : Task)
    → FitNodes runs goes_on (node ∷ []) course → i < length node.next.items
    → task.set.items ≡ node.set.items ++ get_or node.next.items i 0 ∷ []
    → (goes_on ≡ true → task.asleep.items ≡ node.asleep.items ++ take i node.next.items) → task.goes_on ≡ goes_on
    → IsTask runs course.size course.goes_on task
child_fits runs all course goes_on node i task fits lt set asleep_is goes =
    let n = fits.1 0 node (omega arith) in
    let F = node.set.items in
    let k = get_or node.next.items i 0 in
    let next : node.next.items ≡ next_keys runs.offers F = n.0.next in
    let at : Contains node.next.items k = Contains-get_or node.next.items i 0 lt in
    let C : List ℕ → Type 0 = λ t. Contains t k in
    let offered : Contains (runs.offers F) k = awake_in (asleep runs.offers F) (runs.offers F) k (subst C next at) in
    let fresh = all.fresh F k offered in
    let S : List ℕ → Type 0 = λ t. IsSet runs.bound t in
    let O : List ℕ → Type 0 = λ t. IsOnce t in
    let once : IsOnce node.next.items = subst O (sym next) (awake_once (asleep runs.offers F) (runs.offers F) (all.once F)) in
    record {
      set = subst S (sym set) (set_push runs.bound F k n.1 fresh.0 fresh.1);
      of_size = omega (arith, ap length set, length-append F (k ∷ []), n.2);
      goes_as = goes ∙ fits.0;
      asleep = λ on.
          asleep_is (fits.0 ∙ on) ∙ (ap (λ t. t ++ take i node.next.items) n.0.asleep
          ∙ (ap (λ t. asleep runs.offers F ++ t) (sym (before_place node.next.items i once lt) ∙ ap (λ t. before k t) next)
          ∙ (sym (asleep_push runs.offers F k) ∙ ap (asleep runs.offers) (sym set))));
    }

-- One look after another.
pub looks_none : (runs : Runs) (limits : Limits) (Fits : Course → Type 0) (level : Level) → Looks runs limits Fits [] level true level
looks_none runs limits Fits level course tried has fits =
    let P : List (List ℕ) → Type 0 = λ t. HasTried runs course t level in
    ([], subst P (sym (append-nil tried)) has, refl)

pub looks_more : (runs : Runs) (limits : Limits) (Fits Fit : Course → Type 0) (xs ys : List (List ℕ)) (old mid new : Level)
    → ((course : Course) → Fits course → Fit course) → Looks runs limits Fits xs old true mid → Looks runs limits Fit ys mid true new
    → Looks runs limits Fits (xs ++ ys) old true new
looks_more runs limits Fits Fit xs ys old mid new turn first second course tried has fits =
    let a = first course tried has fits in
    let b = second course (tried ++ a.0) a.1 (turn course fits) in
    let P : List (List ℕ) → Type 0 = λ t. HasTried runs course t new in
    (a.0 ++ b.0, subst P (append_assoc tried a.0 b.0) b.1, picks_append runs.claims course.start xs ys a.0 b.0 a.2 b.2)

pub looks_stop : (runs : Runs) (limits : Limits) (Fits Fit : Course → Type 0) (xs ys zs : List (List ℕ)) (old mid new : Level)
    → ((course : Course) → Fits course → Fit course) → Looks runs limits Fits xs old true mid → Looks runs limits Fit ys mid false new
    → Looks runs limits Fits ((xs ++ ys) ++ zs) old false new
looks_stop runs limits Fits Fit xs ys zs old mid new turn first second course tried has fits =
    let a = first course tried has fits in
    let b = second course (tried ++ a.0) a.1 (turn course fits) in
    let P : List (List ℕ) → Type 0 = λ t. HasTried runs course t new in (
      a.0 ++ b.0,
      subst P (append_assoc tried a.0 b.0) b.1,
      (stops_before runs.claims course.start (xs ++ ys) zs (a.0 ++ b.0) (stops_later runs.claims course.start xs ys a.0 b.0 a.2 b.2.0), b.2.1),
    )

pub looks_same : (runs : Runs) (limits : Limits) (Fits : Course → Type 0) (xs ys : List (List ℕ)) (old new : Level) (more : Bool)
    → ((course : Course) → Fits course → xs ≡ ys) → Looks runs limits Fits xs old more new → Looks runs limits Fits ys old more new
looks_same runs limits Fits xs ys old new more same looks course tried has fits =
    let P : List (List ℕ) → Type 0 = λ t. (picked : List (List ℕ)) × HasTried runs course (tried ++ picked) new
    × MatchBool more (Picks runs.claims course.start t picked)
    (StopsIn runs.claims course.start t picked × (new.trials + length new.waiting.items ≡ limits.trials)) in
    subst P (same course fits) (looks course tried has fits)

-- all children of a node come from those up to a place and the others
pub children_split : (F next : List ℕ) (i : ℕ) → i < length next
    → map (λ k. F ++ k ∷ []) next ≡ (map (λ k. F ++ k ∷ []) (take i next) ++ (F ++ get_or next i 0 ∷ []) ∷ []) ++ map (λ k. F ++ k ∷ []) (drop (i + 1) next)
children_split F next i lt =
    ap (map (λ k. F ++ k ∷ [])) (sym (take-append-drop (i + 1) next))
    ∙ (map-append (λ k. F ++ k ∷ []) (take (i + 1) next) (drop (i + 1) next)
    ∙ ap (λ t. t ++ map (λ k. F ++ k ∷ []) (drop (i + 1) next)) (children_more F next i lt))

pub node_children : (runs : Runs) (goes_on : Bool) (node : Node) (course : Course) → FitNodes runs goes_on (node ∷ []) course
    → map (λ k. node.set.items ++ k ∷ []) node.next.items ≡ children (next_keys runs.offers) node.set.items
node_children runs goes_on node course fits =
    let n = fits.1 0 node (omega arith) in
    ap (map (λ k. node.set.items ++ k ∷ [])) n.0.next

-- the nodes up to a place, and the others
pub nodes_more : (offers : List ℕ → List ℕ) (nodes : List Node) (i : ℕ) (node : Node) → i < length nodes → node ≡ get_or nodes i node
    → children_of offers (take (i + 1) nodes) ≡ children_of offers (take i nodes) ++ children (next_keys offers) node.set.items
nodes_more offers nodes i node lt is =
    let f : Node → List (List ℕ) = λ n. children (next_keys offers) n.set.items in
    ap (flat_map f) (take_more nodes i node lt ∙ ap (λ x. take i nodes ++ x ∷ []) (sym is))
    ∙ (flat_map-append f (take i nodes) (node ∷ []) ∙ ap (λ t. flat_map f (take i nodes) ++ t) (append-nil (f node)))

pub nodes_split : (offers : List ℕ → List ℕ) (nodes : List Node) (i : ℕ) (node : Node) → i < length nodes → node ≡ get_or nodes i node
    → children_of offers nodes ≡ (children_of offers (take i nodes) ++ children (next_keys offers) node.set.items) ++ children_of offers (drop (i + 1) nodes)
nodes_split offers nodes i node lt is =
    let f : Node → List (List ℕ) = λ n. children (next_keys offers) n.set.items in
    ap (flat_map f) (sym (take-append-drop (i + 1) nodes))
    ∙ (flat_map-append f (take (i + 1) nodes) (drop (i + 1) nodes)
    ∙ ap (λ t. t ++ flat_map f (drop (i + 1) nodes)) (nodes_more offers nodes i node lt is))

-- one of the nodes fits
pub node_fits : (runs : Runs) (goes_on : Bool) (nodes : List Node) (i : ℕ) (node : Node) → i < length nodes → node ≡ get_or nodes i node
    → (course : Course) → FitNodes runs goes_on nodes course → FitNodes runs goes_on (node ∷ []) course
node_fits runs goes_on nodes i node lt is course fits =
    let R : Node → Type 0 = λ n. IsNodeOf runs.offers n.set.items n × IsSet runs.bound n.set.items × (length n.set.items + 1 ≡ course.size) in
    (fits.0, only R node (subst R (sym is) (fits.1 i node lt)))
  where
    only : (R : Node → Type 0) (n : Node) → R n → All R (n ∷ [])
    only R n r zero d lt = r
    only R n r (suc k) d lt = absurd (omega arith)

-- One set.
pub looks_pruned : (runs : Runs) (limits : Limits) (course : Course) (tried : List (List ℕ)) (level : Level) (task : Task) → HasTried runs course tried level
    → IsTask runs course.size course.goes_on task → IsPruned runs.claims (breaks_of level.found.items) task.set.items
    → (picked : List (List ℕ)) × HasTried runs course (tried ++ picked) level × Picks runs.claims course.start (task.set.items ∷ []) picked
looks_pruned runs limits course tried level task has fits pruned =
    let P : List (List ℕ) → Type 0 = λ t. HasTried runs course t level in
    ([], subst P (sym (append-nil tried)) has, inl (pruned_from_start runs course has.0 level task.set.items has.1 fits.of_size pruned, refl))

pub looks_full : (runs : Runs) (limits : Limits) (course : Course) (tried : List (List ℕ)) (level : Level) (task : Task) → HasTried runs course tried level
    → IsTask runs course.size course.goes_on task → IsWorthRun runs.claims (breaks_of level.found.items) task.set.items
    → level.trials + length level.waiting.items ≡ limits.trials
    → (picked : List (List ℕ)) × HasTried runs course (tried ++ picked) level
    × (StopsIn runs.claims course.start (task.set.items ∷ []) picked × (level.trials + length level.waiting.items ≡ limits.trials))
looks_full runs limits course tried level task has fits worth full =
    let P : List (List ℕ) → Type 0 = λ t. HasTried runs course t level in (
      [],
      subst P (sym (append-nil tried)) has,
      (([], task.set.items, [], refl, worth_from_start runs course has.0 level task.set.items has.1 fits.of_size worth, refl), full),
    )

pub looks_taken : (runs : Runs) (limits : Limits) (course : Course) (tried : List (List ℕ)) (level next : Level) (task : Task) → HasTried runs course tried level
    → IsTask runs course.size course.goes_on task → IsWorthRun runs.claims (breaks_of level.found.items) task.set.items
    → HasTried runs course (tried ++ task.set.items ∷ []) next
    → (picked : List (List ℕ)) × HasTried runs course (tried ++ picked) next × Picks runs.claims course.start (task.set.items ∷ []) picked
looks_taken runs limits course tried level next task has fits worth after =
    (task.set.items ∷ [], after, inr (worth_from_start runs course has.0 level task.set.items has.1 fits.of_size worth, [], refl, refl))

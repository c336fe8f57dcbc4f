-- From one size to the next, and to the survey.
use Rattle.std.proofs.Common.{◌≡◌, ℕ, zero, suc, ◌+◌, ◌<◌, ◌≤◌, Bool, true, false, List, [], ◌∷◌, ◌++◌, length, length-append, append-nil, refl, ap, sym, subst, inl, inr, arith, ◌∙◌}
use Rattle.std.specs.Bool.{MatchBool}
use Rattle.std.specs.List.{All, Contains, flat_map}
use Rattle.std.proofs.lemmas.List.Elements.{Contains-append_left}
use Rattle.survey.specs.FaultSet.{IsSet}
use Rattle.survey.specs.Premise.{Runs, OffersAll}
use Rattle.survey.specs.Order.{IsNode, asleep, next_keys}
use Rattle.survey.specs.Breaks.{breaks_of, IsSettled}
use Rattle.survey.specs.Search.{AreNodesOf, children_of, Course, EndsSize, Grows, HasTried, IsAt, IsBetween, IsBetweenNodes, IsFirst, IsKept, IsNodeOf, IsTask, sets_of, survey_of}
use Rattle.survey.specs.Survey.{IsSurvey}
use Rattle.survey.specs.Turns.{Picks, StopsIn, AreListedIn, AreSetsOfSize, AreTried, children}
use Rattle.survey.specs.declared.level.Level.{Level}
use Rattle.survey.specs.declared.search.Limits.{Limits}
use Rattle.survey.specs.declared.task.Node.{Node}
use Rattle.survey.specs.declared.task.Task.{Task}
use Rattle.survey.proofs.Kept.{settled_grows, pruned_settled, keep_none, keep_weaker, smaller_grows}
use Rattle.survey.proofs.Nodes.{nodes_settle}
use Rattle.survey.proofs.Order.{each_has_node}
use Rattle.survey.proofs.Rising.{below_or_at}
use Rattle.survey.proofs.Turns.{here, later, picked_or_pruned, sets_size, SameBelow, picks_same, stops_same, sizes_same, tried_same, next_nodes}
use Rattle.survey.proofs.Course.{now_same}

-- the course of the search of a size
abbrev pub course_of : (runs : Runs) (size : ℕ) (sets : List (List ℕ)) (goes_on : Bool) (level : Level) → IsBetween runs size sets level → Course
course_of runs size sets goes_on level b = record { size = size; goes_on = goes_on; earlier = b.earlier; start = breaks_of level.found.items }

no_tasks : (runs : Runs) (course : Course) (tasks : List Task) → tasks ≡ [] → All (IsTask runs course.size course.goes_on) tasks
no_tasks runs course tasks none =
    let P : List Task → Type 0 = λ t. All (IsTask runs course.size course.goes_on) t in
    subst P (sym none) (λ k d lt. absurd (omega arith))

pub begin : (runs : Runs) (size : ℕ) (sets : List (List ℕ)) (goes_on : Bool) (level next : Level) → (b : IsBetween runs size sets level)
    → next.found ≡ level.found → next.trials ≡ level.trials → next.waiting ≡ level.waiting → next.nodes.items ≡ []
    → HasTried runs (course_of runs size sets goes_on level b) [] next
begin runs size sets goes_on level next b found trials waiting nodes =
    let breaks = breaks_of level.found.items in
    let same : breaks ≡ breaks_of next.found.items = ap (λ v. breaks_of v.items) (sym found) in
    let K : List (List ℕ × ℕ) → Type 0 = λ t. IsKept runs.bound size runs.holds runs.claims t in
    let O : List (List ℕ × ℕ) → Type 0 = λ t. AreListedIn b.earlier t in
    let E : List (List ℕ) → Type 0 = λ t. AreListedIn t (breaks_of next.found.items) in
    let N : List Node → Type 0 = λ t. AreNodesOf runs.offers [] t in
    let none : next.waiting.items ≡ [] = ap (λ v. v.items) waiting ∙ b.none in (
      [],
      record {
        smaller = b.smaller;
        kept = subst K same (b.kept size (omega arith));
        more = [];
        found = sym same ∙ sym (append-nil breaks);
        of_size = λ B c at. absurd (omega arith);
        settled = λ F at. absurd (omega arith);
        nodes = λ goes. subst N (sym nodes) tt;
        counted = omega (arith, trials, b.counted);
        order = subst E (sym (append-nil b.earlier)) (subst O same b.order);
      },
      sym (ap sets_of none),
      no_tasks runs (course_of runs size sets goes_on level b) next.waiting.items none,
    )

pub no_wait : (runs : Runs) (course : Course) (tried : List (List ℕ)) (level : Level) → HasTried runs course tried level → level.waiting.items ≡ []
    → IsAt runs course tried level
no_wait runs course tried level has none =
    let P : List (List ℕ) → Type 0 = λ t. IsAt runs course t level in
    subst P (sym (has.2 ∙ (ap (λ t. has.0 ++ sets_of t) none ∙ append-nil has.0))) has.1

module _ (runs : Runs) (all : OffersAll runs) (size : ℕ) (sets : List (List ℕ)) (goes_on : Bool) (level next : Level) (b : IsBetween runs size sets level)
    (picked : List (List ℕ)) (is : IsAt runs (course_of runs size sets goes_on level b) picked next) where
  abbrev start : List (List ℕ × ℕ)
  start = breaks_of level.found.items

  abbrev now : List (List ℕ × ℕ)
  now = breaks_of next.found.items

  abbrev keys : List ℕ → List ℕ
  keys = next_keys runs.offers

  grows : Grows start now
  grows B c at = let P : List (List ℕ × ℕ) → Type 0 = λ t. Contains t (B, c) in subst P (sym is.found) (Contains-append_left start is.more (B, c) at)

  same : SameBelow (size + 1) start now
  same = now_same runs (course_of runs size sets goes_on level b) picked next is

  -- nodes of fewer faults, and those of this size
  node_settled : Picks runs.claims start sets picked → (F : List ℕ) → IsNode keys F → IsSet runs.bound F → length F < size + 1
      → IsSettled runs.holds runs.claims now F
  node_settled p F node set less =
      elim (below_or_at (length F) size (omega arith)) [
        | inl lt ↦ settled_grows runs.holds runs.claims start now F grows (b.smaller F set lt)
        | inr e ↦ elim (b.all F node set e) [
          | inl pruned ↦ settled_grows runs.holds runs.claims start now F grows (pruned_settled runs.holds runs.claims start F pruned)
          | inr at ↦ elim (picked_or_pruned runs.claims start sets picked F p at) [
            | inl pruned ↦ settled_grows runs.holds runs.claims start now F grows (pruned_settled runs.holds runs.claims start F pruned)
            | inr one ↦ (is.settled F one).2
          ]
        ]
      ]

  small : (F : List ℕ) → Contains sets F → length F < size + 1
  small F at = let l = sets_size runs.claims start keys size sets F b.of_size at in omega arith

  pub ended : Picks runs.claims start sets picked → next.waiting.items ≡ [] → IsBetween runs (size + 1) (flat_map (children keys) picked) next
  ended p none = record {
    smaller = nodes_settle runs.bound keys runs.holds runs.claims now (size + 1) (each_has_node runs all) (node_settled p);
    kept = λ k le. keep_weaker runs.bound size k runs.holds runs.claims now (omega arith) is.kept;
    earlier = b.earlier ++ picked;
    tried =
        let A : ℕ → Type 0 = λ m. AreTried keys runs.claims now m (b.earlier ++ picked) in
        subst A (suc_is size) (
          b.earlier,
          sets,
          picked,
          tried_same runs.claims start now keys size b.earlier (λ F lt c. same F (omega arith) c) b.tried,
          sizes_same runs.claims start now keys size sets (λ F lt c. same F (omega arith) c) b.of_size,
          picks_same runs.claims start now (size + 1) same sets picked small p,
          refl,
        );
    counted = omega (arith, is.counted, length-append b.earlier picked);
    order = is.order;
    of_size =
        let S : ℕ → Type 0 = λ m. AreSetsOfSize keys runs.claims now m (flat_map (children keys) picked) in
        subst S (suc_is size) (
          sets,
          picked,
          sizes_same runs.claims start now keys size sets (λ F lt c. same F (omega arith) c) b.of_size,
          picks_same runs.claims start now (size + 1) same sets picked small p,
          refl,
        );
    all = next_nodes runs.bound keys runs.claims start now size sets picked grows b.all p;
    none = none;
  }
    where
      suc_is : (m : ℕ) → suc m ≡ m + 1
      suc_is m = omega arith

  pub stopped : (limits : Limits) → StopsIn runs.claims start sets picked → size ≤ limits.faults → next.trials ≡ limits.trials
      → IsSurvey runs limits (survey_of next size)
  stopped limits s few full =
      let kept = keep_weaker runs.bound size limits.faults runs.holds runs.claims now few is.kept in
      record {
        complete = smaller_grows runs.bound size runs.holds runs.claims start now grows b.smaller;
        sound = kept.sound;
        minimal = kept.minimal;
        once = kept.once;
        tried = b.earlier ++ picked;
        covered = inr (
          few,
          full,
          (
            b.earlier,
            sets,
            picked,
            tried_same runs.claims start now keys size b.earlier (λ F lt c. same F (omega arith) c) b.tried,
            sizes_same runs.claims start now keys size sets (λ F lt c. same F (omega arith) c) b.of_size,
            stops_same runs.claims start now (size + 1) same sets picked small s,
            refl,
          ),
        );
        count = is.counted ∙ sym (length-append b.earlier picked);
        order = is.order;
        limit = omega (arith, full);
      }

-- the nodes that are kept
children_are : (offers : List ℕ → List ℕ) (sets : List (List ℕ)) (nodes : List Node) → AreNodesOf offers sets nodes
    → flat_map (children (next_keys offers)) sets ≡ children_of offers nodes
children_are offers [] [] are = refl
children_are offers [] (node ∷ nodes) are = absurd are
children_are offers (F ∷ sets) [] are = absurd are
children_are offers (F ∷ sets) (node ∷ nodes) are =
    let f = children (next_keys offers) in
    ap (λ t. f t ++ flat_map f sets) (sym are.0.set) ∙ ap (λ t. f node.set.items ++ t) (children_are offers sets nodes are.1)

nodes_are : (offers : List ℕ → List ℕ) (P : List ℕ → Type 0) (sets : List (List ℕ)) (nodes : List Node) → AreNodesOf offers sets nodes
    → ((F : List ℕ) → Contains sets F → P F) → All (λ node. IsNodeOf offers node.set.items node × P node.set.items) nodes
nodes_are offers P [] [] are each k d lt = absurd (omega arith)
nodes_are offers P [] (node ∷ nodes) are each k d lt = absurd are
nodes_are offers P (F ∷ sets) [] are each k d lt = absurd are
nodes_are offers P (F ∷ sets) (node ∷ nodes) are each zero d lt =
    let Q : List ℕ → Type 0 = λ t. IsNodeOf offers t node × P t in
    subst Q (sym are.0.set) (are.0, each F (here F sets))
nodes_are offers P (F ∷ sets) (node ∷ nodes) are each (suc k) d lt =
    nodes_are offers P sets nodes are.1 (λ G at. each G (later F G sets at)) k d (omega arith)

pub between_nodes : (runs : Runs) (size : ℕ) (sets : List (List ℕ)) (level next : Level) (b : IsBetween runs size sets level) (picked : List (List ℕ))
    → IsAt runs (course_of runs size sets true level b) picked next → IsBetween runs (size + 1) (flat_map (children (next_keys runs.offers)) picked) next
    → IsBetweenNodes runs (size + 1) next
between_nodes runs size sets level next b picked is after =
    let nodes = is.nodes refl in
    let P : List (List ℕ) → Type 0 = λ t. IsBetween runs (size + 1) t next in
    let each = nodes_are runs.offers (λ F. IsSet runs.bound F × (length F + 1 ≡ size + 1)) picked next.nodes.items nodes
    (λ F at. let s = is.settled F at in (s.0, omega (arith, s.1))) in
    record {
      between = subst P (children_are runs.offers picked next.nodes.items nodes) after;
      nodes = λ k d lt. let e = each k d lt in (e.0, e.1.0, e.1.1);
    }

pub survey_done : (runs : Runs) (limits : Limits) (size : ℕ) (sets : List (List ℕ)) (level : Level) → IsBetween runs (size + 1) sets level → size ≡ limits.faults
    → level.trials ≤ limits.trials → IsSurvey runs limits (survey_of level (size + 1))
survey_done runs limits size sets level b same limit =
    let kept = b.kept limits.faults (omega (arith, same)) in
    record {
      complete = b.smaller;
      sound = kept.sound;
      minimal = kept.minimal;
      once = kept.once;
      tried = b.earlier;
      covered = inl (omega (arith, same), b.tried);
      count = b.counted;
      order = b.order;
      limit = limit;
    }

pub end_size : (runs : Runs) → OffersAll runs → (limits : Limits) (size : ℕ) (sets : List (List ℕ)) (goes_on more : Bool) (level next : Level)
    → (b : IsBetween runs size sets level) (picked : List (List ℕ)) → HasTried runs (course_of runs size sets goes_on level b) picked next
    → next.waiting.items ≡ [] → MatchBool more (Picks runs.claims (breaks_of level.found.items) sets picked)
    (StopsIn runs.claims (breaks_of level.found.items) sets picked × (next.trials ≡ limits.trials))
    → next.trials ≤ limits.trials → (size < limits.faults → goes_on ≡ true) → EndsSize runs limits size more next
end_size runs all limits size sets goes_on true level next b picked has none p limit goes =
    let is = no_wait runs (course_of runs size sets goes_on level b) picked next has none in
    let after = ended runs all size sets goes_on level next b picked is p none in
    record {
      limit = limit;
      goes_on = λ on less.
          let C : Bool → Type 0 = λ t. IsAt runs (course_of runs size sets t level b) picked next in
          between_nodes runs size sets level next b picked (subst C (goes less) is) after;
      ends = λ on same. survey_done runs limits size (flat_map (children (next_keys runs.offers)) picked) next after same limit;
      stops = λ off few. absurd (cc);
    }
end_size runs all limits size sets goes_on false level next b picked has none p limit goes =
    let is = no_wait runs (course_of runs size sets goes_on level b) picked next has none in
    record {
      limit = limit;
      goes_on = λ on less. absurd (cc);
      ends = λ on same. absurd (cc);
      stops = λ off few. stopped runs all size sets goes_on level next b picked is limits p.0 few p.1;
    }

-- before the first run
pub first_between : (runs : Runs) (level : Level) → IsFirst level → IsBetween runs 0 ([] ∷ []) level
first_between runs level is =
    let none : breaks_of level.found.items ≡ [] = ap breaks_of is.found in
    let K : List (List ℕ × ℕ) → Type 0 = λ t. (k : ℕ) → IsKept runs.bound k runs.holds runs.claims t in
    record {
      smaller = λ F set lt. absurd (omega arith);
      kept = λ k le. subst K (sym none) (λ j. keep_none runs.bound j runs.holds runs.claims) k;
      earlier = [];
      tried = refl;
      counted = is.trials;
      order = none;
      of_size = refl;
      all = λ F node set len. let C : List ℕ → Type 0 = λ t. Contains ([] ∷ []) t in inr (subst C (sym (empty F len)) (here [] []));
      none = is.waiting;
    }
  where
    empty : (F : List ℕ) → length F ≡ 0 → F ≡ []
    empty [] len = refl
    empty (x ∷ F) len = absurd (omega arith)

pub first_task : (runs : Runs) (level : Level) (b : IsBetween runs 0 ([] ∷ []) level) (goes_on : Bool) (task : Task) → task.set.items ≡ [] → task.asleep.items ≡ []
    → task.goes_on ≡ goes_on → IsTask runs 0 goes_on task
first_task runs level b goes_on task set sleeps goes =
    let S : List ℕ → Type 0 = λ t. IsSet runs.bound t in
    record {
      set = subst S (sym set) tt;
      of_size = ap length set;
      goes_as = goes;
      asleep = λ on. sleeps ∙ ap (asleep runs.offers) (sym set);
    }

-- The state of a search between two sets.
use Rattle.std.specs.Prelude.{◌≡◌, ℕ, ◌+◌, ◌<◌, ◌≤◌, ◌⊎◌, Bool, true, false, List, [], ◌∷◌, ◌++◌, length, map, Vec, Result, IfOk}
use Rattle.std.specs.Borrow.{Bor}
use Rattle.std.specs.Global.{Global}
use Rattle.std.specs.Bool.{MatchBool}
use Rattle.std.specs.List.{All, AllZip, Contains, flat_map}
use Rattle.std.specs.declared.alloc.AllocError.{AllocError}
use Rattle.survey.specs.FaultSet.{IsSet}
use Rattle.survey.specs.Answers.{AreAnswers}
use Rattle.survey.specs.Breaks.{breaks_of, HasBreak, IsSettled, AreSmallerSettled, IsSound, IsMinimal, IsListedOnce}
use Rattle.survey.specs.Order.{IsNode, asleep, next_keys}
use Rattle.survey.specs.Premise.{Runs}
use Rattle.survey.specs.Turns.{IsPruned, Picks, StopsIn, IsRising, AreListedIn, AreTried, AreSetsOfSize, children}
use Rattle.survey.specs.declared.task.Node.{Node}
use Rattle.survey.specs.declared.task.Task.{Task}
use Rattle.survey.specs.declared.task.Outcome.{Outcome}
use Rattle.survey.specs.declared.level.Level.{Level}
use Rattle.survey.specs.declared.search.Limits.{Limits}
use Rattle.survey.specs.declared.broken.Survey.{Survey}
use Rattle.survey.specs.Survey.{IsSurvey}

-- the breaks found so far
pub record IsKept (n k : ℕ) (holds : List ℕ → ℕ → Bool) (claims : ℕ) (breaks : List (List ℕ × ℕ)) : Type 0 where
  pub sound : IsSound n k holds claims breaks
  pub minimal : IsMinimal n holds breaks
  pub once : IsListedOnce breaks

-- what was listed stays listed
abbrev pub Grows : List (List ℕ × ℕ) → List (List ℕ × ℕ) → Type 0
Grows breaks more = (B : List ℕ) (c : ℕ) → Contains breaks (B, c) → Contains more (B, c)

-- F is listed for the claim, if no set within it was
abbrev pub AddsBreak : List (List ℕ × ℕ) → List ℕ → ℕ → List (List ℕ × ℕ) → Type 0
AddsBreak breaks F c more = (HasBreak breaks F c × (more ≡ breaks)) ⊎
    ((HasBreak breaks F c → ⊥) × (more ≡ breaks ++ (F, c) ∷ []))

-- F is listed for some claims, in their order
abbrev pub ListsFor : List (List ℕ × ℕ) → List ℕ → List (List ℕ × ℕ) → Type 0
ListsFor breaks F more = (cs : List ℕ) × IsRising cs × (more ≡ breaks ++ map (λ c. (F, c)) cs)

-- the sets of some tasks
abbrev pub sets_of : List Task → List (List ℕ)
sets_of tasks = map (λ t. t.set.items) tasks

-- a task of a search of this size; if it goes on to the next size, it knows which keys are asleep
pub record IsTask (runs : Runs) (size : ℕ) (goes_on : Bool) (task : Task) : Type 0 where
  pub set : IsSet runs.bound task.set.items
  pub of_size : length task.set.items ≡ size
  pub goes_as : task.goes_on ≡ goes_on
  pub asleep : goes_on ≡ true → task.asleep.items ≡ asleep runs.offers task.set.items

-- what a run with the set of a task answers
abbrev pub IsOutcome : Runs → Task → Outcome → Type 0
IsOutcome runs task outcome = AreAnswers (runs.holds task.set.items) runs.claims outcome.answers.items
    × (task.goes_on ≡ true → outcome.offers.items ≡ runs.offers task.set.items)

abbrev pub AreOutcomes : Runs → List Task → List Outcome → Type 0
AreOutcomes runs tasks outcomes = AllZip (IsOutcome runs) tasks outcomes

-- the node of a set that was tried: which keys are asleep, and which may come next
pub record IsNodeOf (offers : List ℕ → List ℕ) (F : List ℕ) (node : Node) : Type 0 where
  pub set : node.set.items ≡ F
  pub asleep : node.asleep.items ≡ asleep offers F
  pub next : node.next.items ≡ next_keys offers F

abbrev pub AreNodesOf : (List ℕ → List ℕ) → List (List ℕ) → List Node → Type 0
AreNodesOf offers sets nodes = AllZip (IsNodeOf offers) sets nodes

-- the node of a task is added, if the search goes on
abbrev pub AddsNode : (List ℕ → List ℕ) → Task → (nodes more : List Node) → Type 0
AddsNode offers task nodes more = task.goes_on ≡ true → task.asleep.items ≡ asleep offers task.set.items
    → (node : Node) × (more ≡ nodes ++ node ∷ []) × IsNodeOf offers task.set.items node

-- some tasks may be tried
abbrev pub MayTry : ℕ → (Bor (List Task) → Type 0) → Type 0
MayTry n Pre = (tasks : Bor (List Task)) → All (λ t. IsSet n t.set.items) tasks.now → Pre tasks

-- what is answered for some tasks, unless memory runs out
abbrev pub GivesOutcomes : Runs → (Bor (List Task) → Result (Vec Outcome Global) AllocError → Type 0) → Type 0
GivesOutcomes runs Post = (tasks : Bor (List Task)) (r : Result (Vec Outcome Global) AllocError)
    → All (λ t. IsSet runs.bound t.set.items) tasks.now → Post tasks r → IfOk r (λ v. AreOutcomes runs tasks.now v.items)

-- the search of the sets of one size: what was tried and found by smaller sets
pub record Course : Type 0 where
  pub size : ℕ
  pub goes_on : Bool
  pub earlier : List (List ℕ)
  pub start : List (List ℕ × ℕ)

-- `done` has the sets of this size that were run so far
pub record IsAt (runs : Runs) (course : Course) (done : List (List ℕ)) (level : Level) : Type 0 where
  pub smaller : AreSmallerSettled runs.bound course.size runs.holds runs.claims course.start
  pub kept : IsKept runs.bound course.size runs.holds runs.claims (breaks_of level.found.items)
  pub more : List (List ℕ × ℕ)
  pub found : breaks_of level.found.items ≡ course.start ++ more
  pub of_size : (B : List ℕ) (c : ℕ) → Contains more (B, c) → length B ≡ course.size
  pub settled : (F : List ℕ) → Contains done F
      → IsSet runs.bound F × (length F ≡ course.size) × IsSettled runs.holds runs.claims (breaks_of level.found.items) F
  pub nodes : course.goes_on ≡ true → AreNodesOf runs.offers done level.nodes.items
  pub counted : level.trials ≡ length course.earlier + length done
  pub order : AreListedIn (course.earlier ++ done) (breaks_of level.found.items)

-- `tried` has the sets of this size that are worth a run; the last of them still wait for it
abbrev pub HasTried : Runs → Course → (tried : List (List ℕ)) → Level → Type 0
HasTried runs course tried level = (done : List (List ℕ)) × IsAt runs course done level
    × (tried ≡ done ++ sets_of level.waiting.items) × All (IsTask runs course.size course.goes_on) level.waiting.items

-- the search is in such a course
abbrev pub IsInCourse : Runs → Limits → (Fits : Course → Type 0) → Level → Type 0
IsInCourse runs limits Fits level = (course : Course) × (tried : List (List ℕ)) × HasTried runs course tried level
    × Fits course × (level.trials + length level.waiting.items ≤ limits.trials)

-- in each such course: the sets were looked at, and those that are worth a run are tried; or the search stops in them
abbrev pub Looks : Runs → Limits → (Fits : Course → Type 0) → List (List ℕ) → (old : Level) → Bool → (new : Level) → Type 0
Looks runs limits Fits sets old more new =
    (course : Course) (tried : List (List ℕ)) → HasTried runs course tried old → Fits course
    → (picked : List (List ℕ)) × HasTried runs course (tried ++ picked) new
    × MatchBool more (Picks runs.claims course.start sets picked)
    (StopsIn runs.claims course.start sets picked × (new.trials + length new.waiting.items ≡ limits.trials))

-- a task of this course
abbrev pub FitsTask : Runs → Task → Course → Type 0
FitsTask runs task course = IsTask runs course.size course.goes_on task

-- these are nodes of sets with one fault fewer
abbrev pub FitNodes : Runs → (goes_on : Bool) → List Node → Course → Type 0
FitNodes runs goes_on nodes course = (goes_on ≡ course.goes_on) × All
    (λ node. IsNodeOf runs.offers node.set.items node × IsSet runs.bound node.set.items
    × (length node.set.items + 1 ≡ course.size)) nodes

-- the sets with one more fault
abbrev pub children_of : (offers : List ℕ → List ℕ) → List Node → List (List ℕ)
children_of offers nodes = flat_map (λ node. children (next_keys offers) node.set.items) nodes

-- between two sizes: all sets of fewer faults than `size` are settled, and these sets come next
pub record IsBetween (runs : Runs) (size : ℕ) (sets : List (List ℕ)) (level : Level) : Type 0 where
  pub smaller : AreSmallerSettled runs.bound size runs.holds runs.claims (breaks_of level.found.items)
  pub kept : (k : ℕ) → size ≤ k + 1 → IsKept runs.bound k runs.holds runs.claims (breaks_of level.found.items)
  pub earlier : List (List ℕ)
  pub tried : AreTried (next_keys runs.offers) runs.claims (breaks_of level.found.items) size earlier
  pub counted : level.trials ≡ length earlier
  pub order : AreListedIn earlier (breaks_of level.found.items)
  pub of_size : AreSetsOfSize (next_keys runs.offers) runs.claims (breaks_of level.found.items) size sets
  pub all : (F : List ℕ) → IsNode (next_keys runs.offers) F → IsSet runs.bound F → length F ≡ size
      → IsPruned runs.claims (breaks_of level.found.items) F ⊎ Contains sets F
  pub none : level.waiting.items ≡ []

-- nothing was done yet
pub record IsFirst (level : Level) : Type 0 where
  pub found : level.found.items ≡ []
  pub trials : level.trials ≡ 0
  pub nodes : level.nodes.items ≡ []
  pub waiting : level.waiting.items ≡ []

-- between two sizes, and the nodes of the smaller one are there
pub record IsBetweenNodes (runs : Runs) (size : ℕ) (level : Level) : Type 0 where
  pub between : IsBetween runs size (children_of runs.offers level.nodes.items) level
  pub nodes : All (λ node. IsNodeOf runs.offers node.set.items node × IsSet runs.bound node.set.items
      × (length node.set.items + 1 ≡ size)) level.nodes.items

-- the survey of what was found
abbrev pub survey_of : Level → (sizes : ℕ) → Survey
survey_of level sizes = record { broken = level.found; trials = level.trials; sizes = sizes }

-- the sets of this size are done, or the search stopped at one of them
pub record EndsSize (runs : Runs) (limits : Limits) (size : ℕ) (more : Bool) (level : Level) : Type 0 where
  pub limit : level.trials ≤ limits.trials
  pub goes_on : more ≡ true → size < limits.faults → IsBetweenNodes runs (size + 1) level
  pub ends : more ≡ true → size ≡ limits.faults → IsSurvey runs limits (survey_of level (size + 1))
  pub stops : more ≡ false → size ≤ limits.faults → IsSurvey runs limits (survey_of level size)

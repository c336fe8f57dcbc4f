-- The outcomes of some tasks, one after another.
use Rattle.std.proofs.Common.{◌≡◌, ℕ, zero, suc, ◌+◌, ◌<◌, List, [], ◌∷◌, ◌++◌, length, get_or, take, refl, sym, ap, subst, ◌∙◌, arith}
use Rattle.std.specs.List.{AllZip}
use Rattle.std.proofs.lemmas.List.{take_more}
use Rattle.survey.specs.Premise.{Runs}
use Rattle.survey.specs.Search.{IsOutcome, AreOutcomes}
use Rattle.survey.specs.declared.task.Task.{Task}
use Rattle.survey.specs.declared.task.Outcome.{Outcome}

pub zip_push : {X Y : Type 0} (R : X → Y → Type 0) (xs : List X) (ys : List Y) (x : X) (y : Y) → AllZip R xs ys → R x y → AllZip R (xs ++ x ∷ []) (ys ++ y ∷ [])
zip_push R [] [] x y all r = (r, tt)
zip_push R [] (b ∷ ys) x y all r = absurd all
zip_push R (a ∷ xs) [] x y all r = absurd all
zip_push R (a ∷ xs) (b ∷ ys) x y all r = (all.0, zip_push R xs ys x y all.1 r)

pub zip_read : {X Y : Type 0} (R : X → Y → Type 0) (xs : List X) (ys : List Y) (i : ℕ) (d : X) (e : Y) → AllZip R xs ys → i < length xs
    → R (get_or xs i d) (get_or ys i e)
zip_read R [] [] i d e all lt = absurd (omega arith)
zip_read R [] (b ∷ ys) i d e all lt = absurd all
zip_read R (a ∷ xs) [] i d e all lt = absurd all
zip_read R (a ∷ xs) (b ∷ ys) zero d e all lt = all.0
zip_read R (a ∷ xs) (b ∷ ys) (suc i) d e all lt = zip_read R xs ys i d e all.1 (omega arith)

pub zip_length : {X Y : Type 0} (R : X → Y → Type 0) (xs : List X) (ys : List Y) → AllZip R xs ys → length xs ≡ length ys
zip_length R [] [] all = refl
zip_length R [] (b ∷ ys) all = absurd all
zip_length R (a ∷ xs) [] all = absurd all
zip_length R (a ∷ xs) (b ∷ ys) all = ap suc (zip_length R xs ys all.1)

pub outcomes_more : (runs : Runs) (tasks : List Task) (outcomes : List Outcome) (i : ℕ) (task : Task) (outcome : Outcome) → i < length tasks
    → task ≡ get_or tasks i task → AreOutcomes runs (take i tasks) outcomes → IsOutcome runs task outcome
    → AreOutcomes runs (take (i + 1) tasks) (outcomes ++ outcome ∷ [])
outcomes_more runs tasks outcomes i task outcome lt is all one =
    let more : take (i + 1) tasks ≡ take i tasks ++ task ∷ [] = take_more tasks i task lt ∙ ap (λ x. take i tasks ++ x ∷ []) (sym is) in
    let P : List Task → Type 0 = λ t. AreOutcomes runs t (outcomes ++ outcome ∷ []) in
    subst P (sym more) (zip_push (IsOutcome runs) (take i tasks) outcomes task outcome all one)

pub outcome_at : (runs : Runs) (tasks : List Task) (outcomes : List Outcome) (i : ℕ) (task : Task) (outcome : Outcome) → AreOutcomes runs tasks outcomes
    → i < length tasks → task ≡ get_or tasks i task → outcome ≡ get_or outcomes i outcome → IsOutcome runs task outcome
outcome_at runs tasks outcomes i task outcome are lt is to =
    let P : Task → Type 0 = λ t. IsOutcome runs t outcome in
    let Q : Outcome → Type 0 = λ o. IsOutcome runs (get_or tasks i task) o in
    subst P (sym is) (subst Q (sym to) (zip_read (IsOutcome runs) tasks outcomes i task outcome are lt))

-- The answers of all workers are the answers for all sets.
use Rattle.std.proofs.Common.{◌≡◌, ◌∙◌, ℕ, suc, ◌+◌, ◌*◌, ◌<◌, ◌≤◌, List, [], ◌∷◌, ◌++◌, length, get_or, take, drop, refl, sym, ap, subst, append_assoc, append-nil, arith, Vec, Global, Result, Ok, Err}
use Rattle.std.specs.Prelude.{IfOk}
use Rattle.std.specs.List.{AllZip}
use Rattle.std.specs.declared.alloc.AllocError.{AllocError}
use Rattle.std.proofs.Math.Nat.{suc-mul, add_comm, zero-mul}
use Rattle.std.proofs.lemmas.List.{take-append-drop, drop-drop, length-drop}
use Rattle.survey.specs.Premise.{Runs}
use Rattle.survey.specs.Search.{IsOutcome, AreOutcomes}
use Rattle.survey.specs.declared.task.Task.{Task}
use Rattle.survey.specs.declared.task.Outcome.{Outcome}
use Rattle.survey.specs.Joins.{Joins}

pub joins_more : {X : Type 0} (parts : List (Result (Vec X Global) AllocError)) (all : List X) (part : Vec X Global) → Joins parts all
    → Joins (parts ++ Ok part ∷ []) (all ++ part.items)
joins_more [] all part joins = ([], ap (λ l. l ++ part.items) joins ∙ sym (append-nil part.items), refl)
joins_more (Ok p ∷ parts) all part joins =
    (joins.0 ++ part.items, ap (λ l. l ++ part.items) joins.1 ∙ append_assoc p.items joins.0 part.items, joins_more parts joins.0 part joins.2)
joins_more (Err e ∷ parts) all part joins = absurd joins

zip-append : {X Y : Type 0} (R : X → Y → Type 0) (xs : List X) (ys : List Y) (vs : List X) (ws : List Y) → AllZip R xs ys → AllZip R vs ws
    → AllZip R (xs ++ vs) (ys ++ ws)
zip-append R [] [] vs ws one other = other
zip-append R [] (b ∷ ys) vs ws one other = absurd one
zip-append R (a ∷ xs) [] vs ws one other = absurd one
zip-append R (a ∷ xs) (b ∷ ys) vs ws one other = (one.0, zip-append R xs ys vs ws one.1 other)

module _ (runs : Runs) (size : ℕ) where
  -- the part with a number is that of the chunk of tasks with this number
  abbrev pub AreParts : List (Result (Vec Outcome Global) AllocError) → List Task → Type 0
  AreParts parts sets = (n : ℕ) (d : Result (Vec Outcome Global) AllocError) → n < length parts
      → IfOk (get_or parts n d) (λ v. AreOutcomes runs (take size (drop (n * size) sets)) v.items)

  pub joined_answers : (parts : List (Result (Vec Outcome Global) AllocError)) (sets : List Task) (all : List Outcome) → AreParts parts sets
      → length sets ≤ length parts * size → Joins parts all → AreOutcomes runs sets all
  joined_answers [] [] all are long joins = subst (AreOutcomes runs []) (sym joins) tt
  joined_answers [] (s ∷ sets) all are long joins = absurd (omega arith)
  joined_answers (Err e ∷ parts) sets all are long joins = absurd joins
  joined_answers (Ok part ∷ parts) sets all are long joins =
      let none : 0 * size ≡ 0 = zero-mul size in
      let first : AreOutcomes runs (take size sets) part.items = subst (λ k. AreOutcomes runs (take size (drop k sets)) part.items) none (are 0 (Ok part) (omega arith)) in
      let left : length (drop size sets) ≤ length parts * size = fewer in
      let rest : AreOutcomes runs (drop size sets) joins.0 = joined_answers parts (drop size sets) joins.0 later left joins.2 in
      let both : AreOutcomes runs (take size sets ++ drop size sets) (part.items ++ joins.0) =
      zip-append (IsOutcome runs) (take size sets) part.items (drop size sets) joins.0 first rest in
      subst (λ t. AreOutcomes runs t all) (take-append-drop size sets) (subst (AreOutcomes runs (take size sets ++ drop size sets)) (sym joins.1) both)
    where
      fewer : length (drop size sets) ≤ length parts * size
      fewer = let d = length-drop size sets in let m = suc-mul (length parts) size in omega arith

      later : AreParts parts (drop size sets)
      later n d lt =
          let P : List Task → Type 0 = λ t. IfOk (get_or parts n d) (λ v. AreOutcomes runs (take size t) v.items) in
          let next : suc n * size ≡ size + n * size = suc-mul n size ∙ add_comm (n * size) size in
          subst P (ap (λ k. drop k sets) next ∙ sym (drop-drop (n * size) size sets)) (are (suc n) d (omega arith))

pub if_ok : {X E : Type 0} (P Q : X → Type 0) (r : Result X E) → ((x : X) → P x → Q x) → IfOk r P → IfOk r Q
if_ok P Q (Ok x) turn p = turn x p
if_ok P Q (Err e) turn p = tt

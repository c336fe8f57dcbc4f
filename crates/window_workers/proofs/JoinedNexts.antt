-- The first pending event, worker by worker.
use Rattle.std.proofs.Common.{◌≡◌, ℕ, suc, ◌+◌, ◌<◌, ◌≤◌, get_or, List, [], ◌∷◌, ◌++◌, length, take, ap, ◌∙◌, subst, sym, arith, Option}
use Rattle.std.proofs.Math.Seq.{take-length, take-suc}
use Rattle.std.specs.List.{AllByRecursion as Each}
use Rattle.radio_packet.specs.declared.copy.RadioCopy.{RadioCopy}
use Rattle.window_laws.proofs.Lists.{every_append, every_weaker}
use Rattle.window_laws.specs.Windows.{NoneBefore}
use Rattle.window_workers.specs.JoinedNext.{FirstOfAll, IsNextOfAll}
use Rattle.window_workers.specs.WorkerGroup.{IsNotBefore}
use Rattle.window_workers.specs.declared.worker.Worker.{Worker}
use Rattle.worker_window.specs.Next.{TellsNext}
use Rattle.worker_window.specs.declared.share.Share.{Share}

pub taken_all : {X : Type 0} (xs : List X) (i : ℕ) → length xs ≤ i → i ≤ length xs → take i xs ≡ xs
taken_all xs i h k = let e : i ≡ length xs = omega arith in ap (λ j. take j xs) e ∙ take-length xs

pub taken_more : {X : Type 0} (xs : List X) (i : ℕ) (d : X) → i < length xs → take (i + 1) xs ≡ take i xs ++ get_or xs i d ∷ []
taken_more xs i d h = let e : i + 1 ≡ suc i = omega arith in ap (λ j. take j xs) e ∙ take-suc xs i d h

parts_of : {X : Type 0} (P : X → Type 0) (xs : List X) (x : X) → Each P (xs ++ x ∷ []) → Each P xs × P x
parts_of P [] x h = (tt, h.0)
parts_of P (y ∷ xs) x h = let g = parts_of P xs x h.1 in ((h.0, g.0), g.1)

pub first_of_more : (workers : List Worker) (worker : Worker) (first result : Option ℕ) → FirstOfAll workers first
    → ((copy : RadioCopy) → IsNotBefore worker.first_out copy → IsNotBefore result copy) → ((copy : RadioCopy) → IsNotBefore first copy → IsNotBefore result copy)
    → ((moment : ℕ) → NoneBefore moment worker.first_out → NoneBefore moment first → NoneBefore moment result) → FirstOfAll (workers ++ worker ∷ []) result
first_of_more workers worker first result h one other greatest = record {
  none_before = every_append _ workers (worker ∷ []) (every_weaker _ _ (λ w f copy g. other copy (f copy g)) workers h.none_before) (one, tt);
  greatest = λ moment all. let p = parts_of _ workers worker all in greatest moment p.1 (h.greatest moment p.0);
}

pub next_of_more : (out : Option ℕ) (shares : List Share) (share : Share) (first next result : Option ℕ) → IsNextOfAll out shares next → TellsNext share first
    → ((moment : ℕ) → NoneBefore moment result → NoneBefore moment first × NoneBefore moment next)
    → ((moment : ℕ) → NoneBefore moment first → NoneBefore moment next → NoneBefore moment result) → IsNextOfAll out (shares ++ share ∷ []) result
next_of_more out shares share first next result h tells least greatest = record {
  out = λ moment g. h.out moment (least moment g).1;
  each = every_append _ shares (share ∷ []) (every_weaker _ _ (λ s f. (f.0, f.1, λ moment g. f.2 moment (least moment g).1)) shares h.each) ((first, tells, λ moment g. (least moment g).0), tt);
  greatest = λ moment o all. let p = parts_of _ shares share all in greatest moment (p.1 first tells) (h.greatest moment o p.0);
}

pub first_of_next : (xs : List Worker) (i : ℕ) (x : Worker) (first result : Option ℕ) → x ≡ get_or xs i x → i < length xs → FirstOfAll (take i xs) first
    → ((copy : RadioCopy) → IsNotBefore x.first_out copy → IsNotBefore result copy) → ((copy : RadioCopy) → IsNotBefore first copy → IsNotBefore result copy)
    → ((moment : ℕ) → NoneBefore moment x.first_out → NoneBefore moment first → NoneBefore moment result) → FirstOfAll (take (i + 1) xs) result
first_of_next xs i x first result is h all one other greatest =
    subst (λ l. FirstOfAll l result) (sym (taken_more xs i x h ∙ ap (λ y. take i xs ++ y ∷ []) (sym is))) (first_of_more (take i xs) x first result all one other greatest)

pub next_of_next : (out : Option ℕ) (xs : List Share) (i : ℕ) (x : Share) (first next result : Option ℕ) → x ≡ get_or xs i x → i < length xs → IsNextOfAll out (take i xs) next → TellsNext x first
    → ((moment : ℕ) → NoneBefore moment result → NoneBefore moment first × NoneBefore moment next)
    → ((moment : ℕ) → NoneBefore moment first → NoneBefore moment next → NoneBefore moment result) → IsNextOfAll out (take (i + 1) xs) result
next_of_next out xs i x first next result is h all tells least greatest =
    subst (λ l. IsNextOfAll out l result) (sym (taken_more xs i x h ∙ ap (λ y. take i xs ++ y ∷ []) (sym is))) (next_of_more out (take i xs) x first next result all tells least greatest)

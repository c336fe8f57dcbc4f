-- The earliest moment of arrival among some copies.
use Rattle.std.proofs.Common.{◌≡◌, ℕ, suc, ◌+◌, ◌<◌, ◌≤◌, get_or, List, [], ◌∷◌, ◌++◌, length, take, ap, ◌∙◌, arith, Option, Some}
use Rattle.std.proofs.Math.Seq.{take-length, take-suc}
use Rattle.std.specs.List.{AllByRecursion}
use Rattle.radio_packet.specs.declared.copy.RadioCopy.{RadioCopy}
use Rattle.window_laws.proofs.Lists.{every_append, every_weaker}
use Rattle.window_laws.specs.Windows.{NoneBefore}
use Rattle.window_workers.specs.JoinedWorker.{IsFirstOf}
use Rattle.window_workers.specs.WorkerGroup.{IsNotBefore}

nothing_before : (xs : List RadioCopy) (first result : Option ℕ) → ((copy : RadioCopy) → IsNotBefore first copy → IsNotBefore result copy) → AllByRecursion (IsNotBefore first) xs → AllByRecursion (IsNotBefore result) xs
nothing_before xs first result f h = every_weaker _ _ f xs h

front_of : (P : RadioCopy → Type 0) (xs : List RadioCopy) (c : RadioCopy) → AllByRecursion P (xs ++ c ∷ []) → AllByRecursion P xs × P c
front_of P [] c h = (tt, h.0)
front_of P (x ∷ xs) c h = let g = front_of P xs c h.1 in ((h.0, g.0), g.1)

pub first_more : (xs : List RadioCopy) (c : RadioCopy) (first result : Option ℕ) → IsFirstOf xs first
    → ((copy : RadioCopy) → IsNotBefore (Some c.at) copy → IsNotBefore result copy) → ((copy : RadioCopy) → IsNotBefore first copy → IsNotBefore result copy)
    → ((moment : ℕ) → NoneBefore moment (Some c.at) → NoneBefore moment first → NoneBefore moment result) → IsFirstOf (xs ++ c ∷ []) result
first_more xs c first result h one other greatest = record {
  none_before = every_append _ xs (c ∷ []) (nothing_before xs first result other h.none_before) (one c (omega arith), tt);
  greatest = λ m g. let f = front_of _ xs c g in greatest m f.1 (h.greatest m f.0);
}

abbrev pub no_copy : RadioCopy
no_copy = record { at = 0; to = 0; sender = 0; number = 0; value = 0 }

pub all_taken : (xs : List RadioCopy) (i : ℕ) → length xs ≤ i → i ≤ length xs → take i xs ≡ xs
all_taken xs i h k = let e : i ≡ length xs = omega arith in ap (λ j. take j xs) e ∙ take-length xs

pub one_taken : (xs : List RadioCopy) (i : ℕ) → i < length xs → take (i + 1) xs ≡ take i xs ++ get_or xs i no_copy ∷ []
one_taken xs i h = let e : i + 1 ≡ suc i = omega arith in ap (λ j. take j xs) e ∙ take-suc xs i no_copy h

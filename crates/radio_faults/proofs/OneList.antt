-- A text is read as one list of faults.
use Rattle.std.proofs.Common.{◌≡◌, suc, List, [], ◌∷◌, All, map, refl, ap₂, arith}
use Rattle.radio_faults.specs.declared.fault.Fault.{Fault}
use Rattle.radio_faults.specs.FaultText.{fault_text}
use Rattle.radio_faults.specs.FaultLines.{FitsFault}
use Rattle.radio_faults.proofs.Again.{one_fault}

pub one_list : (fs gs : List Fault) → map fault_text fs ≡ map fault_text gs → All FitsFault fs → All FitsFault gs → fs ≡ gs
one_list [] [] same a b = refl
one_list [] (g ∷ gs) same a b = absurd cc
one_list (f ∷ fs) [] same a b = absurd cc
one_list (f ∷ fs) (g ∷ gs) same a b =
    let heads : fault_text f ≡ fault_text g = cc in
    let tails : map fault_text fs ≡ map fault_text gs = cc in
    ap₂ (λ x xs. x ∷ xs) (one_fault f g (a 0 f (omega arith)) (b 0 g (omega arith)) heads)
    (one_list fs gs tails (λ k d h. a (suc k) d (omega (arith, h))) (λ k d h. b (suc k) d (omega (arith, h))))

-- The remainders of the threads of a mote, one by one.
use Rattle.std.proofs.Common.{ℕ, zero, suc, ◌≡◌, ◌<◌, ◌≤◌, List, [], ◌∷◌, length, Some, refl, ap, arith}
use Rattle.std.specs.Prelude.{slice_get, slice_set, slice_index_or, unwrap_or, Option}
use Rattle.std.specs.Global.{Box}
use Rattle.program_tree.specs.Code.{Code}
use Rattle.protothread.specs.Remainder.{Remainder, fresh_of}
use Rattle.protothread.specs.declared.part.Part.TheVariants.{Body}
use Rattle.process_kernel.specs.ProcessList.{fresh_at}
use Rattle.protothread.specs.declared.thread.Thread.{Thread}
use Rattle.process_kernel.specs.Views.{remainder_of_body, remainders_of}

-- the remainders after one thread is replaced
pub remainders_set : (cs : List Code) (ts : List (Option (Box Thread))) (p : ℕ) (c : Code) (t : Option (Box Thread)) → slice_get cs p ≡ Some c
    → remainders_of cs (slice_set ts p t) ≡ slice_set (remainders_of cs ts) p (remainder_of_body c t)
remainders_set [] ts p c t is = cc
remainders_set (d ∷ cs) [] p c t is = refl
remainders_set (d ∷ cs) (u ∷ ts) zero c t is = let same : d ≡ c = cc in ap (λ x. remainder_of_body x t ∷ remainders_of cs ts) same
remainders_set (d ∷ cs) (u ∷ ts) (suc p) c t is = ap (λ rs. remainder_of_body d u ∷ rs) (remainders_set cs ts p c t is)

-- setting an element past the end of a list changes nothing
pub set_past : {A : Type 0} (xs : List A) (i : ℕ) (x : A) → length xs ≤ i → slice_set xs i x ≡ xs
set_past [] i x past = refl
set_past (y ∷ ys) zero x past = absurd (omega arith)
set_past (y ∷ ys) (suc i) x past = ap (λ zs. y ∷ zs) (set_past ys i x (omega arith))

pub length_remainders : (cs : List Code) (ts : List (Option (Box Thread))) → length (remainders_of cs ts) ≤ length ts
length_remainders [] ts = omega arith
length_remainders (c ∷ cs) [] = omega arith
length_remainders (c ∷ cs) (t ∷ ts) = let rest = length_remainders cs ts in omega (arith, rest)

pub remainders_set_past : (cs : List Code) (ts : List (Option (Box Thread))) (p : ℕ) (r : Remainder) → length ts ≤ p
    → slice_set (remainders_of cs ts) p r ≡ remainders_of cs ts
remainders_set_past cs ts p r past = let few = length_remainders cs ts in set_past (remainders_of cs ts) p r (omega (arith, few))

-- the remainders after one thread became fresh again
pub remainders_fresh : (cs : List Code) (ts : List (Option (Box Thread))) (p : ℕ) (t : Option (Box Thread)) → ((code : Code) → remainder_of_body code t ≡ fresh_of code Body)
    → remainders_of cs (slice_set ts p t) ≡ fresh_at cs (remainders_of cs ts) p
remainders_fresh [] ts p t fresh = refl
remainders_fresh (c ∷ cs) [] p t fresh = refl
remainders_fresh (c ∷ cs) (u ∷ ts) zero t fresh = ap (λ r. r ∷ remainders_of cs ts) (fresh c)
remainders_fresh (c ∷ cs) (u ∷ ts) (suc p) t fresh = ap (λ rs. remainder_of_body c u ∷ rs) (remainders_fresh cs ts p t fresh)

pub fresh_past : (cs : List Code) (ts : List (Option (Box Thread))) (p : ℕ) → length ts ≤ p → remainders_of cs ts ≡ fresh_at cs (remainders_of cs ts) p
fresh_past [] ts p past = refl
fresh_past (c ∷ cs) [] p past = refl
fresh_past (c ∷ cs) (u ∷ ts) zero past = absurd (omega arith)
fresh_past (c ∷ cs) (u ∷ ts) (suc p) past = ap (λ rs. remainder_of_body c u ∷ rs) (fresh_past cs ts p (omega arith))

-- the remainder of one thread
pub remainders_get : (cs : List Code) (ts : List (Option (Box Thread))) (p : ℕ) (c : Code) (d : Remainder) (t : Option (Box Thread)) → slice_get cs p ≡ Some c → p < length ts
    → unwrap_or (slice_get (remainders_of cs ts) p) d ≡ remainder_of_body c (slice_index_or ts p t)
remainders_get [] ts p c d t is within = cc
remainders_get (e ∷ cs) [] p c d t is within = absurd (omega arith)
remainders_get (e ∷ cs) (u ∷ ts) zero c d t is within = let same : e ≡ c = cc in ap (λ x. remainder_of_body x u) same
remainders_get (e ∷ cs) (u ∷ ts) (suc p) c d t is within = remainders_get cs ts p c d t is (omega arith)

pub remainders_past : (cs : List Code) (ts : List (Option (Box Thread))) (p : ℕ) (d : Remainder) → length ts ≤ p → unwrap_or (slice_get (remainders_of cs ts) p) d ≡ d
remainders_past [] ts p d past = refl
remainders_past (e ∷ cs) [] p d past = refl
remainders_past (e ∷ cs) (u ∷ ts) zero d past = absurd (omega arith)
remainders_past (e ∷ cs) (u ∷ ts) (suc p) d past = remainders_past cs ts p d (omega arith)

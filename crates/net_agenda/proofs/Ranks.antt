-- After each turn the first pending event is later, by moment and then mote, until the end is reached.
use Rattle.std.proofs.Common.{◌≡◌, ℕ, suc, ◌+◌, ◌-◌, ◌*◌, ◌<◌, ◌≤◌, true, not, ◌&&◌, ◌||◌, ltb, eqb, List, [], ◌∷◌, sym, ap, ◌∙◌, refl, subst, arith, Option, Some, None, option_map, slice_get, inl, inr, suc-mul, ◌⊎◌}
use Rattle.std.specs.List.{list_any, AllByRecursion}
use Rattle.std.specs.Map.{lookup}
use Rattle.std.specs.BTreeMap.{get, is_at}
use Rattle.std.specs.Ordering.{nat_cmp}
use Rattle.std.proofs.Math.Nat.{mul-le-mul_right}
use Rattle.std.proofs.lemmas.Bool.{eq-eqb}
use Rattle.std.proofs.lemmas.Bool.Decides.{nat_tests}
use Rattle.net_agenda.specs.declared.bucket.Bucket.{Bucket}
use Rattle.window_laws.specs.Agenda.{Item, moment_of, mote_of, comes_at, is_from}
use Rattle.net_agenda.specs.Buckets.{Buckets, HoldsItems, first_key, first_of, first_bucket_mote}
use Rattle.window_laws.proofs.Agenda.{due_has}
use Rattle.window_laws.proofs.Lists.{every_weaker}
use Rattle.net_agenda.proofs.Keys.{same_number}
use Rattle.net_agenda.proofs.Moments.{there_of}

-- the number of turns that may still follow, if the first pending event is at this moment and mote
abbrev pub turns_left : (motes end : ℕ) → Option (ℕ × ℕ) → ℕ
turns_left motes end None = 0
turns_left motes end (Some key) = suc end * motes - (key.0 * motes + key.1)

place : (t m u k : ℕ) → (ltb t u || (eqb u t && not (ltb k (suc m)))) ≡ true → (suc t ≤ u) ⊎ ((u ≡ t) × (m < k))
place t m u k h = grind (arith, nat_tests)

over_row : (n t u m k : ℕ) → suc t ≤ u → m < n → t * n + m < u * n + k
over_row n t u m k h e = let g = mul-le-mul_right n h in let s = suc-mul t n in omega arith

later_place : (n t m u k : ℕ) → (ltb t u || (eqb u t && not (ltb k (suc m)))) ≡ true → m < n → t * n + m < u * n + k
later_place n t m u k h e =
    elim (place t m u k h) [ inl g ↦ over_row n t u m k g e | inr g ↦ (let r = g.1 in let q : u * n ≡ t * n = ap (λ x. x * n) g.0 in omega arith) ]

pub first_due : (buckets : Buckets) (items : List Item) (u k : ℕ) → HoldsItems buckets items → first_key buckets ≡ Some (u, k) → list_any (comes_at u k) items ≡ true
first_due buckets items u k holds e = of buckets.entries refl (e)
  where
    of : (es : List (ℕ × Bucket)) → es ≡ buckets.entries → first_key buckets ≡ Some (u, k) → list_any (comes_at u k) items ≡ true
    of [] f e = let g : first_key buckets ≡ None = ap (λ l. first_of (slice_get l 0)) (sym f) in absurd (cc)
    of (x ∷ es) f e =
        let g : first_key buckets ≡ option_map {U = ℕ × ℕ} (λ m. (x.0, m)) (first_bucket_mote x.1) = ap (λ l. first_of (slice_get l 0)) (sym f) in
        let i = eq-eqb x.0 x.0 refl in
        let self : is_at (nat_cmp x.0) x.0 ≡ true = same_number x.0 x.0 ∙ i in
        let found : get nat_cmp buckets x.0 ≡ Some x.1 = ap (lookup (is_at (nat_cmp x.0))) (sym f) ∙ (rw self refl) in
        at x.0 x.1 found (first_bucket_mote x.1) refl (sym g ∙ e)
      where
        at : (t : ℕ) (b : Bucket) → get nat_cmp buckets t ≡ Some b → (o : Option ℕ) → first_bucket_mote b ≡ o → option_map {U = ℕ × ℕ} (λ m. (t, m)) o ≡ Some (u, k) → list_any (comes_at u k) items ≡ true
        at t b found None h e = absurd (cc)
        at t b found (Some m) h e =
            let same : ◌≡◌ {A = ℕ × ℕ} (t, m) (u, k) = cc in
            subst (λ p. list_any (comes_at p.0 p.1) items ≡ true) same (there_of buckets t m b items holds found h)

-- the first pending event is later, if no event is left up to a moment and mote
pub left_falls : (motes end t m : ℕ) (items : List Item) (old new : Option (ℕ × ℕ)) (buckets : Buckets) → old ≡ Some (t, m) → m < motes → t ≤ end
    → AllByRecursion (λ item. is_from t (suc m) item ≡ true) items → HoldsItems buckets items → new ≡ first_key buckets
    → turns_left motes end new < turns_left motes end old
left_falls motes end t m items old new buckets e inside low ahead holds f = subst (λ o. turns_left motes end new < turns_left motes end o) (sym e) (of new f)
  where
    top : t * motes + m < suc end * motes
    top = let up : suc t ≤ suc end = omega arith in let g : t * motes + m < suc end * motes + 0 = over_row motes t (suc end) m 0 up inside in omega arith

    of : (o : Option (ℕ × ℕ)) → o ≡ first_key buckets → turns_left motes end o < suc end * motes - (t * motes + m)
    of None f = let g = top in omega arith
    of (Some key) f =
        let later : t * motes + m < key.0 * motes + key.1 =
        due_has (λ u k. t * motes + m < u * motes + k) key.0 key.1 items (first_due buckets items key.0 key.1 holds (sym f))
        (every_weaker _ _ (λ item h. later_place motes t m (moment_of item) (mote_of item) h inside) items ahead) in
        let g = top in omega arith

-- The keys that a run offers are those of the faults that may change it.
use Rattle.std.proofs.Common.{◌≡◌, ℕ, zero, suc, ◌+◌, ◌-◌, ◌*◌, ◌/◌, ◌%◌, ◌<◌, ◌≤◌, ◌^◌, Bool, true, false, ◌&&◌, ◌||◌, ltb, eqb, if◌then◌else◌, List, [], length, get_or, map, refl, ap, sym, subst, inl, inr, arith, ◌∙◌}
use Rattle.std.specs.List.{Contains, flat_map, range_with_len}
use Rattle.std.proofs.lemmas.Bool.{cases_Bool, cases_lt, eqb-true, eq-eqb, lt-ltb, ltb-true}
use Rattle.std.proofs.lemmas.List.Elements.{Contains-append_left, Contains-append_right, Contains-append_cases}
use Rattle.std.proofs.Math.Nat.{mod-lt}
use Rattle.radio_packet.specs.declared.fate.Fate.{Fate}
use Rattle.radio_faults.specs.declared.fault.Fault.{Fault}
use Rattle.radio_faults.specs.declared.fault.Fault.TheVariants.{Silent}
use Rattle.radio_faults.specs.Faults.{names}
use Rattle.mote_net.specs.Report.{Packet, ReportModel}
use Rattle.serial_run.specs.FaultLaws.{is_of_motes, is_some, may_change, names_copy_in, names_copy_of}
use Rattle.fault_keys.proofs.OfferLaws.{nets_offer_all}
use Rattle.fault_keys.specs.Keys.{bound_of, fault_of, fault_of_copy, fixed_keys, keys_of_copy, keys_of_fate, keys_of_packet, named_keys, packed, unpacked}
use Rattle.fault_keys.specs.Laws.{KeysOfferAll, runs_of}
use Rattle.fault_keys.specs.declared.keys.CopyFault.{CopyFault}
use Rattle.fault_keys.specs.declared.keys.CopyFault.TheVariants.{Lost, Late}
use Rattle.survey.proofs.Turns.{flat_has, in_flat, in_map, map_has}
use Rattle.fault_keys.proofs.Lists.{any_from, any_of, filter_has, filter_in, fine_none, new_members, range_has, range_in}
use Rattle.fault_keys.proofs.Packed.{IsUnpacked, number_below, packed_below, packs, unpacks}

both : (a b : Bool) → (a && b) ≡ true → (a ≡ true) × (b ≡ true)
both true true h = (refl, refl)
both true false h = absurd (cc)
both false b h = absurd (cc)

and_true : (a b : Bool) → a ≡ true → b ≡ true → (a && b) ≡ true
and_true true true p q = refl
and_true true false p q = q
and_true false b p q = p

-- a fault of a copy names this copy alone
names_from : (kind : CopyFault) (s n r a b c : ℕ) → names (fault_of_copy kind s n r) a b c ≡ true → (s ≡ a) × (n ≡ b) × (r ≡ c)
names_from Lost s n r a b c h =
    let p = both (eqb s a && eqb n b) (eqb r c) h in
    let q = both (eqb s a) (eqb n b) p.0 in
    (eqb-true s a q.0, eqb-true n b q.1, eqb-true r c p.1)
names_from (Late by) s n r a b c h =
    let p = both (eqb s a && eqb n b) (eqb r c) h in
    let q = both (eqb s a) (eqb n b) p.0 in
    (eqb-true s a q.0, eqb-true n b q.1, eqb-true r c p.1)

names_itself : (kind : CopyFault) (s n r : ℕ) → names (fault_of_copy kind s n r) s n r ≡ true
names_itself Lost s n r = and_true (eqb s s && eqb n n) (eqb r r) (and_true (eqb s s) (eqb n n) (eq-eqb s s refl) (eq-eqb n n refl)) (eq-eqb r r refl)
names_itself (Late by) s n r = and_true (eqb s s && eqb n n) (eqb r r) (and_true (eqb s s) (eqb n n) (eq-eqb s s refl) (eq-eqb n n refl)) (eq-eqb r r refl)

named_from : (fault : Fault) (r : ReportModel) → names_copy_in fault r ≡ true
    → (p : Packet) × Contains r.log p × (f : Fate) × Contains p.fates f × (names fault p.sent.sender p.sent.number f.to ≡ true) × (is_some f.at ≡ true)
named_from fault r h =
    let a = any_from (names_copy_of fault) r.log h in
    let p = a.0 in
    let b = any_from (λ (f : Fate). names fault p.sent.sender p.sent.number f.to && is_some f.at) p.fates a.2 in
    let c = both (names fault p.sent.sender p.sent.number b.0.to) (is_some b.0.at) b.2 in
    (p, a.1, b.0, b.1, c.0, c.1)

named_of : (fault : Fault) (r : ReportModel) (p : Packet) (f : Fate) → Contains r.log p → Contains p.fates f
    → names fault p.sent.sender p.sent.number f.to ≡ true → is_some f.at ≡ true → names_copy_in fault r ≡ true
named_of fault r p f there fated is some =
    any_of (names_copy_of fault) r.log p there
    (any_of (λ (g : Fate). names fault p.sent.sender p.sent.number g.to && is_some g.at) p.fates f fated
    (and_true (names fault p.sent.sender p.sent.number f.to) (is_some f.at) is some))

or_right : (a b : Bool) → b ≡ true → (a || b) ≡ true
or_right true b h = refl
or_right false b h = h

other_or : (a b : Bool) → a ≡ false → (a || b) ≡ true → b ≡ true
other_or true b e h = absurd (cc)
other_or false b e h = h

-- no mote is off because of a copy's fault
of_copies : (kind : CopyFault) (s n r : ℕ) → is_of_motes (fault_of_copy kind s n r) ≡ false
of_copies Lost s n r = refl
of_copies (Late by) s n r = refl

if_true : {X : Type 0} (b : Bool) (x y : X) → b ≡ true → (if b then x else y) ≡ x
if_true true x y h = refl
if_true false x y h = absurd (cc)

if_false : {X : Type 0} (b : Bool) (x y : X) → b ≡ false → (if b then x else y) ≡ y
if_false true x y h = absurd (cc)
if_false false x y h = refl

in_if : (b : Bool) (xs : List ℕ) (k : ℕ) → Contains (if b then xs else []) k → (b ≡ true) × Contains xs k
in_if true xs k at = (refl, at)
in_if false xs k at = absurd (omega arith)

not_less : (a b : ℕ) → b ≤ a → ltb a b ≡ false
not_less a b le = elim (cases_Bool (ltb a b)) [ inl is ↦ absurd (let lt = ltb-true a b is in omega arith) | inr isnt ↦ isnt ]

module _ (fixed : List Fault) (kinds : List CopyFault) where
  fixed_fault : (k : ℕ) → k < length fixed → fault_of fixed kinds k ≡ get_or fixed k (Silent 0)
  fixed_fault k lt = if_true (ltb k (length fixed)) (get_or fixed k (Silent 0)) (unpacked kinds (k - length fixed)) (lt-ltb k (length fixed) lt)

  copy_fault : (k : ℕ) → length fixed ≤ k → fault_of fixed kinds k ≡ unpacked kinds (k - length fixed)
  copy_fault k le = if_false (ltb k (length fixed)) (get_or fixed k (Silent 0)) (unpacked kinds (k - length fixed)) (not_less k (length fixed) le)

  -- the keys of a copy stand for faults that name it
  copy_keys : (s n r k : ℕ) → Contains (keys_of_copy fixed kinds s n r) k → (k < bound_of fixed kinds) × (names (fault_of fixed kinds k) s n r ≡ true)
  copy_keys s n r k at =
      let c = in_if ((ltb s 65536 && ltb r 65536) && ltb n 134217728) (map (λ kind. length fixed + packed (length kinds) s n r kind) (range_with_len 0 (length kinds))) k at in
      let t = both (ltb s 65536 && ltb r 65536) (ltb n 134217728) c.0 in
      let u = both (ltb s 65536) (ltb r 65536) t.0 in
      let ls = ltb-true s 65536 u.0 in
      let lr = ltb-true r 65536 u.1 in
      let ln = ltb-true n 134217728 t.1 in
      let m = in_map (λ kind. length fixed + packed (length kinds) s n r kind) (range_with_len 0 (length kinds)) k c.1 in
      let kind = m.0 in
      let lk : kind < length kinds = (let x = range_in 0 (length kinds) kind m.1 in omega arith) in
      let below = packed_below (length kinds) s n r kind ls lr ln lk in
      let is = unpacks (length kinds) s n r kind ls lr lk in
      let number : k - length fixed ≡ packed (length kinds) s n r kind = omega (arith, m.2) in
      let fault : fault_of fixed kinds k ≡ fault_of_copy (get_or kinds kind Lost) s n r = copy_fault k (omega (arith, m.2)) ∙ (ap (unpacked kinds) number ∙ unpacked_is (packed (length kinds) s n r kind) s n r kind is) in
      let N : Fault → Type 0 = λ f. names f s n r ≡ true in
      (omega (arith, m.2), subst N (sym fault) (names_itself (get_or kinds kind Lost) s n r))
    where
      unpacked_is : (q s n r kind : ℕ) → IsUnpacked (length kinds) q s n r kind → unpacked kinds q ≡ fault_of_copy (get_or kinds kind Lost) s n r
      unpacked_is q s n r kind is =
          let A : ℕ → Type 0 = λ x. unpacked kinds q ≡ fault_of_copy (get_or kinds x Lost) (q / length kinds / 65536 % 65536) (q / length kinds / 65536 / 65536) (q / length kinds % 65536) in
          let B : ℕ → Type 0 = λ x. unpacked kinds q ≡ fault_of_copy (get_or kinds kind Lost) x (q / length kinds / 65536 / 65536) (q / length kinds % 65536) in
          let C : ℕ → Type 0 = λ x. unpacked kinds q ≡ fault_of_copy (get_or kinds kind Lost) s x (q / length kinds % 65536) in
          let D : ℕ → Type 0 = λ x. unpacked kinds q ≡ fault_of_copy (get_or kinds kind Lost) s n x in
          subst D is.to_is (subst C is.number_is (subst B is.sender_is (subst A is.kind_is refl)))

  -- a fault of a copy that names one has a key of it
  key_of : (k s n r : ℕ) → length fixed ≤ k → k < bound_of fixed kinds → names (fault_of fixed kinds k) s n r ≡ true → Contains (keys_of_copy fixed kinds s n r) k
  key_of k s n r le lt is =
      let q = k - length fixed in
      let v = length kinds in
      let qlt : q < 2 ^ 59 * v = omega arith in
      let some : 0 < v = some_kinds v q qlt in
      let N : Fault → Type 0 = λ f. names f s n r ≡ true in
      let e = names_from (get_or kinds (q % v) Lost) (q / v / 65536 % 65536) (q / v / 65536 / 65536) (q / v % 65536) s n r (subst N (copy_fault k le) is) in
      let ls : s < 65536 = (let pos : 0 < 65536 = omega arith in let m = mod-lt (q / v / 65536) pos in let e0 = e.0 in omega arith) in
      let lr : r < 65536 = (let pos : 0 < 65536 = omega arith in let m = mod-lt (q / v) pos in let e2 = e.2 in omega arith) in
      let ln : n < 134217728 = (let m = number_below v q some qlt in let e1 = e.1 in omega arith) in
      let lk : q % v < v = mod-lt q some in
      let test = and_true (ltb s 65536 && ltb r 65536) (ltb n 134217728) (and_true (ltb s 65536) (ltb r 65536) (lt-ltb s 65536 ls) (lt-ltb r 65536 lr)) (lt-ltb n 134217728 ln) in
      let f : ℕ → ℕ = λ kind. length fixed + packed v s n r kind in
      let at : Contains (map f (range_with_len 0 v)) (f (0 + q % v)) = map_has f (range_with_len 0 v) (0 + q % v) (range_has 0 v (q % v) lk) in
      let P : ℕ → Type 0 = λ x. packed v x (q / v / 65536 / 65536) (q / v % 65536) (q % v) ≡ q in
      let Q : ℕ → Type 0 = λ x. packed v s x (q / v % 65536) (q % v) ≡ q in
      let R : ℕ → Type 0 = λ x. packed v s n x (q % v) ≡ q in
      let whole : packed v s n r (q % v) ≡ q = subst R e.2 (subst Q e.1 (subst P e.0 (packs v q))) in
      let C : ℕ → Type 0 = λ x. Contains (map f (range_with_len 0 v)) x in
      let key : f (0 + q % v) ≡ k = ap (λ x. length fixed + packed v s n r x) (omega arith) ∙ (ap (λ x. length fixed + x) whole ∙ omega arith) in
      let D : List ℕ → Type 0 = λ t. Contains t k in
      subst D (sym (if_true ((ltb s 65536 && ltb r 65536) && ltb n 134217728) (map f (range_with_len 0 v)) [] test)) (subst C key at)
    where
      some_kinds : (v q : ℕ) → q < 2 ^ 59 * v → 0 < v
      some_kinds zero q lt = absurd (omega arith)
      some_kinds (suc v) q lt = omega arith

  named_in : (r : ReportModel) (k : ℕ) → Contains (named_keys fixed kinds r) k → (k < bound_of fixed kinds) × (may_change (fault_of fixed kinds k) r ≡ true)
  named_in r k at =
      elim (Contains-append_cases (fixed_keys fixed r) (flat_map (keys_of_packet fixed kinds) r.log) k at) [
        | inl front ↦
            let a = filter_in (λ j. may_change (get_or fixed j (Silent 0)) r) (range_with_len 0 (length fixed)) k front in
            let lt : k < length fixed = (let x = range_in 0 (length fixed) k a.0 in omega arith) in
            (omega arith, ap (λ f. may_change f r) (fixed_fault k lt) ∙ a.1)
        | inr back ↦
            let a = in_flat (keys_of_packet fixed kinds) r.log k back in
            let p = a.0 in
            let b = in_flat (keys_of_fate fixed kinds p.sent.sender p.sent.number) p.fates k a.2 in
            let f = b.0 in
            let c = in_if (is_some f.at) (keys_of_copy fixed kinds p.sent.sender p.sent.number f.to) k b.2 in
            let d = copy_keys p.sent.sender p.sent.number f.to k c.1 in
            (d.0, or_right (is_of_motes (fault_of fixed kinds k)) (names_copy_in (fault_of fixed kinds k) r) (named_of (fault_of fixed kinds k) r p f a.1 b.1 d.1 c.0))
      ]

  in_named : (r : ReportModel) (k : ℕ) → k < bound_of fixed kinds → may_change (fault_of fixed kinds k) r ≡ true → Contains (named_keys fixed kinds r) k
  in_named r k lt is =
      elim (cases_lt k (length fixed)) [
        | inl small ↦
            let C : ℕ → Type 0 = λ x. Contains (range_with_len 0 (length fixed)) x in
            let in' : Contains (range_with_len 0 (length fixed)) k = subst C (omega arith) (range_has 0 (length fixed) k small) in
            Contains-append_left (fixed_keys fixed r) (flat_map (keys_of_packet fixed kinds) r.log) k
            (filter_has (λ j. may_change (get_or fixed j (Silent 0)) r) (range_with_len 0 (length fixed)) k in' (ap (λ f. may_change f r) (sym (fixed_fault k small)) ∙ is))
        | inr large ↦
            let copies : is_of_motes (fault_of fixed kinds k) ≡ false = ap is_of_motes (copy_fault k large) ∙ of_copies (get_or kinds ((k - length fixed) % length kinds) Lost) _ _ _ in
            let a = named_from (fault_of fixed kinds k) r (other_or (is_of_motes (fault_of fixed kinds k)) (names_copy_in (fault_of fixed kinds k) r) copies is) in
            let p = a.0 in
            let f = a.2 in
            let key = key_of k p.sent.sender p.sent.number f.to large lt a.4 in
            let D : List ℕ → Type 0 = λ t. Contains t k in
            let fate : Contains (keys_of_fate fixed kinds p.sent.sender p.sent.number f) k =
            subst D (sym (if_true (is_some f.at) (keys_of_copy fixed kinds p.sent.sender p.sent.number f.to) [] a.5)) key in
            Contains-append_right (fixed_keys fixed r) (flat_map (keys_of_packet fixed kinds) r.log) k
            (flat_has (keys_of_packet fixed kinds) r.log p k a.1 (flat_has (keys_of_fate fixed kinds p.sent.sender p.sent.number) p.fates f k a.3 fate))
      ]

pub keys_offer_all : KeysOfferAll
keys_offer_all net fixed kinds report reports claims holds =
    let runs = runs_of fixed kinds report claims holds in
    nets_offer_all net (fault_of fixed kinds) report holds runs (record {
      reports = reports;
      holds = λ F c. refl;
      offered = λ F k at.
          let m = new_members F [] (named_keys fixed kinds (report F)) (fine_none F) in
          let named : Contains (named_keys fixed kinds (report F)) k = elim (m.1 k at) [ inl one ↦ one | inr none ↦ absurd (omega arith) ] in
          let is = named_in fixed kinds (report F) k named in
          record { below = is.0; fresh = λ there. m.0.1 k at there; felt = is.1 };
      all_offered = λ F k is.
          let m = new_members F [] (named_keys fixed kinds (report F)) (fine_none F) in
          m.3 k (in_named fixed kinds (report F) k is.below is.felt) is.fresh;
      once = λ F. (new_members F [] (named_keys fixed kinds (report F)) (fine_none F)).0.0;
    })

-- What shows that a report breaks a claim has one text.
use Rattle.std.proofs.Common.{◌≡◌, ◌∙◌, refl, sym, ap, arith, ℕ, zero, suc, ◌+◌, Bool, true, false, cond, ◌&&◌, Option, Some, List, [], ◌∷◌, ◌++◌, take, codes, slice_get, count_by, subst}
use Rattle.std.specs.List.{list_all}
use Rattle.std.proofs.lemmas.Bool.{and_parts}
use Rattle.std.proofs.lemmas.List.Sums.{sum_by-cons, count_by-le-length}
use Rattle.mote_net.specs.Report.{ReportModel}
use Rattle.claims.specs.declared.trace.Found.{Found}
use Rattle.claims.specs.declared.claim.Test.{Test}
use Rattle.claims.specs.declared.claim.Case.{Case}
use Rattle.claims.specs.declared.claim.Claim.{Claim}
use Rattle.claims.specs.Claims.{test_holds, case_holds}
use Rattle.claims.specs.declared.witness.BrokenTest.{BrokenTest}
use Rattle.claims.specs.declared.witness.Witness.{Witness}
use Rattle.claims.specs.declared.witness.Spare.{Spare as SpareCase}
use Rattle.claims.specs.declared.witness.Break.{Break}
use Rattle.claims.specs.declared.witness.Break.TheVariants.{Missing, Spare, Fewer}
use Rattle.claims.specs.Witnesses.{spare_line, shown_in}
use Rattle.claims.specs.Differences.{missing_values, superfluous_values}
use Rattle.claims.specs.Shows.{Shows, ShowsTest, ShowsMissing, ShowsSpare}
use Rattle.claim_text.specs.Subject.{mote_of_tests}
use Rattle.claim_text.specs.BreakText.{subject_of, test_at, beyond_text, labelled, missing_text, missing_at, spare_text, spare_at, break_text}

the_same : {A : Type 0} (o : Option A) (x y : A) → o ≡ Some x → o ≡ Some y → x ≡ y
the_same o x y e f = cc

-- the first element that fails a test has one place
first_place : {A : Type 0} (p : A → Bool) (xs : List A) (i j : ℕ) (x y : A) → slice_get xs i ≡ Some x → slice_get xs j ≡ Some y
    → list_all p (take i xs) ≡ true → list_all p (take j xs) ≡ true → p x ≡ false → p y ≡ false → i ≡ j
first_place p [] i j x y e f a b g h = absurd (cc)
first_place p (z ∷ zs) zero zero x y e f a b g h = refl
first_place p (z ∷ zs) zero (suc j) x y e f a b g h =
    let holds : p z ≡ true = (and_parts (p z) (list_all p (take j zs)) b).0 in
    let same : z ≡ x = the_same (Some z) z x refl e in absurd (cc)
first_place p (z ∷ zs) (suc i) zero x y e f a b g h =
    let holds : p z ≡ true = (and_parts (p z) (list_all p (take i zs)) a).0 in
    let same : z ≡ y = the_same (Some z) z y refl f in absurd (cc)
first_place p (z ∷ zs) (suc i) (suc j) x y e f a b g h =
    ap suc (first_place p zs i j x y e f (and_parts (p z) (list_all p (take i zs)) a).1 (and_parts (p z) (list_all p (take j zs)) b).1 g h)

count-cons : {A : Type 0} (p : A → Bool) (x : A) (xs : List A) → count_by p (x ∷ xs) ≡ cond (p x) 1 0 + count_by p xs
count-cons p x xs = sum_by-cons (λ y. cond (p y) 1 0) x xs

-- the element that passes a test after so many others has one place
later_place : {A : Type 0} (p : A → Bool) (xs : List A) (i j : ℕ) (x y : A) → slice_get xs i ≡ Some x → slice_get xs j ≡ Some y
    → count_by p (take i xs) ≡ count_by p (take j xs) → p x ≡ true → p y ≡ true → i ≡ j
later_place p [] i j x y e f a g h = absurd (cc)
later_place p (z ∷ zs) zero zero x y e f a g h = refl
later_place p (z ∷ zs) zero (suc j) x y e f a g h =
    let same : z ≡ x = the_same (Some z) z x refl e in
    let more : count_by p (z ∷ take j zs) ≡ 1 + count_by p (take j zs) = count-cons p z (take j zs) ∙ ap (λ b. cond b 1 0 + count_by p (take j zs)) (ap p same ∙ g) in
    absurd (omega (arith, a, more))
later_place p (z ∷ zs) (suc i) zero x y e f a g h =
    let same : z ≡ y = the_same (Some z) z y refl f in
    let more : count_by p (z ∷ take i zs) ≡ 1 + count_by p (take i zs) = count-cons p z (take i zs) ∙ ap (λ b. cond b 1 0 + count_by p (take i zs)) (ap p same ∙ h) in
    absurd (omega (arith, a, more))
later_place p (z ∷ zs) (suc i) (suc j) x y e f a g h =
    let rest : count_by p (take i zs) ≡ count_by p (take j zs) = omega (arith, a, count-cons p z (take i zs), count-cons p z (take j zs)) in
    ap suc (later_place p zs i j x y e f rest g h)

and_none : (a : Bool) → (a && false) ≡ false
and_none true = refl
and_none false = refl

not_all : {A : Type 0} (p : A → Bool) (xs : List A) (i : ℕ) (x : A) → slice_get xs i ≡ Some x → p x ≡ false → list_all p xs ≡ false
not_all p [] i x e h = absurd (cc)
not_all p (z ∷ zs) zero x e h = ap (λ b. b && list_all p zs) (ap p (the_same (Some z) z x refl e) ∙ h)
not_all p (z ∷ zs) (suc i) x e h = ap (λ b. p z && b) (not_all p zs i x e h) ∙ and_none (p z)

text_by : (names : List (List ℕ)) (k : Case) → Option Test → Option Found → (missing superfluous : List ℕ) → List ℕ
text_by names k test line missing superfluous = (let own = mote_of_tests k.tests.items in
    codes "not for " ++ (subject_of own ++ (test_at names own test
    ++ (beyond_text line ++ (labelled (codes "; missing: ") missing ++ labelled (codes "; superfluous: ") superfluous)))))

same_test : (names : List (List ℕ)) (k : Case) (r : ReportModel) (a b : BrokenTest) → ShowsTest k r a → ShowsTest k r b
    → missing_text names k a ≡ missing_text names k b
unfolding text_by
same_test names k r a b s t =
    let ts : List Test = k.tests.items in
    let place : a.test ≡ b.test = first_place (λ u. test_holds u r) ts a.test b.test s.test t.test s.there t.there s.before t.before s.fails t.fails in
    let there : slice_get ts a.test ≡ slice_get ts b.test = ap (slice_get ts) place in
    let same : s.test ≡ t.test = the_same (slice_get ts b.test) s.test t.test (sym there ∙ s.there) t.there in
    let line : a.line ≡ b.line = s.line ∙ ap (λ u. spare_line u r) same ∙ sym t.line in
    let missing : a.difference.missing.items ≡ b.difference.missing.items = s.missing ∙ ap (λ u. missing_values u r) same ∙ sym t.missing in
    let superfluous : a.difference.superfluous.items ≡ b.difference.superfluous.items = s.superfluous ∙ ap (λ u. superfluous_values u r) same ∙ sym t.superfluous in
    ap (λ o. text_by names k o a.line a.difference.missing.items a.difference.superfluous.items) there
    ∙ ap (λ o. text_by names k (slice_get ts b.test) o a.difference.missing.items a.difference.superfluous.items) line
    ∙ ap (λ o. text_by names k (slice_get ts b.test) b.line o a.difference.superfluous.items) missing
    ∙ ap (λ o. text_by names k (slice_get ts b.test) b.line b.difference.missing.items o) superfluous

same_missing : (names : List (List ℕ)) (c : Claim) (r : ReportModel) (v w : Witness) → ShowsMissing c r v → ShowsMissing c r w
    → break_text names c (Missing v) ≡ break_text names c (Missing w)
same_missing names c r v w s t =
    let ks : List Case = c.cases.items in
    let fails : case_holds s.case r ≡ false = not_all (λ u. test_holds u r) s.case.tests.items v.broken.test s.shown.test s.shown.there s.shown.fails in
    let fails_too : case_holds t.case r ≡ false = not_all (λ u. test_holds u r) t.case.tests.items w.broken.test t.shown.test t.shown.there t.shown.fails in
    let place : v.case ≡ w.case = first_place (λ k. case_holds k r) ks v.case w.case s.case t.case s.there t.there s.before t.before fails fails_too in
    let same : s.case ≡ t.case = the_same (slice_get ks w.case) s.case t.case (sym (ap (slice_get ks) place) ∙ s.there) t.there in
    ap (λ o. missing_at names o v.broken) s.there
    ∙ same_test names s.case r v.broken w.broken s.shown (subst (λ k. ShowsTest k r w.broken) (sym same) t.shown)
    ∙ ap (λ k. missing_text names k w.broken) same
    ∙ sym (ap (λ o. missing_at names o w.broken) t.there)

same_spare : (names : List (List ℕ)) (c : Claim) (r : ReportModel) (v w : SpareCase) → ShowsSpare c r v → ShowsSpare c r w
    → break_text names c (Spare v) ≡ break_text names c (Spare w)
same_spare names c r v w s t =
    let ks : List Case = c.cases.items in
    let p : Case → Bool = λ k. case_holds k r in
    let counts : count_by p (take v.case ks) ≡ count_by p (take w.case ks) =
    the_same c.limits.most (count_by p (take v.case ks)) (count_by p (take w.case ks)) s.before t.before in
    let place : v.case ≡ w.case = later_place p ks v.case w.case s.case t.case s.there t.there counts s.holds t.holds in
    let same : s.case ≡ t.case = the_same (slice_get ks w.case) s.case t.case (sym (ap (slice_get ks) place) ∙ s.there) t.there in
    let line : v.line ≡ w.line = s.line ∙ ap (λ k. shown_in r k.tests.items) same ∙ sym t.line in
    ap (λ o. spare_at names o v.line) s.there
    ∙ ap (λ k. spare_text names k v.line) same
    ∙ ap (λ l. spare_text names t.case l) line
    ∙ sym (ap (λ o. spare_at names o w.line) t.there)

missing_not_all : (c : Claim) (r : ReportModel) (w : Witness) → ShowsMissing c r w → list_all (λ k. case_holds k r) c.cases.items ≡ false
missing_not_all c r w s =
    not_all (λ k. case_holds k r) c.cases.items w.case s.case s.there
    (not_all (λ u. test_holds u r) s.case.tests.items w.broken.test s.shown.test s.shown.there s.shown.fails)

pub same_reason : (names : List (List ℕ)) (c : Claim) (r : ReportModel) (one other : Break) → Shows c r one → Shows c r other
    → break_text names c one ≡ break_text names c other
same_reason names c r (Missing v) (Missing w) s t = same_missing names c r v w s.1 t.1
same_reason names c r (Missing v) (Spare w) s t = absurd (omega (arith, s.0, t.0))
same_reason names c r (Missing v) Fewer s t = let none = missing_not_all c r v s.1 in let all = t.0 in absurd (cc (none, all))
same_reason names c r (Spare v) (Missing w) s t = absurd (omega (arith, s.0, t.0))
same_reason names c r (Spare v) (Spare w) s t = same_spare names c r v w s.1 t.1
same_reason names c r (Spare v) Fewer s t = absurd (omega (arith, s.0, t.1, count_by-le-length (λ k. case_holds k r) c.cases.items))
same_reason names c r Fewer (Missing w) s t = let none = missing_not_all c r w t.1 in let all = s.0 in absurd (cc (none, all))
same_reason names c r Fewer (Spare w) s t = absurd (omega (arith, t.0, s.1, count_by-le-length (λ k. case_holds k r) c.cases.items))
same_reason names c r Fewer Fewer s t = refl

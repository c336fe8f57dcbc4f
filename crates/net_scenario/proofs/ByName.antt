-- The search for a program among programs in byte order of their names.
use Rattle.std.proofs.Common.{◌≡◌, ◌<◌, ◌≤◌, ◌+◌, ⊎_elim, ℕ, zero, suc, Bool, true, false, List, [], ◌∷◌, map, length}
use Rattle.std.proofs.Common.{get_or, refl, sym, ap, ◌∙◌, arith, Some, None, String, Global, string_bytes, string_cmp}
use Rattle.std.proofs.Common.{Ordering, Less, Equal, Greater, nat_cmp, is_eq, HoldsAt, BTreeMap}
use Rattle.std.proofs.lemmas.Bool.{cases_lt}
use Rattle.std.proofs.Math.Nat.{eq-or-lt_of_le}
use Rattle.std.proofs.lemmas.Cmp.{nat_list_cmp_total}
use Rattle.std.proofs.lemmas.List.{length-map}
use Rattle.std.proofs.lemmas.Map.Keys.{Less-from_sorted}
use Rattle.std.proofs.lemmas.Map.Text.{is_eq-slice_cmp}
use Rattle.std.proofs.lemmas.Slice.Eq.{bytes_eq-Decides}
use Rattle.std.specs.BTreeMap.{IsOrdered}
use Rattle.std.specs.Cmp.Lexicographic.{slice_cmp}
use Rattle.std.specs.List.{AllByRecursion, position_from}
use Rattle.std.specs.List.Sorted.{IsStrictlySortedBy, IsNonDecreasingBy, IsPartitionPoint}
use Rattle.std.specs.Map.{keys_of}
use Rattle.std.specs.Ordering.{ordering_index}
use Rattle.std.specs.Str.{bytes_eq}
use Rattle.toml.specs.View.{members_view, table_view}
use Rattle.toml.specs.declared.value.Value.{Value}
use Rattle.toml.proofs.Views.{Entry}
use Rattle.mote_net.specs.declared.programs.NamedProgram.{NamedProgram}
use Rattle.mote_net.specs.Meaning.{named_tree}
use Rattle.net_scenario.specs.Programs.{AllRead, program_texts}
use Rattle.net_scenario.specs.Reads.{AreSortedByName}

first_at : {X : Type 0} (test : X → Bool) (xs : List X) (k i : ℕ) (d : X) → i < length xs → test (get_or xs i d) ≡ true
    → ((j : ℕ) → j < i → test (get_or xs j d) ≡ false) → position_from test k xs ≡ Some (k + i)
first_at test [] k i d lt passes earlier = absurd (omega arith)
first_at test (x ∷ xs) k zero d lt passes earlier = rw passes (ap Some (omega arith))
first_at test (x ∷ xs) k (suc i) d lt passes earlier =
    let head : test x ≡ false = earlier 0 (omega arith) in
    let rest = first_at test xs (k + 1) i d (omega arith) passes (λ j b. earlier (suc j) (omega arith)) in
    let sum : (k + 1) + i ≡ k + suc i = omega arith in
    rw head (rest ∙ ap Some sum)

none_passes : {X : Type 0} (test : X → Bool) (xs : List X) (k : ℕ) (d : X)
    → ((j : ℕ) → j < length xs → test (get_or xs j d) ≡ false) → position_from test k xs ≡ None
none_passes test [] k d earlier = refl
none_passes test (x ∷ xs) k d earlier =
    let head : test x ≡ false = earlier 0 (omega arith) in
    rw head (none_passes test xs (k + 1) d (λ j b. earlier (suc j) (omega arith)))

tied : (a b : List ℕ) → slice_cmp nat_cmp a b ≡ Equal → bytes_eq a b ≡ true
tied a b e = sym (is_eq-slice_cmp a b) ∙ ap is_eq e

same : (a b : List ℕ) → slice_cmp nat_cmp a b ≡ Equal → a ≡ b
same a b e = (bytes_eq-Decides a b).0 (tied a b e)

apart_less : (a b : List ℕ) → slice_cmp nat_cmp a b ≡ Less → bytes_eq a b ≡ false
apart_less a b e = sym (is_eq-slice_cmp a b) ∙ ap is_eq e

apart_greater : (a b : List ℕ) → slice_cmp nat_cmp a b ≡ Greater → bytes_eq a b ≡ false
apart_greater a b e = sym (is_eq-slice_cmp a b) ∙ ap is_eq e

name_at : (ps : List NamedProgram) (i : ℕ) (d : NamedProgram) → get_or (map (λ p. p.name) ps) i d.name
    ≡ (get_or ps i d).name
name_at [] i d = refl
name_at (p ∷ ps) zero d = refl
name_at (p ∷ ps) (suc i) d = name_at ps i d

-- an earlier program has a smaller name
rises : (ps : List NamedProgram) (i j : ℕ) (d : NamedProgram) → AreSortedByName ps → i < j → j < length ps
    → slice_cmp nat_cmp (get_or ps i d).name (get_or ps j d).name ≡ Less
rises ps i j d s lt there =
    let many : length (map (λ (p : NamedProgram). p.name) ps) ≡ length ps =
    length-map ps (λ (p : NamedProgram). p.name) in
    let less = Less-from_sorted (slice_cmp nat_cmp) (map (λ (p : NamedProgram). p.name) ps) i j d.name s lt
    (omega (arith, many)) in
    rw (name_at ps i d, name_at ps j d) at less

-- if an element is less than a name, it is also less than an equal name
less_than_tied : (a b c : List ℕ) → slice_cmp nat_cmp a b ≡ Less → slice_cmp nat_cmp b c ≡ Equal
    → slice_cmp nat_cmp a c ≡ Less
less_than_tied a b c less e = ap (λ (x : List ℕ). slice_cmp nat_cmp a x) (sym (same b c e)) ∙ less

index_rises : (a b c : List ℕ) (x y : Ordering) → slice_cmp nat_cmp a c ≡ x → slice_cmp nat_cmp b c ≡ y
    → slice_cmp nat_cmp a b ≡ Less → ordering_index x ≤ ordering_index y
index_rises a b c Less y p q less = omega arith
index_rises a b c Equal Less p q less = let z = nat_list_cmp_total.trans a b c less q in cc
index_rises a b c Equal Equal p q less = omega arith
index_rises a b c Equal Greater p q less = omega arith
index_rises a b c Greater Less p q less = let z = nat_list_cmp_total.trans a b c less q in cc
index_rises a b c Greater Equal p q less = let z = less_than_tied a b c less q in cc
index_rises a b c Greater Greater p q less = omega arith

-- compared with a name, the programs are first less, then equal, then greater
against : (ps : List NamedProgram) (name : List ℕ) → AreSortedByName ps
    → IsNonDecreasingBy (λ p. ordering_index (slice_cmp nat_cmp p.name name)) ps
against ps name s i j d le there =
    ⊎_elim
    (λ (e : i ≡ j). let k : ordering_index (slice_cmp nat_cmp (get_or ps i d).name name)
    ≡ ordering_index (slice_cmp nat_cmp (get_or ps j d).name name) =
    ap (λ (n : ℕ). ordering_index (slice_cmp nat_cmp (get_or ps n d).name name)) e in omega (arith, k))
    (λ (lt : i < j). index_rises (get_or ps i d).name (get_or ps j d).name name _ _ refl refl
    (rises ps i j d s lt there))
    (eq-or-lt_of_le le)

-- the program that a binary search finds is the first one with its name
pub found_place : (ps : List NamedProgram) (name : List ℕ) (i : ℕ) → AreSortedByName ps → i < length ps
    → HoldsAt (λ p. slice_cmp nat_cmp p.name name ≡ Equal) ps i
    → Some i ≡ position_from (λ p. bytes_eq p.name name) 0 ps
found_place [] name i s lt h = absurd (omega arith)
found_place (q ∷ qs) name i s lt h =
    let ps = q ∷ qs in
    let less : (j : ℕ) → j < i → bytes_eq (get_or ps j q).name name ≡ false =
    λ j b. apart_less (get_or ps j q).name name (less_than_tied (get_or ps j q).name (get_or ps i q).name name
    (rises ps j i q s b lt) (h q)) in
    let sum : 0 + i ≡ i = omega arith in
    sym (first_at (λ (p : NamedProgram). bytes_eq p.name name) ps 0 i q lt (tied (get_or ps i q).name name (h q)) less
    ∙ ap Some sum)

-- if a binary search finds no program, no program has the name
pub no_place : (ps : List NamedProgram) (name : List ℕ) (i : ℕ) → AreSortedByName ps
    → (IsNonDecreasingBy (λ p. ordering_index (slice_cmp nat_cmp p.name name)) ps
    → IsPartitionPoint (λ p. slice_cmp nat_cmp p.name name ≡ Less) (λ p. slice_cmp nat_cmp p.name name ≡ Greater)
    ps i)
    → None ≡ position_from (λ p. bytes_eq p.name name) 0 ps
no_place [] name i s h = refl
no_place (q ∷ qs) name i s h =
    let ps = q ∷ qs in
    let point = h (against ps name s) in
    let apart : (j : ℕ) → j < length ps → bytes_eq (get_or ps j q).name name ≡ false =
    λ j b. ⊎_elim (λ (lt : j < i). apart_less (get_or ps j q).name name (point.0 j q (omega arith) lt))
    (λ (ge : i ≤ j). apart_greater (get_or ps j q).name name (point.1 j q ge b)) (cases_lt j i) in
    sym (none_passes (λ (p : NamedProgram). bytes_eq p.name name) ps 0 q apart)

bytes_after : (k : String Global) (ks : List (String Global)) → AllByRecursion (λ y. string_cmp k y ≡ Less) ks
    → AllByRecursion (λ y. slice_cmp nat_cmp (string_bytes k) y ≡ Less) (map string_bytes ks)
bytes_after k [] h = tt
bytes_after k (l ∷ ls) h = (h.0, bytes_after k ls h.1)

bytes_in_order : (ks : List (String Global)) → IsStrictlySortedBy string_cmp ks
    → IsStrictlySortedBy (slice_cmp nat_cmp) (map string_bytes ks)
unfolding IsStrictlySortedBy
bytes_in_order [] h = tt
bytes_in_order (k ∷ ks) h = (bytes_after k ks h.0, bytes_in_order ks h.1)

names_are : (es : List Entry) (ps : List NamedProgram) → AllRead (program_texts (members_view es)) (map named_tree ps)
    → map (λ p. p.name) ps ≡ map string_bytes (keys_of es)
names_are [] [] r = refl
names_are [] (p ∷ ps) r = absurd r
names_are (e ∷ es) [] r = absurd r
names_are (e ∷ es) (p ∷ ps) r =
    let head = r.0 in
    let rest = names_are es ps r.2 in
    cc

-- programs that were read from a table are in byte order of their names
pub read_in_order : (m : BTreeMap (String Global) Value) (ps : List NamedProgram) → IsOrdered string_cmp m
    → AllRead (program_texts (table_view m)) (map named_tree ps) → AreSortedByName ps
read_in_order m ps ordered r = rw (names_are m.entries ps r) (bytes_in_order (keys_of m.entries) ordered)

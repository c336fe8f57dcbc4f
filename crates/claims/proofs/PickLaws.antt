-- The line at an index, mote by mote and line by line.
use Rattle.std.proofs.Common.{◌≡◌, ◌∙◌, refl, ap, arith, ℕ, zero, suc, ◌+◌, ◌-◌, ◌<◌, ◌≤◌, Bool, true, false, cond, ◌&&◌, List, [], ◌∷◌, ◌++◌, length, get_or, drop, filter, slice_get}
use Rattle.std.specs.List.{flat_map, enumerate_from}
use Rattle.std.proofs.lemmas.List.{drop_more}
use Rattle.std.proofs.lemmas.List.Sums.{length-filter}
use Rattle.mote_net.specs.Report.{ReportModel}
use Rattle.claims.specs.declared.lines.Lines.{Lines}
use Rattle.claims.specs.declared.trace.Watched.{Watched}
use Rattle.claims.specs.Traces.{trace_at, found_at, lines_of_mote, shows}
use Rattle.claims.specs.PerMote.{count_in, is_counted, counted_in}
use Rattle.claims.specs.Lines.{is_wanted, wanted_lines}
use Rattle.claims.proofs.ListLaws.{count_by-map}

filter-append : {A : Type 0} (q : A → Bool) (xs ys : List A) → filter q (xs ++ ys) ≡ filter q xs ++ filter q ys
filter-append q [] ys = refl
filter-append q (x ∷ xs) ys =
    elim (q x) as (λ b. cond b (x ∷ filter q (xs ++ ys)) (filter q (xs ++ ys)) ≡ cond b (x ∷ filter q xs) (filter q xs) ++ filter q ys)
    [ true ↦ ap (λ l. x ∷ l) (filter-append q xs ys) | false ↦ filter-append q xs ys ]

filter-filter : {A : Type 0} (q p : A → Bool) (xs : List A) → filter q (filter p xs) ≡ filter (λ x. p x && q x) xs
filter-filter q p [] = refl
filter-filter q p (x ∷ xs) =
    elim (p x) as (λ b. filter q (cond b (x ∷ filter p xs) (filter p xs)) ≡ cond (b && q x) (x ∷ filter (λ y. p y && q y) xs) (filter (λ y. p y && q y) xs))
    [ true ↦ ap (λ l. cond (q x) (x ∷ l) l) (filter-filter q p xs) | false ↦ filter-filter q p xs ]

filter-flat_map : {A B : Type 0} (q : B → Bool) (p : A → B → Bool) (f : A → List B) (xs : List A) → filter q (flat_map (λ x. filter (p x) (f x)) xs) ≡ flat_map (λ x. filter (λ y. p x y && q y) (f x)) xs
filter-flat_map q p f [] = refl
filter-flat_map q p f (x ∷ xs) =
    filter-append q (filter (p x) (f x)) (flat_map (λ y. filter (p y) (f y)) xs)
    ∙ ap (λ l. l ++ filter q (flat_map (λ y. filter (p y) (f y)) xs)) (filter-filter q (p x) (f x))
    ∙ ap (λ l. filter (λ y. p x y && q y) (f x) ++ l) (filter-flat_map q p f xs)

pub wanted-by-watch : (s : Lines) (r : ReportModel) → wanted_lines s r ≡ flat_map (counted_in s r) s.deed.watches.items
wanted-by-watch s r = filter-flat_map (is_wanted s.order r) (λ w f. shows s.deed w f.line) (λ w. lines_of_mote r w.mote) s.deed.watches.items

pub length-counted : (s : Lines) (r : ReportModel) (w : Watched) → length (counted_in s r w) ≡ count_in (is_wanted s.order r) r s.deed w
length-counted s r w = length-filter (is_counted s r w) (lines_of_mote r w.mote) ∙ count_by-map (is_counted s r w) (found_at w.mote) (enumerate_from 0 (trace_at r w.mote))

get-append-left : {A : Type 0} (xs ys : List A) (n : ℕ) → n < length xs → slice_get (xs ++ ys) n ≡ slice_get xs n
get-append-left [] ys n h = absurd (omega arith)
get-append-left (x ∷ xs) ys zero h = refl
get-append-left (x ∷ xs) ys (suc n) h = get-append-left xs ys n (omega arith)

get-append-right : {A : Type 0} (xs ys : List A) (n : ℕ) → length xs ≤ n → slice_get (xs ++ ys) n ≡ slice_get ys (n - length xs)
get-append-right [] ys n h = ap (slice_get ys) (omega arith)
get-append-right (x ∷ xs) ys zero h = absurd (omega arith)
get-append-right (x ∷ xs) ys (suc n) h = get-append-right xs ys n (omega arith) ∙ ap (slice_get ys) (omega arith)

pub get-here : {A B : Type 0} (g : B → List A) (ms : List B) (i n : ℕ) (d : B) → i < length ms → n < length (g (get_or ms i d)) → slice_get (flat_map g (drop i ms)) n ≡ slice_get (g (get_or ms i d)) n
get-here g ms i n d h k = ap (λ l. slice_get (flat_map g l) n) (drop_more ms i d h) ∙ get-append-left (g (get_or ms i d)) (flat_map g (drop (i + 1) ms)) n k

pub get-later : {A B : Type 0} (g : B → List A) (ms : List B) (i n : ℕ) (d : B) → i < length ms → length (g (get_or ms i d)) ≤ n → slice_get (flat_map g (drop i ms)) n ≡ slice_get (flat_map g (drop (i + 1) ms)) (n - length (g (get_or ms i d)))
get-later g ms i n d h k = ap (λ l. slice_get (flat_map g l) n) (drop_more ms i d h) ∙ get-append-right (g (get_or ms i d)) (flat_map g (drop (i + 1) ms)) n k

-- The changes that one more line at the end of a trace causes.
use Rattle.std.proofs.Common.{ℕ, zero, suc, ◌≡◌, ◌+◌, ◌<◌, ◌==◌, ◌&&◌, not, Bool, true, false, List, [], ◌∷◌, ◌++◌, length, refl, ap, ◌∙◌, append_assoc, append-nil, arith, rules}
use Rattle.std.specs.List.{Contains}
use Rattle.std.proofs.lemmas.Bool.Decides.{nat_tests}
use Rattle.kernel_laws.specs.HandedOn.{Line, Post, Incarnation, is_on, without, list_after, listed_from, process_list, posted_serials, handing_at, handings_behind}
use Rattle.kernel_laws.specs.Delivery.{take_or_drop}

listed_from_more : (n : ℕ) (list : List Incarnation) (ls : List Line) (l : Line) → listed_from n list (ls ++ l ∷ []) ≡ list_after (n + length ls) (listed_from n list ls) l
listed_from_more n list [] l = search rules
listed_from_more n list (x ∷ ls) l = let e : (n + 1) + length ls ≡ n + length (x ∷ ls) = omega arith in listed_from_more (n + 1) (list_after n list x) ls l ∙ ap (λ k. list_after k (listed_from (n + 1) (list_after n list x) ls) l) e

pub listed_more : (ls : List Line) (l : Line) → process_list (ls ++ l ∷ []) ≡ list_after (length ls) (process_list ls) l
listed_more ls l = let e : 0 + length ls ≡ length ls = omega arith in listed_from_more 0 [] ls l ∙ ap (λ k. list_after k (process_list ls) l) e

pub handings_joined : (b ls more : List Line) → handings_behind b (ls ++ more) ≡ handings_behind b ls ++ handings_behind (b ++ ls) more
handings_joined b [] more = rw append-nil refl
handings_joined b (x ∷ ls) more = rw (handings_joined (b ++ x ∷ []) ls more, append_assoc (handing_at b x) _ _, append_assoc b (x ∷ []) ls) refl

pub handings_more : (b ls : List Line) (l : Line) → handings_behind b (ls ++ l ∷ []) ≡ handings_behind b ls ++ handing_at (b ++ ls) l
handings_more b ls l = handings_joined b ls (l ∷ []) ∙ rw append-nil refl

pub posted_more : (ls : List Line) (l : Line) → posted_serials (ls ++ l ∷ []) ≡ posted_serials ls ++ posted_serials (l ∷ [])
posted_more [] l = refl
posted_more (Post s g ∷ ls) l = ap (λ xs. s ∷ xs) (posted_more ls l)
posted_more (x ∷ ls) l = posted_more ls l

pub on_start : (list : List Incarnation) (p n : ℕ) (x : Incarnation) → x.number < n → is_on (record { process = p; number = n } ∷ list) x ≡ is_on list x
on_start list p n x h = grind (arith, nat_tests)

pub on_leave : (list : List Incarnation) (p : ℕ) (x : Incarnation) → is_on (without list p) x ≡ (is_on list x && not (x.process == p))
on_leave [] p x = refl
on_leave (i ∷ list) p x = grind (arith, nat_tests, on_leave list p x)

pub given_handing : (there : Bool) (s p : ℕ) (b : List Line) → handing_at b (take_or_drop there s p) ≡ record { serial = s; process = p; taken = there; before = b } ∷ []
given_handing true s p b = refl
given_handing false s p b = refl

pub given_list : (there : Bool) (s p n : ℕ) (list : List Incarnation) → list_after n list (take_or_drop there s p) ≡ list
given_list true s p n list = refl
given_list false s p n list = refl

pub given_posted : (there : Bool) (s p : ℕ) → posted_serials (take_or_drop there s p ∷ []) ≡ []
given_posted true s p = refl
given_posted false s p = refl

pub alone : (x y : Line) → Contains (x ∷ []) y → x ≡ y
alone x y (zero, b, e) = e
alone x y (suc k, b, e) = absurd (omega arith)

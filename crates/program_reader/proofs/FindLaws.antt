-- The results of `find` and `position`, in terms of the lexer's definitions.
use Rattle.std.proofs.Common.{◌≡◌, nat_lt, ◌≤◌, not, ℕ, List, [], ◌∷◌, length, map, Bool, true, false, cond, Option}
use Rattle.std.proofs.Common.{Some, None, refl, ap, ◌∙◌, arith, bytes_eq}
use Rattle.std.specs.Prelude.{find, option_map, unwrap_or, nat_eq}
use Rattle.std.specs.Borrow.{Bor}
use Rattle.std.specs.List.{position, position_or_len, prefix_len, starts_with}
use Rattle.std.proofs.lemmas.Bool.{ltb-false}
use Rattle.std.proofs.lemmas.List.Sums.{prefix_len-le-length}
use Rattle.program_tree.specs.declared.token.Token.{Token as TokenRead}
use Rattle.program_reader.specs.Front.{token_entry}
use Rattle.program_tree.specs.TokenMeaning.{token_of}
use Rattle.program_tree.specs.Words.{lookup}

-- the place that was found, or otherwise the end
place_or_end : (b : Bool) (n l : ℕ) → nat_lt n l ≡ b → n ≤ l → unwrap_or (cond b (Some n) None) l ≡ n
place_or_end true n l h w = refl
place_or_end false n l h w = omega (arith, ltb-false n l h)

pub front_len : (test : ℕ → Bool) (xs : List ℕ) (found : Option ℕ) → found ≡ position test xs
    → unwrap_or found (length xs) ≡ position_or_len test xs
front_len test xs found e =
    ap (λ o. unwrap_or o (length xs)) e ∙ place_or_end _ (position_or_len test xs) (length xs) refl
    (prefix_len-le-length (λ x. not (test x)) xs)

-- a double negation
twice : (b : Bool) → not (not b) ≡ b
twice true = refl
twice false = refl

pub same_front_len : (test : ℕ → Bool) (xs : List ℕ) → prefix_len (λ x. not (not (test x))) xs ≡ prefix_len test xs
same_front_len test [] = refl
same_front_len test (x ∷ xs) = rw (twice (test x), same_front_len test xs) refl

mapped : {A B : Type 0} (f : A → B) (b : Bool) (x : A) (o : Option A) → option_map f (cond b (Some x) o)
    ≡ cond b (Some (f x)) (option_map f o)
mapped f true x o = refl
mapped f false x o = refl

pub lookup_found : (table : List (Bor (List ℕ) × TokenRead)) (word : List ℕ)
    → option_map (λ e. token_of e.1) (find (λ e. bytes_eq e.0.now word) table) ≡ lookup (map token_entry table) word
lookup_found [] word = refl
lookup_found (e ∷ table) word =
    mapped (λ e. token_of e.1) (bytes_eq e.0.now word) e (find (λ e. bytes_eq e.0.now word) table)
    ∙ ap (λ o. cond (bytes_eq e.0.now word) (Some (token_of e.1)) o) (lookup_found table word)

pub mapped_twice : (found : Option (Bor (Bor (List ℕ) × TokenRead)))
    → option_map token_of (option_map (λ e. e.now.1) found) ≡ option_map (λ e. token_of e.1)
    (option_map (λ e. e.now) found)
mapped_twice None = refl
mapped_twice (Some e) = refl

pub sign_found : (signs : List (Bor (List ℕ) × TokenRead)) (text : List ℕ)
    → option_map token_entry (find (λ s. starts_with nat_eq text s.0.now) signs) ≡ find (λ s. starts_with nat_eq text s.0)
    (map token_entry signs)
sign_found [] text = refl
sign_found (s ∷ signs) text =
    mapped token_entry (starts_with nat_eq text s.0.now) s (find (λ s. starts_with nat_eq text s.0.now) signs)
    ∙ ap (λ o. cond (starts_with nat_eq text s.0.now) (Some (token_entry s)) o) (sign_found signs text)

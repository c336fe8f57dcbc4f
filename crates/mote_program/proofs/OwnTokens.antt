-- A program can have the tokens of a text if none of them breaks a rule.
use Rattle.std.proofs.Common.{◌≡◌, ◌≢◌, ◌≤◌, nat_lt, ℕ, min, List, [], ◌∷◌, ◌++◌, Bool, true, false, ◌||◌, Option}
use Rattle.std.proofs.Common.{Some, None, refl, ap, sym, ◌∙◌, subst, arith, append_assoc, eqb, IsTrue, if◌then◌else◌}
use Rattle.std.proofs.lemmas.Bool.{and_parts, ltb-false}
use Rattle.std.proofs.lemmas.List.{map-append}
use Rattle.std.specs.List.{list_all, starts_with}
use Rattle.std.specs.Str.{bytes_eq}
use Rattle.std.specs.Str.Parse.{digits_value}
use Rattle.program_tree.specs.Faults.{IsProgram, scope_of, role_breaks, begun_breaks}
use Rattle.program_tree.specs.Grammar.{Role, value, Mark, tokens, program_marks}
use Rattle.program_tree.specs.Shapes.{ProgramShape}
use Rattle.program_tree.specs.Text.{signs, sign_at, Piece, Blank, Comment, Word, Sign, Other, AllFit, tokens_of}
use Rattle.program_tree.specs.Text.{IsLexed}
use Rattle.program_tree.specs.Tokens as token
use Rattle.program_tree.specs.Tokens.{Token}
use Rattle.program_tree.specs.Words.{is_word_byte, is_number, is_name, lookup, keywords, word_token}
use Rattle.program_tree.specs.declared.error.ReadErrorKind.TheVariants.{BadToken, NumberTooLarge}
use Rattle.mote_program.proofs.LexedAgain.{IsOwn, NoEquals, AreOwn}
use Rattle.program_reader.proofs.PieceLaws.{found_among}
use Rattle.program_reader.proofs.WordLaws.{number_token, table_token, other_token}

-- ---- names in the form that the lexer returns

abbrev IsLexedName : Token → Type 0
IsLexedName (token.Name x) = (x ≢ []) × (list_all is_word_byte x ≡ true) × (word_token x ≡ token.Name x)
IsLexedName t = Unit {0}

abbrev pub AreLexedNames : List Token → Type 0
AreLexedNames [] = Unit {0}
AreLexedNames (t ∷ ts) = IsLexedName t × AreLexedNames ts

abbrev is_no_name : Token → Bool
is_no_name (token.Name x) = false
is_no_name t = true

no_name : (t : Token) → is_no_name t ≡ true → IsLexedName t
no_name (token.Name x) h = absurd cc
no_name t h = tt

no_keyword_names : list_all (λ e. is_no_name e.1) keywords ≡ true
unfolding keywords
no_keyword_names = refl

no_sign_names : list_all (λ s. is_no_name s.1) signs ≡ true
unfolding signs
no_sign_names = refl

looked_up : (table : List (List ℕ × Token)) (w : List ℕ) (t : Token) → list_all (λ e. is_no_name e.1) table ≡ true
    → lookup table w ≡ Some t → is_no_name t ≡ true
looked_up [] w t all h = absurd cc
looked_up (e ∷ table) w t all h = go (bytes_eq e.0 w) h
    (and_parts (is_no_name e.1) (list_all (λ e. is_no_name e.1) table) all) (looked_up table w t)
  where
    go : (b : Bool) → (if b then Some e.1 else lookup table w) ≡ Some t → (is_no_name e.1 ≡ true)
        × (list_all (λ e. is_no_name e.1) table ≡ true)
        → (list_all (λ e. is_no_name e.1) table ≡ true → lookup table w ≡ Some t → is_no_name t ≡ true)
        → is_no_name t ≡ true
    go true k parts rest = let same : e.1 ≡ t = cc in subst (λ z. is_no_name z ≡ true) same parts.0
    go false k parts rest = rest parts.1 k

word_lexed : (w : List ℕ) → w ≢ [] → list_all is_word_byte w ≡ true → IsLexedName (word_token w)
word_lexed w some all = by_number (is_number w) refl
  where
    by_name : (b : Bool) → is_name w ≡ b → is_number w ≡ false → lookup keywords w ≡ None → IsLexedName (word_token w)
    by_name true e number none =
        let is : token.Name w ≡ word_token w = other_token w (token.Name w) number none
        (sym (ap (λ b. if b then token.Name w else token.Bad) e)) in
        subst IsLexedName is (some, all, sym is)
    by_name false e number none =
        let is : token.Bad ≡ word_token w = other_token w token.Bad number none
        (sym (ap (λ b. if b then token.Name w else token.Bad) e)) in
        subst IsLexedName is tt

    by_table : (o : Option Token) → lookup keywords w ≡ o → is_number w ≡ false → IsLexedName (word_token w)
    by_table None e number = by_name (is_name w) refl number e
    by_table (Some t) e number = subst IsLexedName (table_token w t number e)
        (no_name t (looked_up keywords w t no_keyword_names e))

    by_number : (b : Bool) → is_number w ≡ b → IsLexedName (word_token w)
    by_number true e = subst IsLexedName (number_token w (min (digits_value 10 w) 65536) e refl) tt
    by_number false e = by_table (lookup keywords w) refl e

sign_lexed : (text bytes : List ℕ) (t : Token) → sign_at text ≡ Some (bytes, t) → IsLexedName t
sign_lexed text bytes t h = no_name t (found_among (λ s. starts_with eqb text s.0) (λ s. is_no_name s.1) signs
    (bytes, t) no_sign_names h)

pieces_lexed : (ps : List Piece) → AllFit ps → AreLexedNames (tokens_of ps)
pieces_lexed [] fit = tt
pieces_lexed (Blank b ∷ ps) fit = pieces_lexed ps fit.1
pieces_lexed (Comment bytes ∷ ps) fit = pieces_lexed ps fit.1
pieces_lexed (Word w ∷ ps) fit = (word_lexed w fit.0.0 fit.0.1, pieces_lexed ps fit.1)
pieces_lexed (Sign bytes t ∷ ps) fit = (sign_lexed _ bytes t fit.0.0, pieces_lexed ps fit.1)
pieces_lexed (Other b ∷ ps) fit = (tt, pieces_lexed ps fit.1)

pub names_lexed : (text : List ℕ) (ts : List Token) (ls : List ℕ) → IsLexed text ts ls → AreLexedNames ts
names_lexed text ts ls lexed = subst AreLexedNames (sym lexed.matches) (pieces_lexed lexed.pieces lexed.fit)

-- ---- marks

-- A number has the role of a number. Marks are fair if their numbers have this role, and no `!` is followed by a token
-- that would make it another sign.
abbrev pub PlaysItsPart : Token → Role → Type 0
PlaysItsPart (token.Number n) r = r ≡ value n
PlaysItsPart t r = Unit {0}

abbrev pub AreFair : List Mark → Type 0
AreFair [] = Unit {0}
AreFair (m ∷ ms) = PlaysItsPart m.token m.role × NoEquals m.token (tokens ms) × AreFair ms

own_token : (t : Token) (r : Role) → IsLexedName t → PlaysItsPart t r → (t ≡ token.Bad → ⊥)
    → ((n : ℕ) → r ≡ value n → n ≤ 65535) → IsOwn t
own_token (token.Name x) r lexed plays good low = lexed
own_token (token.Number n) r lexed plays good low = low n plays
own_token token.Bad r lexed plays good low = good refl
own_token t r lexed plays good low = tt

small : (n : ℕ) (b : Bool) → nat_lt 65535 n ≡ b → (nat_lt 65535 n ≡ true → ⊥) → n ≤ 65535
small n true e h = absurd (h e)
small n false e h = omega (arith, ltb-false _ _ e)

own_from : (p : ProgramShape) (before after : List Mark) → IsProgram p (tokens (program_marks p []))
    → program_marks p [] ≡ before ++ after → AreFair after → AreLexedNames (tokens after) → AreOwn (tokens after)
own_from p before [] program e fair lexed = tt
own_from p before (m ∷ ms) program e fair lexed =
    let split : tokens (program_marks p []) ≡ tokens before ++ (m.token ∷ tokens ms) =
    ap tokens e ∙ map-append (λ m. m.token) before (m ∷ ms) in
    let good : m.token ≡ token.Bad → ⊥ = λ bad. program.sound (tokens before) (m.token ∷ tokens ms) BadToken split
    (tokens ms, ap (λ t. t ∷ tokens ms) bad) in
    let low : (n : ℕ) → m.role ≡ value n → n ≤ 65535 =
    λ n is. small n (nat_lt 65535 n) refl (λ large. program.sound (tokens before) (m.token ∷ tokens ms)
    NumberTooLarge split (record {
      shape = p;
      marks = before;
      mark = m;
      later = ms;
      after = tokens ms;
      spelled = e;
      begins = refl;
      at = refl;
      broken = subst (λ r. IsTrue (role_breaks NumberTooLarge (scope_of before) r || begun_breaks NumberTooLarge
          (scope_of before) m.begins)) (sym is) (subst (λ b. IsTrue
          (b || begun_breaks NumberTooLarge (scope_of before) m.begins)) (sym large) refl);
    })) in (
      own_token m.token m.role lexed.0 fair.0 good low,
      fair.1,
      own_from p (before ++ m ∷ []) ms program
          (e ∙ sym (append_assoc before (m ∷ []) ms)) fair.2 lexed.1,
    )

pub own_tokens : (p : ProgramShape) → IsProgram p (tokens (program_marks p [])) → AreFair (program_marks p [])
    → AreLexedNames (tokens (program_marks p [])) → AreOwn (tokens (program_marks p []))
own_tokens p program fair lexed = own_from p [] (program_marks p []) program refl fair lexed

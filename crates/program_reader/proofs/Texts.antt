-- Texts, their trees and their reported errors.
use Rattle.std.proofs.Common.{◌≡◌, ◌∙◌, ℕ, ◌-◌, ◌<◌, ◌≤◌, List, [], ◌∷◌, ◌++◌, length, map, refl, sym, ap, subst}
use Rattle.std.proofs.Common.{arith, Bool, true, false, nat_lt, Some, get_or, ◌⊎◌, inl, inr}
use Rattle.std.specs.Prelude.{slice_get}
use Rattle.std.proofs.lemmas.Bool.{ltb-true, ltb-false}
use Rattle.std.proofs.lemmas.List.{length-append, length-map}
use Rattle.std.proofs.lemmas.Option.{slice_get-get_or}
use Rattle.program_tree.specs.Code.{Tree}
use Rattle.program_tree.specs.Faults.{nothing_yet, IsProgram, IsFirstFault}
use Rattle.program_tree.specs.ReadingLaws.{IsFirstFaultAt}
use Rattle.program_tree.specs.Grammar.{program_marks}
use Rattle.program_tree.specs.Kinds.{kind_number}
use Rattle.program_reader.specs.Machine.{Verdict, tell, whole, fault, from_events}
use Rattle.program_tree.specs.Reading.{IsTreeOfTokens, IsTreeOf, IsErrorOf}
use Rattle.program_tree.specs.ReadingLaws.{HasTreeOrFault}
use Rattle.program_tree.specs.Numbers.{tree_of_shape}
use Rattle.program_tree.specs.Shapes.{ProgramShape}
use Rattle.program_tree.specs.Text.{IsLexed}
use Rattle.program_tree.specs.Tokens.{Token}
use Rattle.program_tree.specs.TokenMeaning.{token_of}
use Rattle.program_tree.specs.declared.error.ReadErrorKind.{ReadErrorKind}
use Rattle.program_tree.specs.declared.error.ReadErrorKind.TheVariants.{BadToken, Unexpected, UnknownName, NameTwice}
use Rattle.program_tree.specs.declared.error.ReadErrorKind.TheVariants.{NumberTooLarge, WaitInSimpleBlock, TooDeep}
use Rattle.program_tree.specs.declared.error.ReadErrorKind.TheVariants.{TooMany, NoProcess, BadTarget, Memory}
use Rattle.program_tree.specs.declared.token.Token.{Token as TokenRead}
use Rattle.program_reader.proofs.Turns.{same_marks, same_parts}
use Rattle.program_reader.proofs.TextLaws.{length-lines, every_text, one_lexing}
use Rattle.program_reader.proofs.OnRecord.{Judged, judged, same_front, shape_from, parts_of_program}

-- tokens are the tokens of at most one program
only_one : (p q : ProgramShape) (text : List Token) → IsProgram p text → IsProgram q text → p ≡ q
only_one p q text h k =
    let same = same_marks (program_marks p []) (program_marks q []) (from_events ∷ []) (parts_of_program p, tt)
    (parts_of_program q, tt) refl refl (h.spelled ∙ sym k.spelled) in
    ap (λ ps. shape_from ps.0) (same_parts (program_marks q []) (from_events ∷ []) (parts_of_program p, tt)
    (parts_of_program q, tt) same refl)

pub one_tree : (text : List ℕ) (t u : Tree) → IsTreeOf text t → IsTreeOf text u → t ≡ u
one_tree text t u h k =
    let e = one_lexing text h.tokens k.tokens h.lines k.lines h.lexed k.lexed in
    h.spelled.numbered ∙ ap tree_of_shape (only_one h.spelled.shape k.spelled.shape k.tokens
    (subst (λ ts. IsProgram h.spelled.shape ts) e.0 h.spelled.program) k.spelled.program) ∙ sym k.spelled.numbered

pub tree_read : (text : List ℕ) (ts : List Token) (ls : List ℕ) (t : Tree) → IsLexed text ts ls → IsTreeOfTokens ts t
    → IsTreeOf text t
tree_read text ts ls t lexed h = record { tokens = ts; lines = ls; lexed = lexed; spelled = h }

pub read_fails : (k : ReadErrorKind) (left : ℕ) (text : List Token) → tell nothing_yet (from_events ∷ []) text
    ≡ fault k left → IsFirstFaultAt k left text
read_fails k left text e = subst (λ v. Judged v text) e (judged text)

-- a reported error, as the reader returns it
line_is_there : (ls : List ℕ) (i : ℕ) → i < length ls → slice_get ls i ≡ Some (get_or ls i 0)
line_is_there ls i h = slice_get-get_or ls i 0 h

at_split : (ts before rest : List Token) (left : ℕ) → ts ≡ before ++ rest → length rest ≡ left
    → length before ≡ length ts - left
at_split ts before rest left e h = omega (arith, ap length e, length-append before rest, h)

pub reported_within : (k : ReadErrorKind) (left : ℕ) (ts : List TokenRead)
    → tell nothing_yet (from_events ∷ []) (map token_of ts) ≡ fault k left → left ≤ length ts
reported_within k left ts e =
    let t = read_fails k left (map token_of ts) e in
    omega (arith, ap length t.2, length-append t.0 t.1, t.3, length-map ts token_of)

pub line_within : (text : List ℕ) (ts : List TokenRead) (ls : List ℕ) (left : ℕ) → IsLexed text (map token_of ts) ls
    → length ts - left < length ls
line_within text ts ls left h = omega (arith, length-lines text (map token_of ts) ls h, length-map ts token_of)

pub reported_read : (text : List ℕ) (ts : List TokenRead) (ls : List ℕ) (k : ReadErrorKind) (left line : ℕ)
    → IsLexed text (map token_of ts) ls → tell nothing_yet (from_events ∷ []) (map token_of ts) ≡ fault k left →
    slice_get ls (length ts - left) ≡ Some line → IsErrorOf text k line
reported_read text ts ls k left line lexed e at =
    let t = read_fails k left (map token_of ts) e in
    let here : length t.0 ≡ length ts - left = at_split (map token_of ts) t.0 t.1 left t.2 t.3
    ∙ ap (λ n. n - left) (length-map ts token_of) in
    record {
      tokens = map token_of ts;
      lines = ls;
      lexed = lexed;
      before = t.0;
      rest = t.1;
      split = t.2;
      matches = t.4;
      in_state = ap (λ i. slice_get ls i) here ∙ at;
    }

-- a failed allocation isn't an error of the text
never_memory : (before rest : List Token) → IsFirstFault Memory before rest → ⊥
never_memory before rest h = absurd (cc (h.here.broken))

pub reports_no_memory : (text : List ℕ) (line : ℕ) → IsErrorOf text Memory line → ⊥
reports_no_memory text line h = never_memory h.before h.rest h.matches

-- a text can't have both a tree and a reported error
pub never_both : (text : List ℕ) (t : Tree) (k : ReadErrorKind) (line : ℕ) → IsTreeOf text t → IsErrorOf text k line → ⊥
never_both text t k line h f =
    let e = one_lexing text h.tokens f.tokens h.lines f.lines h.lexed f.lexed in
    h.spelled.program.sound f.before f.rest k (e.0 ∙ f.split) f.matches.here

by_verdict : (text : List ℕ) (ts : List Token) (ls : List ℕ) (v : Verdict) → IsLexed text ts ls → Judged v ts
    → ((t : Tree) × IsTreeOf text t) ⊎ ((k : ReadErrorKind) × (line : ℕ) × IsErrorOf text k line)
by_verdict text ts ls whole lexed h = inl (
  tree_of_shape h.0,
  record {
    tokens = ts;
    lines = ls;
    lexed = lexed;
    spelled = record { shape = h.0; program = h.1; numbered = refl };
  },
)
by_verdict text ts ls (fault k left) lexed h = inr (
  k,
  get_or ls (length h.0) 0,
  record {
    tokens = ts;
    lines = ls;
    lexed = lexed;
    before = h.0;
    rest = h.1;
    split = h.2;
    matches = h.4;
    in_state = line_is_there ls (length h.0) (omega (
      arith,
      length-lines text ts ls lexed,
      ap length h.2,
      length-append h.0
          h.1,
    ));
  },
)

pub tree_or_reported : (text : List ℕ) → HasTreeOrFault text
tree_or_reported text =
    let l = every_text text in
    record {
      one = by_verdict text l.0 l.1 (tell nothing_yet (from_events ∷ []) l.0) l.2 (judged l.0);
      apart = never_both text;
    }

-- a text has at most one reported error
same_kind : (j k : ReadErrorKind) → kind_number j ≡ kind_number k → j ≡ k
same_kind BadToken BadToken e = refl
same_kind Unexpected Unexpected e = refl
same_kind UnknownName UnknownName e = refl
same_kind NameTwice NameTwice e = refl
same_kind NumberTooLarge NumberTooLarge e = refl
same_kind WaitInSimpleBlock WaitInSimpleBlock e = refl
same_kind TooDeep TooDeep e = refl
same_kind TooMany TooMany e = refl
same_kind NoProcess NoProcess e = refl
same_kind BadTarget BadTarget e = refl
same_kind Memory Memory e = refl
same_kind j k e = absurd cc

same_here : (j k : ReadErrorKind) (before rest : List Token) → IsFirstFault j before rest → IsFirstFault k before rest → j ≡ k
same_here j k before rest h i = go (nat_lt (kind_number j) (kind_number k)) (nat_lt (kind_number k) (kind_number j))
    refl refl
  where
    go : (b c : Bool) → nat_lt (kind_number j) (kind_number k) ≡ b → nat_lt (kind_number k) (kind_number j) ≡ c → j ≡ k
    go true c d e = absurd (i.least j (ltb-true _ _ d) h.here)
    go false true d e = absurd (h.least k (ltb-true _ _ e) i.here)
    go false false d e = same_kind j k (omega (arith, ltb-false _ _ d, ltb-false _ _ e))

same_reported : (j k : ReadErrorKind) (b r c s : List Token) → b ++ r ≡ c ++ s → IsFirstFault j b r → IsFirstFault k c s → (j ≡ k)
    × (length b ≡ length c)
same_reported j k b r c s e h i = go (nat_lt (length b) (length c)) (nat_lt (length c) (length b)) refl refl
  where
    go : (u v : Bool) → nat_lt (length b) (length c) ≡ u → nat_lt (length c) (length b) ≡ v → (j ≡ k)
        × (length b ≡ length c)
    go true v x y = absurd (i.earliest b r j (sym e) (ltb-true _ _ x) h.here)
    go false true x y = absurd (h.earliest c s k e (ltb-true _ _ y) i.here)
    go false false x y =
        let l : length b ≡ length c = omega (arith, ltb-false _ _ x, ltb-false _ _ y) in
        let q = same_front b c r s e l in
        (same_here j k c s (subst (λ z. IsFirstFault j c z) q.1 (subst (λ z. IsFirstFault j z r) q.0 h)) i, l)

pub one_reported : (text : List ℕ) (j k : ReadErrorKind) (l m : ℕ) → IsErrorOf text j l → IsErrorOf text k m → (j ≡ k)
    × (l ≡ m)
one_reported text j k l m h i =
    let e = one_lexing text h.tokens i.tokens h.lines i.lines h.lexed i.lexed in
    let q = same_reported j k h.before h.rest i.before i.rest (sym h.split ∙ e.0 ∙ i.split) h.matches i.matches in
    let at : Some l ≡ Some m = sym h.in_state ∙ ap (λ ls. slice_get ls (length h.before)) e.1
    ∙ ap (λ n. slice_get i.lines n) q.1 ∙ i.in_state in
    (q.0, cc at)

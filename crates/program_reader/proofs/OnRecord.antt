-- The machine reports the first error, and accepts only programs.
use Rattle.std.proofs.Common.{◌≡◌, ℕ, suc, ◌<◌, List, [], ◌∷◌, ◌++◌, length, refl, sym, ap, ◌∙◌, subst, arith}
use Rattle.std.proofs.Common.{append_assoc, Bool, true, false, nat_lt, if◌then◌else◌, Option, Some, None, IsTrue, ◌⊎◌}
use Rattle.std.proofs.Common.{inl, inr}
use Rattle.std.proofs.lemmas.List.{map-append, length-append, append-nil}
use Rattle.std.proofs.lemmas.Bool.{ltb-true, ltb-false}
use Rattle.program_tree.specs.Grammar.{Mark, tokens, program_marks}
use Rattle.program_reader.specs.Machine.{Symbol, Pending, Step, unexpected_token, take, step, tell, verdict_after, end_kind, Verdict}
use Rattle.program_reader.specs.Machine.{whole, fault, from_events, from_semaphores, first_process, first_broken_of}
use Rattle.program_reader.specs.Machine.{rules_on_marks, first_broken, fault_or, unfit_kind, operand}
use Rattle.program_tree.specs.Shapes.{ProgramShape}
use Rattle.program_tree.specs.Kinds.{kind_number}
use Rattle.program_tree.specs.Faults.{Scope, nothing_yet, scope_after, scope_from, scope_of, breaks, CanFollow}
use Rattle.program_tree.specs.Faults.{LacksProcess, Breach, IsFault, IsProgram}
use Rattle.program_tree.specs.ReadingLaws.{IsFirstFaultAt}
use Rattle.program_tree.specs.Tokens.{Token}
use Rattle.program_tree.specs.declared.error.ReadErrorKind.{ReadErrorKind}
use Rattle.program_tree.specs.declared.error.ReadErrorKind.TheVariants.{BadToken, Unexpected, UnknownName, NameTwice}
use Rattle.program_tree.specs.declared.error.ReadErrorKind.TheVariants.{NumberTooLarge, WaitInSimpleBlock, TooDeep}
use Rattle.program_tree.specs.declared.error.ReadErrorKind.TheVariants.{TooMany, NoProcess, BadTarget}
use Rattle.program_tree.specs.Forms as form
use Rattle.program_tree.specs.Tokens as token
use Rattle.program_tree.specs.declared.keyword.Keyword.TheVariants as word
use Rattle.program_reader.proofs.Language.{Parts, spell_all, some_parts, some_program, Back, back, FromEvents}
use Rattle.program_reader.proofs.Turns.{On, Forth, forth}

-- The first broken rule is the one with the least number.

-- no rule of the list is broken
abbrev NoneBroken : (ReadErrorKind → Bool) → List ReadErrorKind → Type 0
NoneBroken broken [] = Unit {0}
NoneBroken broken (k ∷ ks) = (broken k ≡ false) × NoneBroken broken ks

none_broken : (broken : ReadErrorKind → Bool) (ks : List ReadErrorKind) → first_broken_of broken ks ≡ None
    → NoneBroken broken ks
none_broken broken [] e = tt
none_broken broken (k ∷ ks) e = go (broken k) refl e (none_broken broken ks)
  where
    go : (b : Bool) → broken k ≡ b → (if b then Some k else first_broken_of broken ks) ≡ None
        → (first_broken_of broken ks ≡ None → NoneBroken broken ks) → NoneBroken broken (k ∷ ks)
    go true is h ih = absurd cc
    go false is h ih = (is, ih h)

it_is_broken : (broken : ReadErrorKind → Bool) (ks : List ReadErrorKind) (k : ReadErrorKind)
    → first_broken_of broken ks ≡ Some k → broken k ≡ true
it_is_broken broken [] k e = absurd cc
it_is_broken broken (j ∷ js) k e = go (broken j) refl e (it_is_broken broken js k)
  where
    go : (b : Bool) → broken j ≡ b → (if b then Some j else first_broken_of broken js) ≡ Some k
        → (first_broken_of broken js ≡ Some k → broken k ≡ true) → broken k ≡ true
    go true is h ih = let same : j ≡ k = cc in subst (λ z. broken z ≡ true) same is
    go false is h ih = ih h

-- no rule with a lower number is broken
abbrev LeastIn : (ReadErrorKind → Bool) → ℕ → List ReadErrorKind → Type 0
LeastIn broken n [] = Unit {0}
LeastIn broken n (k ∷ ks) = (kind_number k < n → broken k ≡ false) × LeastIn broken n ks

abbrev AllAbove : ℕ → List ReadErrorKind → Type 0
AllAbove n [] = Unit {0}
AllAbove n (k ∷ ks) = (n < kind_number k) × AllAbove n ks

abbrev Rising : List ReadErrorKind → Type 0
Rising [] = Unit {0}
Rising (k ∷ ks) = AllAbove (kind_number k) ks × Rising ks

above_least : (broken : ReadErrorKind → Bool) (n : ℕ) (ks : List ReadErrorKind) → AllAbove n ks → LeastIn broken n ks
above_least broken n [] h = tt
above_least broken n (k ∷ ks) h = (λ l. absurd (omega (arith, h.0, l)), above_least broken n ks h.1)

least_in : (broken : ReadErrorKind → Bool) (ks : List ReadErrorKind) (k : ReadErrorKind) → Rising ks
    → first_broken_of broken ks ≡ Some k → LeastIn broken (kind_number k) ks
least_in broken [] k r e = tt
least_in broken (j ∷ js) k r e = go (broken j) refl e (least_in broken js k r.1)
  where
    go : (b : Bool) → broken j ≡ b → (if b then Some j else first_broken_of broken js) ≡ Some k
        → (first_broken_of broken js ≡ Some k → LeastIn broken (kind_number k) js)
        → LeastIn broken (kind_number k) (j ∷ js)
    go true is h ih =
        let same : j ≡ k = cc in
        subst (λ z. LeastIn broken (kind_number z) (j ∷ js)) same
        (λ l. absurd (omega (arith, l)), above_least broken (kind_number j) js r.0)
    go false is h ih = (λ l. is, ih h)

rising : Rising rules_on_marks
rising = (
  (omega arith, (omega arith, (omega arith, (omega arith, (omega arith, (omega arith, tt)))))),
  (
    (omega arith, (omega arith, (omega arith, (omega arith, (omega arith, tt))))),
    (
      (omega arith, (omega arith, (omega arith, (omega arith, tt)))),
      (
        (omega arith, (omega arith, (omega arith, tt))),
        ((omega arith, (omega arith, tt)), ((omega arith, tt), (tt, tt))),
      ),
    ),
  ),
)

not_broken : (b : Bool) → b ≡ false → IsTrue b → ⊥
not_broken true e h = absurd cc
not_broken false e h = absurd cc

no_rule : (s : Scope) (m : Mark) → first_broken s m ≡ None → (j : ReadErrorKind) → IsTrue (breaks j s m) → ⊥
no_rule s m e j h = go j (none_broken (λ k. breaks k s m) rules_on_marks e) h
  where
    go : (j : ReadErrorKind) → NoneBroken (λ k. breaks k s m) rules_on_marks → IsTrue (breaks j s m) → ⊥
    go UnknownName n h = not_broken _ n.0 h
    go NameTwice n h = not_broken _ n.1.0 h
    go NumberTooLarge n h = not_broken _ n.1.1.0 h
    go WaitInSimpleBlock n h = not_broken _ n.1.1.1.0 h
    go TooDeep n h = not_broken _ n.1.1.1.1.0 h
    go TooMany n h = not_broken _ n.1.1.1.1.1.0 h
    go BadTarget n h = not_broken _ n.1.1.1.1.1.1.0 h
    go _ n h = not_broken _ refl h

no_lesser : (s : Scope) (m : Mark) (k : ReadErrorKind) → first_broken s m ≡ Some k → (j : ReadErrorKind)
    → kind_number j < kind_number k → IsTrue (breaks j s m) → ⊥
no_lesser s m k e j l h = go j (least_in (λ i. breaks i s m) rules_on_marks k rising e) l h
  where
    go : (j : ReadErrorKind) → LeastIn (λ i. breaks i s m) (kind_number k) rules_on_marks
        → kind_number j < kind_number k → IsTrue (breaks j s m) → ⊥
    go UnknownName n l h = not_broken _ (n.0 l) h
    go NameTwice n l h = not_broken _ (n.1.0 l) h
    go NumberTooLarge n l h = not_broken _ (n.1.1.0 l) h
    go WaitInSimpleBlock n l h = not_broken _ (n.1.1.1.0 l) h
    go TooDeep n l h = not_broken _ (n.1.1.1.1.0 l) h
    go TooMany n l h = not_broken _ (n.1.1.1.1.1.0 l) h
    go BadTarget n l h = not_broken _ (n.1.1.1.1.1.1.0 l) h
    go _ n l h = not_broken _ refl h

-- the kinds of the rules on marks
abbrev OnMarks : ReadErrorKind → Type 0
OnMarks BadToken = ⊥
OnMarks Unexpected = ⊥
OnMarks NoProcess = ⊥
OnMarks k = Unit {0}

as_fault : (k : ReadErrorKind) (before rest : List Token) → OnMarks k → Breach k before rest → IsFault k before rest
as_fault BadToken before rest h b = absurd h
as_fault Unexpected before rest h b = absurd h
as_fault NoProcess before rest h b = absurd h
as_fault k before rest h b = b

on_marks : (s : Scope) (m : Mark) (k : ReadErrorKind) → breaks k s m ≡ true → OnMarks k
on_marks s m BadToken e = absurd cc
on_marks s m Unexpected e = absurd cc
on_marks s m NoProcess e = absurd cc
on_marks s m k e = tt

-- the tokens are those of these marks; the text after them can be any text that these symbols derive, and no other
pub record Reached (before : List Token) (ms : List Mark) (f : Pending) (s : Scope) : Type 0 where
  pub marks : tokens ms ≡ before
  pub here : (ps : Parts f) → (p : ProgramShape) × (program_marks p [] ≡ ms ++ spell_all f ps)
  pub only : (p : ProgramShape) (xs ys : List Mark) → program_marks p [] ≡ xs ++ ys → tokens xs ≡ before → (xs ≡ ms)
      × (ps : Parts f) × (spell_all f ps ≡ ys)
  pub scope : s ≡ scope_of ms

no_tokens : (xs : List Mark) → tokens xs ≡ [] → xs ≡ []
no_tokens [] e = refl
no_tokens (x ∷ xs) e = absurd cc

abbrev pub shape_from : FromEvents → ProgramShape
shape_from p = record {
  events = p.0;
  semaphores = p.1.0;
  first = p.1.1.0;
  others = p.1.1.1.0;
  autostart = p.1.1.1.1.0;
  receiver = p.1.1.1.1.1;
}

abbrev pub parts_of_program : ProgramShape → FromEvents
parts_of_program p = (p.events, (p.semaphores, (p.first, (p.others, (p.autostart, p.receiver)))))

pub begin : Reached [] [] (from_events ∷ []) nothing_yet
begin = record {
  marks = refl;
  here = λ ps. (shape_from ps.0, refl);
  only = λ p xs ys e h. let n = no_tokens xs h in (n, (parts_of_program p, tt), e ∙ ap (λ zs. zs ++ ys) n);
  scope = refl;
}

-- the marks of some tokens, and one more mark
split_last : (before : List Token) (t : Token) (xs : List Mark) → tokens xs ≡ before ++ (t ∷ []) →
    (front : List Mark) × (m : Mark) × (xs ≡ front ++ (m ∷ [])) × (tokens front ≡ before) × (m.token ≡ t)
split_last [] t [] e = absurd cc
split_last [] t (x ∷ []) e = ([], x, refl, refl, cc)
split_last [] t (x ∷ y ∷ xs) e = absurd cc
split_last (b ∷ bs) t [] e = absurd cc
split_last (b ∷ bs) t (x ∷ xs) e =
    let h : tokens xs ≡ bs ++ (t ∷ []) = cc in
    let k : x.token ≡ b = cc in
    let r = split_last bs t xs h in
    (x ∷ r.0, r.1, ap (λ zs. x ∷ zs) r.2, cc (k, r.3), r.4)

on_at : (f : Pending) (ps : Parts f) (m : Mark) (ys : List Mark) (t : Token) (s : Step) → spell_all f ps ≡ m ∷ ys
    → m.token ≡ t → step f t ≡ s → On m ys s
on_at f ps m ys t s e k is =
    subst (λ v. On m ys v) is (subst (λ v. On m ys (step f v)) k (subst (λ zs. Forth f zs) e (forth f ps)))

scope_push : (s : Scope) (ms : List Mark) (m : Mark) → scope_from s (ms ++ (m ∷ [])) ≡ scope_after (scope_from s ms) m
scope_push s [] m = refl
scope_push s (n ∷ ms) m = scope_push (scope_after s n) ms m

pub advance : (before : List Token) (ms : List Mark) (f : Pending) (s : Scope) (t : Token) (m : Mark) (f' : Pending)
    → Reached before ms f s → step f t ≡ take m f' →
    Reached (before ++ (t ∷ [])) (ms ++ (m ∷ [])) f' (scope_after s m)
advance before ms f s t m f' r is =
    let b = subst (λ s. Back f t s) is (back f t) in
    record {
      marks = map-append (λ z. z.token) ms (m ∷ []) ∙ ap (λ zs. zs ++ (m.token ∷ [])) r.marks
          ∙ ap (λ z. before ++ (z ∷ [])) b.0;
      here = λ ps.
          let q = b.1 ps in
          let p = r.here q.0 in
          (p.0, p.1 ∙ ap (λ zs. ms ++ zs) q.1 ∙ sym (append_assoc ms (m ∷ []) (spell_all f' ps)));
      only = λ p xs ys e h.
          let s = split_last before t xs h in
          let e' : program_marks p [] ≡ s.0 ++ (s.1 ∷ ys) =
          e ∙ ap (λ zs. zs ++ ys) s.2 ∙ append_assoc s.0 (s.1 ∷ []) ys in
          let o = r.only p s.0 (s.1 ∷ ys) e' s.3 in
          let n = on_at f o.1 s.1 ys t (take m f') o.2 s.4 is in
          (s.2 ∙ ap (λ zs. zs ++ (s.1 ∷ [])) o.0 ∙ ap (λ z. ms ++ (z ∷ [])) (sym n.0), n.1, n.2);
      scope = ap (λ z. scope_after z m) r.scope ∙ sym (scope_push nothing_yet ms m);
    }

-- there is no error before these tokens
abbrev pub Clean : List Token → List Token → Type 0
Clean before ts = (b r : List Token) (j : ReadErrorKind) → before ++ ts ≡ b ++ r → length b < length before
    → IsFault j b r → ⊥

-- the verdict is true of the text
abbrev pub Judged : Verdict → List Token → Type 0
Judged whole text = (p : ProgramShape) × IsProgram p text
Judged (fault k left) text = IsFirstFaultAt k left text

-- a token that fits, with its mark
record Stage (before ts : List Token) (ms : List Mark) (f : Pending) (s : Scope) (t : Token) (m : Mark)
    (f' : Pending) : Type 0 where
  reached : Reached before ms f s
  is : step f t ≡ take m f'
  clean : Clean before (t ∷ ts)
  go_on : Reached (before ++ (t ∷ [])) (ms ++ (m ∷ [])) f' (scope_after s m) → Clean (before ++ (t ∷ [])) ts
      → Judged (tell (scope_after s m) f' ts) ((before ++ (t ∷ [])) ++ ts)

pub same_front : (a b x y : List Token) → a ++ x ≡ b ++ y → length a ≡ length b → (a ≡ b) × (x ≡ y)
same_front [] [] x y e h = (refl, e)
same_front [] (b ∷ bs) x y e h = absurd (omega arith)
same_front (a ∷ as') [] x y e h = absurd (omega arith)
same_front (a ∷ as') (b ∷ bs) x y e h =
    let e' : as' ++ x ≡ bs ++ y = cc in
    let h' : length as' ≡ length bs = omega arith in
    let r = same_front as' bs x y e' h' in
    let k : a ≡ b = cc in
    (cc (k, r.0), r.1)

-- a bad token never fits
bad_unfit : (f : Pending) → step f token.Bad ≡ unexpected_token
bad_unfit [] = refl
bad_unfit (operand c (form.name k) ∷ f) = refl
bad_unfit (operand c form.cast ∷ f) = refl
bad_unfit (operand c form.sent ∷ f) = refl
bad_unfit (operand c form.any ∷ f) = refl
bad_unfit (y ∷ f) = refl

process_unfit : (y : Symbol) (f : Pending) → end_kind y ≡ Unexpected → step (y ∷ f) (token.Keyword word.Process) ≡ unexpected_token
process_unfit from_events f e = absurd cc
process_unfit from_semaphores f e = absurd cc
process_unfit (operand c (form.name k)) f e = refl
process_unfit (operand c form.cast) f e = refl
process_unfit (operand c form.sent) f e = refl
process_unfit (operand c form.any) f e = refl
process_unfit y f e = refl

module _ (before ts : List Token) (ms : List Mark) (f : Pending) (s : Scope) (t : Token) (m : Mark) (f' : Pending)
    (st : Stage before ts ms f s t m f') where
  next_one : Reached (before ++ (t ∷ [])) (ms ++ (m ∷ [])) f' (scope_after s m)
  next_one = advance before ms f s t m f' st.reached st.is

  whole_of : (p : ProgramShape) × (program_marks p [] ≡ ms ++ (m ∷ spell_all f' (some_parts f')))
  whole_of = let q = next_one.here (some_parts f') in
      (q.0, q.1 ∙ append_assoc ms (m ∷ []) (spell_all f' (some_parts f')))

  token_is : m.token ≡ t
  token_is = (subst (λ s. Back f t s) st.is (back f t)).0

  can : CanFollow before (t ∷ ts)
  can = (
    whole_of.0,
    tokens (spell_all f' (some_parts f')),
    ap tokens whole_of.1 ∙ map-append (λ z. z.token) ms (m ∷ spell_all f' (some_parts f'))
        ∙ ap (λ zs. zs ++ (m.token ∷ tokens (spell_all f' (some_parts f')))) st.reached.marks
        ∙ ap (λ z. before ++ (z ∷ tokens (spell_all f' (some_parts f')))) token_is,
  )

  breach_is : (k : ReadErrorKind) → Breach k before (t ∷ ts) → IsTrue (breaks k s m)
  breach_is k b =
      let e : b.mark.token ≡ t = cc (b.at) in
      let o = st.reached.only b.shape b.marks (b.mark ∷ b.later) b.spelled b.begins in
      let n = on_at f o.1 b.mark b.later t (take m f') o.2 e st.is in
      subst (λ z. IsTrue (breaks k z m)) (ap scope_of o.0 ∙ sym st.reached.scope)
      (subst (λ y. IsTrue (breaks k (scope_of b.marks) y)) (sym n.0) b.broken)

  not_bad : (after : List Token) → t ∷ ts ≡ token.Bad ∷ after → ⊥
  not_bad after e = let is : t ≡ token.Bad = cc in absurd (cc (bad_unfit f, ap (step f) is, st.is))

  no_fault : ((j : ReadErrorKind) → IsTrue (breaks j s m) → ⊥) → (j : ReadErrorKind) → IsFault j before (t ∷ ts) → ⊥
  no_fault sound BadToken h = not_bad h.0 h.1
  no_fault sound Unexpected h = h (inl can)
  no_fault sound NoProcess h = h
  no_fault sound j h = sound j (breach_is j h)

  clean_more : ((j : ReadErrorKind) → IsFault j before (t ∷ ts) → ⊥) → Clean (before ++ (t ∷ [])) ts
  clean_more none b r j e h i = go (nat_lt (length b) (length before)) refl
    where
      e' : before ++ (t ∷ ts) ≡ b ++ r
      e' = sym (append_assoc before (t ∷ []) ts) ∙ e

      go : (v : Bool) → nat_lt (length b) (length before) ≡ v → ⊥
      go true w = st.clean b r j e' (ltb-true _ _ w) i
      go false w =
          let l : length before ≡ length b = omega (arith, ltb-false _ _ w, length-append before (t ∷ []), h) in
          let q = same_front before b (t ∷ ts) r e' l in
          none j (subst (λ z. IsFault j z (t ∷ ts)) (sym q.0) (subst (λ z. IsFault j b z) (sym q.1) i))

  on_sound : ((j : ReadErrorKind) → IsTrue (breaks j s m) → ⊥)
      → Judged (tell (scope_after s m) f' ts) (before ++ (t ∷ ts))
  on_sound sound = subst (λ z. Judged (tell (scope_after s m) f' ts) z) (append_assoc before (t ∷ []) ts)
      (st.go_on next_one (clean_more (no_fault sound)))

  breach : (k : ReadErrorKind) → IsTrue (breaks k s m) → Breach k before (t ∷ ts)
  breach k b = record {
    shape = whole_of.0;
    marks = ms;
    mark = m;
    later = spell_all f' (some_parts f');
    after = ts;
    spelled = whole_of.1;
    begins = st.reached.marks;
    at = ap (λ z. z ∷ ts) (sym token_is);
    broken = subst (λ z. IsTrue (breaks k z m)) st.reached.scope b;
  }

  lesser : (k : ReadErrorKind) → first_broken s m ≡ Some k → (j : ReadErrorKind) → kind_number j < kind_number k
      → IsFault j before (t ∷ ts) → ⊥
  lesser k e BadToken l h = not_bad h.0 h.1
  lesser k e Unexpected l h = h (inl can)
  lesser k e NoProcess l h = h
  lesser k e j l h = no_lesser s m k e j l (breach_is j h)

  on_mark : (o : Option ReadErrorKind) → first_broken s m ≡ o
      → Judged (fault_or o (suc (length ts)) (tell (scope_after s m) f' ts)) (before ++ (t ∷ ts))
  on_mark None e = on_sound (no_rule s m e)
  on_mark (Some k) e =
      let b : breaks k s m ≡ true = it_is_broken (λ i. breaks i s m) rules_on_marks k e in (
        before,
        t ∷ ts,
        refl,
        refl,
        record {
          here = as_fault k before (t ∷ ts) (on_marks s m k b) (breach k b);
          least = lesser k e;
          earliest = st.clean;
        },
      )

-- no error has a number below 1
none_below_one : (j : ReadErrorKind) → kind_number j < 1 → ⊥
none_below_one BadToken h = omega arith
none_below_one j h = omega arith

-- if this token can't follow, no mark here can break a rule
no_breach : (k : ReadErrorKind) (before rest : List Token) → (CanFollow before rest → ⊥) → Breach k before rest → ⊥
no_breach k before [] bad b = absurd (cc (b.at))
no_breach k before (t ∷ ts) bad b = bad (
  b.shape,
  tokens b.later,
  ap tokens b.spelled ∙ map-append (λ z. z.token) b.marks (b.mark ∷ b.later)
      ∙ ap (λ zs. zs ++ (b.mark.token ∷ tokens b.later)) b.begins
      ∙ ap (λ z. before ++ (z ∷ tokens b.later)) (let e : b.mark.token ≡ t = cc (b.at) in e),
)

below_two : (before rest : List Token) → ((after : List Token) → rest ≡ token.Bad ∷ after → ⊥) → (j : ReadErrorKind)
    → kind_number j < 2 → IsFault j before rest → ⊥
below_two before rest fine BadToken h i = fine i.0 i.1
below_two before rest fine j h i = omega arith

reports_unexpected : (before ts : List Token) → (CanFollow before ts ⊎ LacksProcess before ts → ⊥)
    → ((after : List Token) → ts ≡ token.Bad ∷ after → ⊥) → Clean before ts
    → Judged (fault Unexpected (length ts)) (before ++ ts)
reports_unexpected before ts bad fine clean = (
  before,
  ts,
  refl,
  refl,
  record {
    here = bad;
    least = below_two before ts fine;
    earliest = clean;
  },
)

reports_bad : (before ts : List Token) → Clean before (token.Bad ∷ ts)
    → Judged (fault BadToken (suc (length ts))) (before ++ (token.Bad ∷ ts))
reports_bad before ts clean = (
  before,
  token.Bad ∷ ts,
  refl,
  refl,
  record {
    here = (ts, refl);
    least = λ j h i. none_below_one j h;
    earliest = clean;
  },
)

-- the end of a text at a place where `process` can follow and the text can't end
reports_no_process : (before : List Token) → (CanFollow before [] → ⊥) → LacksProcess before [] → Clean before []
    → Judged (fault NoProcess 0) (before ++ [])
reports_no_process before bad lacks clean = (
  before,
  [],
  refl,
  refl,
  record {
    here = lacks;
    least = least;
    earliest = clean;
  },
)
  where
    least : (j : ReadErrorKind) → kind_number j < 9 → IsFault j before [] → ⊥
    least BadToken h i = absurd (cc (i.1))
    least Unexpected h i = i (inr lacks)
    least NoProcess h i = omega arith
    least j h i = no_breach j before [] bad i

-- the marks of some tokens, and more marks
split_at : (before : List Token) (t : Token) (more : List Token) (xs : List Mark) → tokens xs ≡ before ++ (t ∷ more) →
    (front : List Mark) × (m : Mark) × (later : List Mark) × (xs ≡ front ++ (m ∷ later)) × (tokens front ≡ before)
    × (m.token ≡ t)
split_at [] t more [] e = absurd cc
split_at [] t more (x ∷ xs) e = ([], x, xs, refl, refl, cc)
split_at (b ∷ bs) t more [] e = absurd cc
split_at (b ∷ bs) t more (x ∷ xs) e =
    let h : tokens xs ≡ bs ++ (t ∷ more) = cc in
    let k : x.token ≡ b = cc in
    let r = split_at bs t more xs h in
    (x ∷ r.0, r.1, r.2, ap (λ zs. x ∷ zs) r.3, cc (k, r.4), r.5)

cannot : (before : List Token) (ms : List Mark) (f : Pending) (s : Scope) (t : Token) (ts : List Token)
    → Reached before ms f s → step f t ≡ unexpected_token → CanFollow before (t ∷ ts) → ⊥
cannot before ms f s t ts r is h =
    let x = split_at before t h.1 (program_marks h.0 []) h.2 in
    let o = r.only h.0 x.0 (x.1 ∷ x.2) x.3 x.4 in
    on_at f o.1 x.1 x.2 t unexpected_token o.2 x.5 is

cannot_end : (before : List Token) (ms : List Mark) (y : Symbol) (f : Pending) (s : Scope)
    → Reached before ms (y ∷ f) s → CanFollow before [] → ⊥
cannot_end before ms y f s r h =
    let o = r.only h.0 (program_marks h.0 []) [] (sym (append-nil (program_marks h.0 []))) h.1 in
    subst (λ zs. Forth (y ∷ f) zs) o.2 (forth (y ∷ f) o.1)

-- if the text can't end at a symbol, `process` can't follow there
lacks_none : (before : List Token) (ms : List Mark) (y : Symbol) (f : Pending) (s : Scope)
    → Reached before ms (y ∷ f) s → end_kind y ≡ Unexpected → LacksProcess before [] → ⊥
lacks_none before ms y f s r e h = cannot before ms (y ∷ f) s (token.Keyword word.Process) [] r (process_unfit y f e) h

can_begin : (before : List Token) (ms : List Mark) (y : Symbol) (f : Pending) (s : Scope) → Reached before ms (y ∷ f) s
    → (ps : Parts (y ∷ f)) (more : List Mark) → tokens (spell_all (y ∷ f) ps) ≡ token.Keyword word.Process
    ∷ tokens more →
    LacksProcess before []
can_begin before ms y f s r ps more e =
    let q = r.here ps in (
      q.0,
      tokens more,
      ap tokens q.1 ∙ map-append (λ z. z.token) ms (spell_all (y ∷ f) ps)
          ∙ ap (λ zs. zs ++ tokens (spell_all (y ∷ f) ps)) r.marks ∙ ap (λ zs. before ++ zs) e,
    )

none_at_end : (before : List Token) (p : ProgramShape) → tokens (program_marks p []) ≡ before
    → (LacksProcess before [] → ⊥) → (j : ReadErrorKind) → IsFault j before [] → ⊥
none_at_end before p text lacks BadToken i = absurd (cc (i.1))
none_at_end before p text lacks Unexpected i = i (inl (p, text))
none_at_end before p text lacks NoProcess i = lacks i
none_at_end before p text lacks j i = absurd (cc (i.at))

at_end_unexpected : (before : List Token) (ms : List Mark) (y : Symbol) (f : Pending) (s : Scope)
    → Reached before ms (y ∷ f) s → Clean before [] → end_kind y ≡ Unexpected
    → Judged (fault Unexpected 0) (before ++ [])
at_end_unexpected before ms y f s r clean e = reports_unexpected before [] no (λ after h. absurd cc) clean
  where
    no : CanFollow before [] ⊎ LacksProcess before [] → ⊥
    no (inl h) = cannot_end before ms y f s r h
    no (inr h) = lacks_none before ms y f s r e h

ends_so : (before : List Token) (ms : List Mark) (y : Symbol) (f : Pending) (s : Scope) → Reached before ms (y ∷ f) s
    → Clean before [] → Judged (fault (end_kind y) 0) (before ++ [])
ends_so before ms from_events f s r clean =
    reports_no_process before (cannot_end before ms from_events f s r)
    (can_begin before ms from_events f s r (([], ([], some_program)), some_parts f)
    (spell_all (first_process ∷ f) (some_program, some_parts f)) refl) clean
ends_so before ms from_semaphores f s r clean =
    reports_no_process before (cannot_end before ms from_semaphores f s r)
    (can_begin before ms from_semaphores f s r (([], some_program), some_parts f)
    (spell_all (first_process ∷ f) (some_program, some_parts f)) refl) clean
ends_so before ms y f s r clean = at_end_unexpected before ms y f s r clean refl

pub law : (ts before : List Token) (ms : List Mark) (f : Pending) (s : Scope) → Reached before ms f s → Clean before ts
    → Judged (tell s f ts) (before ++ ts)
law [] before ms [] s r clean =
    let q = r.here tt in
    let text : tokens (program_marks q.0 []) ≡ before = ap tokens (q.1 ∙ append-nil ms) ∙ r.marks in
    (q.0, record { spelled = text ∙ sym (append-nil before); sound = sound q.0 text })
  where
    sound : (p : ProgramShape) → tokens (program_marks p []) ≡ before → (b x : List Token) (j : ReadErrorKind)
        → before ++ [] ≡ b ++ x → IsFault j b x → ⊥
    sound p text b x j e i = go (nat_lt (length b) (length before)) refl
      where
        go : (v : Bool) → nat_lt (length b) (length before) ≡ v → ⊥
        go true w = clean b x j e (ltb-true _ _ w) i
        go false w =
            let l : length before ≡ length b = omega (
              arith,
              ltb-false _ _ w,
              ap length e,
              length-append before [],
              length-append b x,
            ) in
            let q = same_front before b [] x e l in
            none_at_end before p text (cannot before ms [] s (token.Keyword word.Process) [] r refl) j
            (subst (λ z. IsFault j z []) (sym q.0) (subst (λ z. IsFault j b z) (sym q.1) i))
law [] before ms (y ∷ f) s r clean = ends_so before ms y f s r clean
law (t ∷ ts) before ms f s r clean = go (step f t) refl
    (λ m f' r' c'. law ts (before ++ (t ∷ [])) (ms ++ (m ∷ [])) f' (scope_after s m) r' c')
  where
    no : step f t ≡ unexpected_token → CanFollow before (t ∷ ts) ⊎ LacksProcess before (t ∷ ts) → ⊥
    no is (inl h) = cannot before ms f s t ts r is h
    no is (inr h) = h

    unexpected : (u : Token) → t ≡ u → step f t ≡ unexpected_token
        → Judged (fault (unfit_kind u) (suc (length ts))) (before ++ (t ∷ ts))
    unexpected token.Bad e is = subst (λ z. Judged (fault BadToken (suc (length ts))) (before ++ (z ∷ ts))) (sym e)
        (reports_bad before ts (subst (λ z. Clean before (z ∷ ts)) e clean))
    unexpected u e is = reports_unexpected before (t ∷ ts) (no is) (λ after h. absurd (cc (h, e))) clean

    go : (x : Step) → step f t ≡ x →
        ((m : Mark) (f' : Pending) → Reached (before ++ (t ∷ [])) (ms ++ (m ∷ [])) f' (scope_after s m)
        → Clean (before ++ (t ∷ [])) ts → Judged (tell (scope_after s m) f' ts) ((before ++ (t ∷ [])) ++ ts)) →
        Judged (verdict_after s (suc (length ts)) t x (λ n g. tell n g ts)) (before ++ (t ∷ ts))
    go unexpected_token is ih = unexpected t refl is
    go (take m f') is ih = on_mark before ts ms f s t m f'
        (record { reached = r; is = is; clean = clean; go_on = ih m f' }) (first_broken s m) refl

pub judged : (text : List Token) → Judged (tell nothing_yet (from_events ∷ []) text) text
judged text = law text [] [] (from_events ∷ []) nothing_yet begin (λ b r j e h i. omega arith)

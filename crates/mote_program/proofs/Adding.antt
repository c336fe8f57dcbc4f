-- The addition of tokens, one after another.
use Rattle.std.proofs.Common.{◌≡◌, ℕ, suc, ◌+◌, ◌<◌, ◌≤◌, List, [], ◌∷◌, ◌++◌, map, length, drop, get_or, Option, Some}
use Rattle.std.proofs.Common.{None, refl, ap, sym, ◌∙◌, append_assoc, arith}
use Rattle.std.specs.List.{flat_map, zip}
use Rattle.std.proofs.lemmas.Slice.Zip.{length-zip, get_or-zip}
use Rattle.std.proofs.lemmas.List.{map-append, append-nil, drop_all, length-map, get_or-map}
use Rattle.std.proofs.Math.Seq.{drop-cons}
use Rattle.program_tree.specs.Shapes.{Name}
use Rattle.program_tree.specs.Tokens.{Token}
use Rattle.program_tree.specs.TokenMeaning.{token_of}
use Rattle.program_tree.specs.Tree.{Class, statement_map, body_map, action_map}
use Rattle.program_tree.specs.Meaning.{statement_of, body_of, action_of}
use Rattle.program_tree.specs.Meaning.{expression_of, block_of}
use Rattle.program_tree.specs.Tree.{expression_map}
use Rattle.program_tree.specs.declared.tree.Block.{Block}
use Rattle.program_tree.specs.declared.tree.Expr.{Expr}
use Rattle.program_tree.specs.declared.tree.Stmt.{Stmt, Do, If, While}
use Rattle.program_tree.specs.declared.tree.Action.{Action}
use Rattle.program_tree.specs.declared.token.Token.{Token as TokenRead}
use Rattle.program_tree.specs.Tokens as token
use Rattle.program_tree.specs.declared.keyword.Keyword.TheVariants as word
use Rattle.mote_program.specs.Spelled.{expression_tokens, statement_tokens, items_tokens, block_tokens, action_tokens}
use Rattle.program_tree.proofs.TreeLaws.{branch_of-If, while_of-While, does_of-Do}

pub mapped : (old new more : List TokenRead) → new ≡ old ++ more → map token_of new ≡ map token_of old
    ++ map token_of more
mapped old new more e = ap (map token_of) e ∙ map-append token_of old more

-- Lists, element by element.

pub next_at : {X : Type 0} (xs : List X) (i : ℕ) (d : X) → i < length xs → drop i xs ≡ get_or xs i d ∷ drop (i + 1) xs
next_at xs i d h = let one : suc i ≡ i + 1 = omega arith in drop-cons xs i d h ∙ ap (λ j. get_or xs i d ∷ drop j xs) one

pub one_more : {X : Type 0} (F : X → List Token) (xs : List X) (i : ℕ) (d : X) (mid new all : List Token)
    → i < length xs → mid ++ flat_map F (drop i xs) ≡ all → new ≡ mid ++ F (get_or xs i d)
    → new ++ flat_map F (drop (i + 1) xs) ≡ all
one_more F xs i d mid new all h so_far more =
    ap (λ ts. ts ++ flat_map F (drop (i + 1) xs)) more ∙ append_assoc mid (F (get_or xs i d))
    (flat_map F (drop (i + 1) xs)) ∙ ap (λ ys. mid ++ flat_map F ys) (sym (next_at xs i d h)) ∙ so_far

pub no_more : {X : Type 0} (F : X → List Token) (xs : List X) (i : ℕ) (new all : List Token) → length xs ≤ i
    → new ++ flat_map F (drop i xs) ≡ all → new ≡ all
no_more F xs i new all h so_far = sym (append-nil new) ∙ ap (λ ys. new ++ flat_map F ys) (sym (drop_all i xs h))
    ∙ so_far

-- one name with its item
pub one_pair : {X Y : Type 0} (F : X × Y → List Token) (xs : List X) (ys : List Y) (i : ℕ) (x : X) (y : Y)
    (mid new all : List Token) → length ys ≡ length xs → i < length xs → mid ++ flat_map F (drop i (zip xs ys)) ≡ all
    → new ≡ mid ++ F (get_or xs i x, get_or ys i y) → new ++ flat_map F (drop (i + 1) (zip xs ys)) ≡ all
one_pair F xs ys i x y mid new all e h so_far more =
    one_more F (zip xs ys) i (x, y) mid new all (omega (arith, length-zip xs ys)) so_far
    (more ∙ ap (λ p. mid ++ F p) (sym (get_or-zip xs ys i (x, y) h (omega arith))))

-- the statements of a block
pub block_flat : (f : Class → ℕ → Name) (ss : List Stmt) → items_tokens (body_map f (body_of (map statement_of ss)))
    ≡ flat_map (λ s. statement_tokens (statement_map f (statement_of s))) ss ++ (token.CloseBrace ∷ [])
block_flat f [] = refl
block_flat f (s ∷ ss) =
    ap (λ ts. statement_tokens (statement_map f (statement_of s)) ++ ts) (block_flat f ss)
    ∙ sym (append_assoc (statement_tokens (statement_map f (statement_of s)))
    (flat_map (λ s. statement_tokens (statement_map f (statement_of s))) ss) (token.CloseBrace ∷ []))

module _ (f : Class → ℕ → Name) (e : Expr) (a : Block) (t0 t1 t2 : List Token) where
  pub if_added : (s : Stmt) (o : Option Block) → s ≡ If e a o → o ≡ None
      → t1 ≡ t0 ++ ((token.Keyword word.If ∷ []) ++ expression_tokens (expression_map f (expression_of e)))
      → t2 ≡ t1 ++ block_tokens (body_map f (block_of a))
      → t2 ≡ t0 ++ statement_tokens (statement_map f (statement_of s))
  if_added s o same none h k = rw (k, h, same, none, branch_of-If e a None) (simp (append_assoc, append-nil))

  pub else_added : (s : Stmt) (o : Option Block) (b : Block) (t3 t4 : List Token) → s ≡ If e a o → o ≡ Some b
      → t1 ≡ t0 ++ ((token.Keyword word.If ∷ []) ++ expression_tokens (expression_map f (expression_of e)))
      → t2 ≡ t1 ++ block_tokens (body_map f (block_of a))
      → t3 ≡ t2 ++ (token.Keyword word.Else ∷ []) → t4 ≡ t3 ++ block_tokens (body_map f (block_of b))
      → t4 ≡ t0 ++ statement_tokens (statement_map f (statement_of s))
  else_added s o b t3 t4 same some h k l m =
      rw (m, l, k, h, same, some, branch_of-If e a (Some b)) (simp append_assoc)

  pub while_added : (s : Stmt) → s ≡ While e a → t1 ≡ t0
      ++ ((token.Keyword word.While ∷ []) ++ expression_tokens (expression_map f (expression_of e)))
      → t2 ≡ t1 ++ block_tokens (body_map f (block_of a))
      → t2 ≡ t0 ++ statement_tokens (statement_map f (statement_of s))
  while_added s same h k = rw (k, h, same, while_of-While e a) (simp append_assoc)

-- a block before any of its statements is added
pub block_begun : (f : Class → ℕ → Name) (ss : List Stmt) (old new : List Token) → new ≡ old ++ (token.OpenBrace ∷ [])
    → new ++ flat_map (λ s. statement_tokens (statement_map f (statement_of s))) ss
    ≡ old ++ (token.OpenBrace ∷ flat_map (λ s. statement_tokens (statement_map f (statement_of s))) ss)
block_begun f ss old new e =
    let all : List Token = flat_map (λ s. statement_tokens (statement_map f (statement_of s))) ss in
    ap (λ ts. ts ++ all) e ∙ append_assoc old (token.OpenBrace ∷ []) all

-- one more statement, read from the same list
pub block_more : (f : Class → ℕ → Name) (ss items : List Stmt) (i : ℕ) (s : Stmt) (mid new all : List Token)
    → items ≡ ss → i < length items → s ≡ get_or items i s
    → mid ++ flat_map (λ s. statement_tokens (statement_map f (statement_of s))) (drop i ss) ≡ all
    → new ≡ mid ++ statement_tokens (statement_map f (statement_of s))
    → new ++ flat_map (λ s. statement_tokens (statement_map f (statement_of s))) (drop (i + 1) ss) ≡ all
block_more f ss items i s mid new all same h is so_far more =
    one_more (λ s. statement_tokens (statement_map f (statement_of s))) ss i s mid new all
    (omega (arith, ap length same)) so_far (more ∙ ap (λ z. mid ++ statement_tokens (statement_map f (statement_of z)))
    (is ∙ ap (λ l. get_or l i s) same))

-- a statement without blocks
pub action_added : (f : Class → ℕ → Name) (a : Action) (s : Stmt) (old new : List Token) → s ≡ Do a
    → new ≡ old ++ action_tokens (action_map f (action_of a))
    → new ≡ old ++ statement_tokens (statement_map f (statement_of s))
action_added f a s old new same e =
    e ∙ ap (λ z. old ++ statement_tokens (statement_map f z)) (sym (ap statement_of same ∙ does_of-Do a))

-- a block after all of its statements are added
pub block_added : (f : Class → ℕ → Name) (ss : List Stmt) (i : ℕ) (old mid new : List Token) → length ss ≤ i
    → mid ++ flat_map (λ s. statement_tokens (statement_map f (statement_of s))) (drop i ss) ≡ old
    ++ (token.OpenBrace ∷ flat_map (λ s. statement_tokens (statement_map f (statement_of s))) ss)
    → new ≡ mid ++ (token.CloseBrace ∷ []) → new ≡ old
    ++ (token.OpenBrace ∷ items_tokens (body_map f (body_of (map statement_of ss))))
block_added f ss i old mid new h so_far last =
    let all : List Token = flat_map (λ s. statement_tokens (statement_map f (statement_of s))) ss in
    last ∙ ap (λ ts. ts ++ (token.CloseBrace ∷ [])) (no_more (λ s. statement_tokens (statement_map f (statement_of s)))
    ss i mid (old ++ (token.OpenBrace ∷ all)) h so_far)
    ∙ append_assoc old (token.OpenBrace ∷ all) (token.CloseBrace ∷ []) ∙ ap (λ ts. old ++ (token.OpenBrace ∷ ts))
    (sym (block_flat f ss))

-- one name, by its number
pub one_number : (f : ℕ → Name) (F : Name → List Token) (ns : List ℕ) (i d : ℕ) (mid new all : List Token)
    → i < length ns → mid ++ flat_map F (drop i (map f ns)) ≡ all → new ≡ mid ++ F (f (get_or ns i d))
    → new ++ flat_map F (drop (i + 1) (map f ns)) ≡ all
one_number f F ns i d mid new all h so_far more =
    one_more F (map f ns) i [] mid new all (omega (arith, length-map ns f)) so_far
    (more ∙ ap (λ x. mid ++ F x) (sym (get_or-map f ns i d [] h)))

-- one name with the meaning of its item
pub one_item : {X Y : Type 0} (F : Name × Y → List Token) (names : List Name) (g : X → Y) (xs : List X) (i : ℕ)
    (n : Name) (x : X) (mid new all : List Token) → length xs ≡ length names → i < length names → get_or names i [] ≡ n
    → x ≡ get_or xs i x
    → mid ++ flat_map F (drop i (zip names (map g xs))) ≡ all → new ≡ mid ++ F (n, g x)
    → new ++ flat_map F (drop (i + 1) (zip names (map g xs))) ≡ all
one_item F names g xs i n x mid new all e h name same so_far more =
    let len : length (map g xs) ≡ length names = length-map xs g ∙ e in
    let at : get_or (map g xs) i (g x) ≡ g x = get_or-map g xs i x (g x) (omega arith) ∙ ap g (sym same) in
    one_pair F names (map g xs) i [] (g x) mid new all len h so_far (more ∙ ap (λ z. mid ++ F (z, g x)) (sym name)
    ∙ ap (λ z. mid ++ F (get_or names i [], z)) (sym at))

pub mapped_at : {X Y : Type 0} (h : X → Y) (xs : List X) (i : ℕ) (x : X) → i < length xs → x ≡ get_or xs i x
    → h x ≡ get_or (map h xs) i (h x)
mapped_at h xs i x l same = ap h same ∙ sym (get_or-map h xs i x (h x) l)

-- tokens after tokens
pub two_added : (t0 t1 t2 a b : List Token) → t1 ≡ t0 ++ a → t2 ≡ t1 ++ b → t2 ≡ t0 ++ (a ++ b)
two_added t0 t1 t2 a b h k = k ∙ ap (λ ts. ts ++ b) h ∙ append_assoc t0 a b

pub four_added : (t0 t1 t2 t3 t4 a b c d : List Token) → t1 ≡ t0 ++ a → t2 ≡ t1 ++ b → t3 ≡ t2 ++ c → t4 ≡ t3 ++ d
    → t4 ≡ t0 ++ (a ++ (b ++ (c ++ d)))
four_added t0 t1 t2 t3 t4 a b c d h k l m = rw (m, l, k, h) (simp append_assoc)

pub five_added : (t0 t1 t2 t3 t4 t5 a b c d e : List Token) → t1 ≡ t0 ++ a → t2 ≡ t1 ++ b → t3 ≡ t2 ++ c → t4 ≡ t3 ++ d
    → t5 ≡ t4 ++ e → t5 ≡ t0 ++ (a ++ (b ++ (c ++ (d ++ e))))
five_added t0 t1 t2 t3 t4 t5 a b c d e h k l m n = rw (n, m, l, k, h) (simp append_assoc)

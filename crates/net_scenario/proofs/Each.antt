-- The tables among some items, one item at a time.
use Rattle.std.proofs.Common.{◌≡◌, ◌+◌, ◌<◌, ℕ, List, [], ◌∷◌, ◌++◌, map, codes, ap, sym, Option, length, get_or, drop}
use Rattle.std.proofs.Common.{Some, None, refl, ◌≤◌, ◌∙◌, append_assoc}
use Rattle.std.proofs.lemmas.List.{append-nil, drop_all}
use Rattle.std.specs.Option.{option_or, option_map_or, option_to_list}
use Rattle.toml.specs.Data.{Members, as_table}
use Rattle.toml.specs.View.{view, items_view}
use Rattle.toml.specs.declared.value.Value.{Value}
use Rattle.toml.proofs.Views.{items_view-drop}
use Rattle.net_scenario.specs.Document.{first_some, tables_in, table_at, items_at, version_of, queue_fault}
use Rattle.net_scenario.specs.Document.{program_fault, document_fault}
use Rattle.net_scenario.specs.Names.{names_fault, lengths_fault}
use Rattle.net_scenario.specs.Rules.{keys_fault, known_in, top_rules, medium_rules, loss_rules, mote_rules}

first_of_item : {Y : Type 0} (f : Members → Option Y) (o : Option Members) (ts : List Members)
    → first_some f (option_map_or (λ ms. ms ∷ ts) o ts) ≡ option_or (option_map_or f o None) (first_some f ts)
first_of_item f None ts = refl
first_of_item f (Some ms) ts = refl

-- the first fault of the items from i on is that of the item at i, if it is a table with a fault, and otherwise that
-- of the items after it
pub after_item : {Y : Type 0} (f : Members → Option Y) (vs : List Value) (i : ℕ) (d : Value) → i < length vs
    → first_some f (tables_in (items_view (drop i vs)))
    ≡ option_or (option_map_or f (as_table (view (get_or vs i d))) None)
    (first_some f (tables_in (items_view (drop (i + 1) vs))))
after_item f vs i d h = rw (items_view-drop vs i d h)
    (first_of_item f (as_table (view (get_or vs i d))) (tables_in (items_view (drop (i + 1) vs))))

first_some-map : {X Y Z : Type 0} (f : Y → Option Z) (g : X → Y) (xs : List X)
    → first_some f (map g xs) ≡ first_some (λ x. f (g x)) xs
first_some-map f g [] = refl
first_some-map f g (x ∷ xs) = ap (option_or (f (g x))) (first_some-map f g xs)

or_assoc : {Y : Type 0} (o p q : Option Y) → option_or (option_or o p) q ≡ option_or o (option_or p q)
or_assoc None p q = refl
or_assoc (Some x) p q = refl

first_some-append : {X Y : Type 0} (f : X → Option Y) (xs ys : List X)
    → first_some f (xs ++ ys) ≡ option_or (first_some f xs) (first_some f ys)
first_some-append f [] ys = refl
first_some-append f (x ∷ xs) ys = rw (first_some-append f xs ys)
    (sym (or_assoc (f x) (first_some f xs) (first_some f ys)))

-- the fault of a document, found by the checks in the code
pub document_fault_of : (top : Members) → document_fault top ≡
    option_or (keys_fault (known_in (version_of top) top_rules) top)
    (option_or (keys_fault (known_in (version_of top) medium_rules) (table_at (codes "medium") top))
    (option_or (first_some (keys_fault (known_in (version_of top) loss_rules))
    (tables_in (items_at (codes "loss") top)))
    (option_or (names_fault (table_at (codes "programs") top))
    (option_or (lengths_fault (table_at (codes "queue") top))
    (option_or (first_some (keys_fault (known_in (version_of top) mote_rules))
    (tables_in (items_at (codes "mote") top)))
    (option_or (queue_fault (table_at (codes "programs") top) (table_at (codes "queue") top))
    (first_some (program_fault (table_at (codes "programs") top)) (tables_in (items_at (codes "mote") top)))))))))
unfolding document_fault
document_fault_of top = simp (first_some-append, first_some-map, or_assoc)

front_of_item : (o : Option Members) (ts : List Members) → option_map_or (λ ms. ms ∷ ts) o ts ≡ option_to_list o ++ ts
front_of_item None ts = refl
front_of_item (Some ms) ts = refl

-- the tables among the items from i on
pub tables_after_item : (vs : List Value) (i : ℕ) (d : Value) → i < length vs
    → tables_in (items_view (drop i vs)) ≡ option_to_list (as_table (view (get_or vs i d)))
    ++ tables_in (items_view (drop (i + 1) vs))
tables_after_item vs i d h = rw (items_view-drop vs i d h)
    (front_of_item (as_table (view (get_or vs i d))) (tables_in (items_view (drop (i + 1) vs))))

pub or_none : {Y : Type 0} (o p : Option Y) → option_or o p ≡ None → (o ≡ None) × (p ≡ None)
or_none None p h = (refl, h)
or_none (Some x) p h = cc

-- if the items from i on have no fault, the item at i and the items after it have none
pub none_from : {Y : Type 0} (f : Members → Option Y) (vs : List Value) (i : ℕ) (d : Value) → i < length vs
    → d ≡ get_or vs i d → first_some f (tables_in (items_view (drop i vs))) ≡ None
    → (option_map_or f (as_table (view d)) None ≡ None)
    × (first_some f (tables_in (items_view (drop (i + 1) vs))) ≡ None)
none_from f vs i d within is h =
    let here = or_none _ _ (sym (after_item f vs i d within) ∙ h) in
    (ap (λ v. option_map_or f (as_table (view v)) None) is ∙ here.0, here.1)

-- the table of the item at i has no fault
pub none_at : {Y : Type 0} (f : Members → Option Y) (vs : List Value) (i : ℕ) (d : Value) (ms : Members)
    → i < length vs → d ≡ get_or vs i d → first_some f (tables_in (items_view (drop i vs))) ≡ None
    → Some ms ≡ as_table (view d) → f ms ≡ None
none_at f vs i d ms within is h table =
    ap (λ o. option_map_or f o None) table ∙ (none_from f vs i d within is h).0

-- the tables among the items from i on, found with the table of the item at i
tables_from : (vs : List Value) (i : ℕ) (d : Value) (o : Option Members) → i < length vs → d ≡ get_or vs i d
    → o ≡ as_table (view d)
    → tables_in (items_view (drop i vs)) ≡ option_to_list o ++ tables_in (items_view (drop (i + 1) vs))
tables_from vs i d o within is table = tables_after_item vs i d within
    ∙ ap (λ t. option_to_list t ++ tables_in (items_view (drop (i + 1) vs)))
    (sym (table ∙ ap (λ v. as_table (view v)) is))

-- the results for the tables after the item at i, which is a table with the result b
pub map_table : {B : Type 0} (g : Members → B) (vs : List Value) (i : ℕ) (d : Value) (ms : Members) (b : B)
    (all before after : List B) → i < length vs → d ≡ get_or vs i d → Some ms ≡ as_table (view d) → b ≡ g ms
    → after ≡ before ++ (b ∷ []) → all ≡ before ++ map g (tables_in (items_view (drop i vs)))
    → all ≡ after ++ map g (tables_in (items_view (drop (i + 1) vs)))
map_table g vs i d ms b all before after within is table gave pushed h =
    let rest = map g (tables_in (items_view (drop (i + 1) vs))) in
    h ∙ ap (λ ts. before ++ map g ts) (tables_from vs i d (Some ms) within is table)
    ∙ sym (append_assoc before (g ms ∷ []) rest)
    ∙ ap (λ bs. bs ++ rest) (sym (pushed ∙ ap (λ x. before ++ (x ∷ [])) gave))

-- the same, if the item at i isn't a table
pub map_no_table : {B : Type 0} (g : Members → B) (vs : List Value) (i : ℕ) (d : Value) (all before after : List B)
    → i < length vs → d ≡ get_or vs i d → None ≡ as_table (view d) → after ≡ before
    → all ≡ before ++ map g (tables_in (items_view (drop i vs)))
    → all ≡ after ++ map g (tables_in (items_view (drop (i + 1) vs)))
map_no_table g vs i d all before after within is table kept h =
    h ∙ ap (λ ts. before ++ map g ts) (tables_from vs i d None within is table)
    ∙ ap (λ bs. bs ++ map g (tables_in (items_view (drop (i + 1) vs)))) (sym kept)

-- the same, if no item is left
pub map_all : {B : Type 0} (g : Members → B) (vs : List Value) (i : ℕ) (all bs : List B) → length vs ≤ i
    → all ≡ bs ++ map g (tables_in (items_view (drop i vs))) → bs ≡ all
map_all g vs i all bs past h =
    sym (h ∙ ap (λ ws. bs ++ map g (tables_in (items_view ws))) (drop_all i vs past) ∙ append-nil bs)

-- no table of the document has a fault, and each name is the name of a program
pub record Faultless (document : Members) : Type 0 where
  pub top : keys_fault (known_in (version_of document) top_rules) document ≡ None
  pub medium : keys_fault (known_in (version_of document) medium_rules) (table_at (codes "medium") document) ≡ None
  pub losses : first_some (keys_fault loss_rules) (tables_in (items_at (codes "loss") document)) ≡ None
  pub names : names_fault (table_at (codes "programs") document) ≡ None
  pub lengths : lengths_fault (table_at (codes "queue") document) ≡ None
  pub motes : first_some (keys_fault mote_rules) (tables_in (items_at (codes "mote") document)) ≡ None
  pub queues : queue_fault (table_at (codes "programs") document) (table_at (codes "queue") document) ≡ None
  pub programs : first_some (program_fault (table_at (codes "programs") document))
      (tables_in (items_at (codes "mote") document)) ≡ None

pub faultless : (top : Members) → document_fault top ≡ None → Faultless top
faultless top h =
    let a = or_none _ _ (rw (document_fault_of top) at h) in
    let b = or_none _ _ a.1 in
    let c = or_none _ _ b.1 in
    let d = or_none _ _ c.1 in
    let e = or_none _ _ d.1 in
    let f = or_none _ _ e.1 in
    let g = or_none _ _ f.1 in
    record {
      top = a.0;
      medium = b.0;
      losses = c.0;
      names = d.0;
      lengths = e.0;
      motes = f.0;
      queues = g.0;
      programs = g.1;
    }

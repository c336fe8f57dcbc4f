-- The table of programs, the programs that were read, and the number of motes.
use Rattle.std.proofs.Common.{◌≡◌, ◌≤◌, ◌≤ℤ◌, ℕ, ℤ, pos, Bool, true, false, not, ◌&&◌, cond, List, [], ◌∷◌, length}
use Rattle.std.proofs.Common.{refl, sym, ap, ◌∙◌, arith, Option, Some, None, is_none, unwrap_or, find, nat_le}
use Rattle.std.proofs.Common.{Ordering, Less, Equal, Greater, nat_cmp, is_eq}
use Rattle.std.proofs.lemmas.Int.{ints}
use Rattle.std.specs.Option.{option_or, option_map_or}
use Rattle.std.specs.Prelude.{option_and_then}
use Rattle.std.specs.Ordering.{match_ordering}
use Rattle.std.specs.Cmp.Lexicographic.{slice_cmp}
use Rattle.std.specs.Str.{bytes_eq}
use Rattle.std.proofs.lemmas.Bool.{and_parts}
use Rattle.std.proofs.lemmas.Map.Text.{is_eq-slice_cmp}
use Rattle.std.proofs.lemmas.Slice.Eq.{bytes_eq-Decides}
use Rattle.toml.specs.Data.{Data, string, integer, float, boolean, datetime, array, table, Items, no_items, item}
use Rattle.toml.specs.Data.{Members, no_members, member, get_member, as_array}
use Rattle.net_scenario.specs.declared.version.Version.{Version}
use Rattle.mote_net.specs.Limits.{shortest_queue, longest_queue}
use Rattle.net_scenario.specs.Names.{values_any, queue_length, lengths_fault}
use Rattle.net_scenario.specs.declared.rules.KeyKind.TheVariants.{Tables}
use Rattle.net_scenario.specs.Rules.{items_len, are_tables, has_kind, is_in_range, needed}
use Rattle.net_scenario.specs.Document.{HoldsNumber, integer_at, first_some, tables_in, items_at, program_fault}
use Rattle.mote_net.specs.Programs.{NamedTree}
use Rattle.net_scenario.specs.Programs.{program_texts, AllRead}
use Rattle.net_scenario.specs.Net.{unread_fault}
use Rattle.net_scenario.proofs.Each.{or_none}
use Rattle.net_scenario.proofs.Keeps.{Keeps, passed, neither, both, le_of}
use borrow.Author.Tests.{leb-true}

-- the test for equal bytes is true for equal texts
eq_is : (xs ys : List ℕ) → xs ≡ ys → bytes_eq xs ys ≡ true
eq_is xs ys h = (bytes_eq-Decides xs ys).1 h

named_first : (k : List ℕ) (d : Data) (held : Option Data) (t : NamedTree) (rest : Option NamedTree) (name : List ℕ)
    (o : Ordering) (b : Bool)
    → t.name ≡ k → slice_cmp nat_cmp name k ≡ o → bytes_eq t.name name ≡ b
    → is_none (match_ordering o held (Some d) held) ≡ false → (is_none held ≡ false → is_none rest ≡ false)
    → is_none (cond b (Some t) rest) ≡ false
named_first k d held t rest name o true n c e h more = refl
named_first k d held t rest name Less false n c e h more = more h
named_first k d held t rest name Greater false n c e h more = more h
named_first k d held t rest name Equal false n c e h more =
    let tied : is_eq (slice_cmp nat_cmp name k) ≡ true = ap is_eq c in
    let same : name ≡ k = (bytes_eq-Decides name k).0 (sym (is_eq-slice_cmp name k) ∙ tied) in
    let yes : bytes_eq t.name name ≡ true = eq_is _ _ (n ∙ sym same) in
    cc

-- each name in the table is the name of a program that was read
pub named_read : (ms : Members) (ts : List NamedTree) (name : List ℕ) → AllRead (program_texts ms) ts
    → is_none (get_member name ms) ≡ false
    → is_none (find (λ t. bytes_eq t.name name) ts) ≡ false
named_read no_members ts name r h = cc
named_read (member k d ms) [] name r h = absurd r
named_read (member k d ms) (t ∷ ts) name r h =
    named_first k d (get_member name ms) t (find (λ u. bytes_eq u.name name) ts) name (slice_cmp nat_cmp name k)
    (bytes_eq t.name name) r.0 refl refl h
    (λ (e : is_none (get_member name ms) ≡ false). named_read ms ts name r.2 e)

none_of : {Y : Type 0} (b : Bool) (e : Y) → cond b (Some e) None ≡ None → b ≡ false
none_of true e h = cc
none_of false e h = refl

of_none : {Y : Type 0} (b : Bool) (e : Y) → b ≡ false → cond b (Some e) None ≡ None
of_none true e h = cc
of_none false e h = refl

none_or : {Y : Type 0} (o p : Option Y) → o ≡ None → p ≡ None → option_or o p ≡ None
none_or None p a b = b
none_or (Some x) p a b = cc

-- if each mote's program is in the table, it is among the programs that were read
pub all_read : (ms : Members) (ts : List NamedTree) (motes : List Members) → AllRead (program_texts ms) ts
    → first_some (program_fault ms) motes ≡ None → first_some (unread_fault ts) motes ≡ None
all_read ms ts [] r h = refl
all_read ms ts (mote ∷ motes) r h =
    let parts = or_none (program_fault ms mote) (first_some (program_fault ms) motes) h in
    none_or _ _ (of_none _ _ (named_read ms ts _ r (none_of _ _ parts.0))) (all_read ms ts motes r parts.1)

tables_len : (ds : Items) → length (tables_in ds) ≤ items_len ds
tables_len no_items = omega arith
tables_len (item (string s) ds) = let h = tables_len ds in omega arith
tables_len (item (integer z) ds) = let h = tables_len ds in omega arith
tables_len (item (float x) ds) = let h = tables_len ds in omega arith
tables_len (item (boolean b) ds) = let h = tables_len ds in omega arith
tables_len (item (datetime t) ds) = let h = tables_len ds in omega arith
tables_len (item (array es) ds) = let h = tables_len ds in omega arith
tables_len (item (table ms) ds) = let h = tables_len ds in omega arith

not_false : (b : Bool) → not b ≡ false → b ≡ true
not_false true h = refl
not_false false h = cc

held_tables : (low high : ℕ) (o : Option Items)
    → not (option_map_or (λ ds. nat_le low (items_len ds) && nat_le (items_len ds) high) o true) ≡ false
    → length (tables_in (unwrap_or o no_items)) ≤ high
held_tables low high None h = omega arith
held_tables low high (Some ds) h =
    let few : items_len ds ≤ high = leb-true (items_len ds) high
    (and_parts (nat_le low (items_len ds)) (nat_le (items_len ds) high) (not_false _ h)).1 in
    let fewer = tables_len ds in
    omega arith

held : (low high : ℕ) (o : Option Data) → option_map_or (λ d. not (is_in_range (Tables low high) d)) o false ≡ false
    → length (tables_in (unwrap_or (option_and_then as_array o) no_items)) ≤ high
held low high None h = omega arith
held low high (Some d) h = held_tables low high (as_array d) h

-- a key has at most as many tables as its rule allows
pub tables_kept : {since : Version} (low high : ℕ) (name : List ℕ) (ms : Members)
    → Keeps ms (needed since name (Tables low high)) → length (tables_in (items_at name ms)) ≤ high
tables_kept low high name ms k = held low high (get_member name ms) k.range

all_tables_len : (ds : Items) → are_tables ds ≡ true → length (tables_in ds) ≡ items_len ds
all_tables_len no_items h = refl
all_tables_len (item (string s) ds) h = cc
all_tables_len (item (integer z) ds) h = cc
all_tables_len (item (float x) ds) h = cc
all_tables_len (item (boolean b) ds) h = cc
all_tables_len (item (datetime t) ds) h = cc
all_tables_len (item (array es) ds) h = cc
all_tables_len (item (table ms) ds) h = let e = all_tables_len ds h in omega (arith, e)

least_held : (low high : ℕ) (o : Option Data) → is_none o ≡ false
    → option_map_or (λ d. not (has_kind (Tables low high) d)) o false ≡ false
    → option_map_or (λ d. not (is_in_range (Tables low high) d)) o false ≡ false
    → low ≤ length (tables_in (unwrap_or (option_and_then as_array o) no_items))
least_held low high None a b c = cc
least_held low high (Some (string s)) a b c = cc
least_held low high (Some (integer z)) a b c = cc
least_held low high (Some (float x)) a b c = cc
least_held low high (Some (boolean t)) a b c = cc
least_held low high (Some (datetime t)) a b c = cc
least_held low high (Some (table ms)) a b c = cc
least_held low high (Some (array ds)) a b c =
    let e = all_tables_len ds (not_false _ b) in
    let some : low ≤ items_len ds = leb-true low (items_len ds)
    (and_parts (nat_le low (items_len ds)) (nat_le (items_len ds) high) (not_false _ c)).0 in
    omega (arith, e)

-- a key has at least as many tables as its rule requires
pub tables_asked : {since : Version} (low high : ℕ) (name : List ℕ) (ms : Members)
    → Keeps ms (needed since name (Tables low high)) → low ≤ length (tables_in (items_at name ms))
tables_asked low high name ms k = least_held low high (get_member name ms) k.present k.kind k.range

held_step : (o : Ordering) (test : Data → Bool) (x d : Data) (rest : Option Data) → test x ≡ false
    → (rest ≡ Some d → test d ≡ false)
    → match_ordering o rest (Some x) rest ≡ Some d → test d ≡ false
held_step Less test x d rest h more e = more e
held_step Greater test x d rest h more e = more e
held_step Equal test x d rest h more e = let same : x ≡ d = cc in rw (sym same) h

-- if no value of a table passes a test, the value at a key doesn't pass it
pub none_held : (test : Data → Bool) (ms : Members) (name : List ℕ) (d : Data) → values_any test ms ≡ false
    → get_member name ms ≡ Some d → test d ≡ false
none_held test no_members name d h e = cc
none_held test (member k x ms) name d h e =
    let parts = neither (test x) (values_any test ms) h in
    held_step (slice_cmp nat_cmp name k) test x d (get_member name ms) parts.0
    (λ more. none_held test ms name d parts.1 more) e

-- a length that was read is within the limits
pub length_within : (ms : Members) (name : List ℕ) (z : ℤ) → lengths_fault ms ≡ None
    → get_member name ms ≡ Some (integer z)
    → (pos shortest_queue ≤ℤ z) × (z ≤ℤ pos longest_queue)
unfolding lengths_fault
length_within ms name z h e =
    let kind = passed _ _ _ h in
    let range = passed _ _ _ kind.1 in
    let within = both _ _ (none_held (λ d. not (is_in_range queue_length d)) ms name (integer z) range.0 e) in
    (le_of (pos shortest_queue) z within.0, le_of z (pos longest_queue) within.1)

kind_of_length : (ms : Members) (name : List ℕ) (d : Data) → lengths_fault ms ≡ None → get_member name ms ≡ Some d
    → has_kind queue_length d ≡ true
unfolding lengths_fault
kind_of_length ms name d h e = not_false _ (none_held (λ x. not (has_kind queue_length x)) ms name d (passed _ _ _ h).0
    e)

-- a length in the table is a number within the limits
pub length_kept : (ms : Members) (name : List ℕ) (d : Data) → lengths_fault ms ≡ None → get_member name ms ≡ Some d
    → HoldsNumber (pos shortest_queue) (pos longest_queue) name ms
length_kept ms name (integer z) h e = let within = length_within ms name z h e in
    record { value = z; held = e; above = within.0; below = within.1 }
length_kept ms name (string s) h e = let kind = kind_of_length ms name (string s) h e in cc
length_kept ms name (float x) h e = let kind = kind_of_length ms name (float x) h e in cc
length_kept ms name (boolean b) h e = let kind = kind_of_length ms name (boolean b) h e in cc
length_kept ms name (datetime t) h e = let kind = kind_of_length ms name (datetime t) h e in cc
length_kept ms name (array ds) h e = let kind = kind_of_length ms name (array ds) h e in cc
length_kept ms name (table ts) h e = let kind = kind_of_length ms name (table ts) h e in cc

-- the same length, as the code reads it
pub length_fits : (ms : Members) (name : List ℕ) → HoldsNumber (pos shortest_queue) (pos longest_queue) name ms
    → HoldsNumber (pos 0) (pos 4294967295) name ms
length_fits ms name n =
    let above = n.above in
    let below = n.below in
    record { value = n.value; held = n.held; above = omega (arith, ints); below = omega (arith, ints) }

-- the number that was read is within the limits
pub length_read : (ms : Members) (name : List ℕ) (n : ℕ) → HoldsNumber (pos shortest_queue) (pos longest_queue) name ms
    → integer_at name ms ≡ Some (pos n)
    → (shortest_queue ≤ n) × (n ≤ longest_queue)
length_read ms name n h e =
    let held = h.held in
    let above = h.above in
    let below = h.below in
    let same : h.value ≡ pos n = cc in
    (omega (arith, ints), omega (arith, ints))

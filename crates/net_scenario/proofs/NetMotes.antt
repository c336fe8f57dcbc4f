-- The motes of a net, made from their tables.
use Rattle.std.proofs.Common.{◌≡◌, ◌<◌, ◌≤◌, ◌&&◌, le-leb, lt-ltb, ℕ, suc, List, [], ◌∷◌, map, length, refl, ap, arith}
use Rattle.std.proofs.Common.{Some, None, cond, ◌∙◌, Bool, true, false, codes, IsTrue, IsSome, is_none, ◌+◌, find}
use Rattle.std.proofs.Common.{rules, ◌++◌}
use Rattle.std.specs.List.{list_all, position_from}
use Rattle.std.specs.Str.{bytes_eq}
use Rattle.std.proofs.lemmas.List.Folds.{list_all-append}
use Rattle.std.proofs.lemmas.Slice.Eq.{bytes_eq-Decides}
use Rattle.toml.specs.Data.{Members}
use Rattle.net_scenario.specs.Document.{text_at}
use Rattle.mote_net.specs.declared.programs.NamedProgram.{NamedProgram}
use Rattle.mote_net.specs.Programs.{NamedTree}
use Rattle.mote_net.specs.Meaning.{named_tree}
use Rattle.mote_net.specs.Motes.{is_mote_of}
use Rattle.mote_net.specs.Limits.{shortest_queue, longest_queue}
use Rattle.mote_net.specs.Meaning.{setup_of, program_at}
use Rattle.net_scenario.specs.Net.{queue_of, mote_of_table, unread_fault, program_named}

none_cond : {Y : Type 0} (b : Bool) (e : Y) → cond b (Some e) None ≡ None → b ≡ false
none_cond true e h = cc
none_cond false e h = refl

-- the index of a program, counted from k
pub record Found (ps : List NamedProgram) (name : List ℕ) (k i : ℕ) : Type 0 where
  pub place : ℕ
  pub is : i ≡ k + place
  pub within : place < length ps
  pub program : program_at ps place ≡ program_named (map named_tree ps) name
  pub named : (program_at ps place).name ≡ name

same_bytes : (xs ys : List ℕ) → bytes_eq xs ys ≡ true → xs ≡ ys
same_bytes xs ys h = (bytes_eq-Decides xs ys).0 h

found_first : (p : NamedProgram) (ps : List NamedProgram) (name : List ℕ) (k i : ℕ) (b : Bool)
    → bytes_eq p.name name ≡ b
    → cond b (Some k) (position_from (λ q. bytes_eq q.name name) (k + 1) ps) ≡ Some i
    → (position_from (λ q. bytes_eq q.name name) (k + 1) ps ≡ Some i → Found ps name (k + 1) i)
    → Found (p ∷ ps) name k i
found_first p ps name k i true e h more =
    let same : k ≡ i = cc in
    record {
      place = 0;
      is = omega (arith, same);
      within = omega arith;
      program = rw e;
      named = same_bytes _ _ e;
    }
found_first p ps name k i false e h more =
    let f = more h in
    record {
      place = suc f.place;
      is = omega (arith, f.is);
      within = omega (arith, f.within);
      program = rw e f.program;
      named = f.named;
    }

pub found : (ps : List NamedProgram) (name : List ℕ) (k i : ℕ) → position_from (λ q. bytes_eq q.name name) k ps
    ≡ Some i → Found ps name k i
found [] name k i h = cc
found (p ∷ ps) name k i h = found_first p ps name k i (bytes_eq p.name name) refl h (found ps name (k + 1) i)

some_first : (p : NamedProgram) (ps : List NamedProgram) (name : List ℕ) (k : ℕ) (b : Bool)
    → is_none (cond b (Some (named_tree p)) (find (λ t. bytes_eq t.name name) (map named_tree ps))) ≡ false
    → (is_none (find (λ t. bytes_eq t.name name) (map named_tree ps)) ≡ false
    → IsSome (position_from (λ q. bytes_eq q.name name) (k + 1) ps))
    → IsSome (cond b (Some k) (position_from (λ q. bytes_eq q.name name) (k + 1) ps))
some_first p ps name k true h more = search rules
some_first p ps name k false h more = more h

pub some_place : (ps : List NamedProgram) (name : List ℕ) (k : ℕ)
    → is_none (find (λ t. bytes_eq t.name name) (map named_tree ps)) ≡ false
    → IsSome (position_from (λ q. bytes_eq q.name name) k ps)
some_place [] name k h = cc
some_place (p ∷ ps) name k h = some_first p ps name k (bytes_eq p.name name) h (some_place ps name (k + 1))

-- the mote that is made from a table, with the index of its program and the length of its queue
pub mote_is : (ps : List NamedProgram) (queue ms : Members) (name : List ℕ) (i q : ℕ)
    → name ≡ text_at (codes "program") ms
    → position_from (λ q. bytes_eq q.name name) 0 ps ≡ Some i → q ≡ queue_of queue name
    → setup_of ps (record { program = i; queue = q }) ≡ mote_of_table queue (map named_tree ps) ms
mote_is ps queue ms name i q name-is h queue-is =
    let f = found ps name 0 i h in
    let place : i ≡ f.place = omega (arith, f.is) in
    let name-at : (program_at ps i).name ≡ text_at (codes "program") ms = ap (λ (k : ℕ). (program_at ps k).name) place
    ∙ f.named ∙ name-is in
    let tree-at : (program_at ps i).tree ≡ (program_named (map named_tree ps) (text_at (codes "program") ms)).tree =
    ap (λ (k : ℕ). (program_at ps k).tree) place ∙ ap (λ (t : NamedTree). t.tree) f.program
    ∙ ap (λ (n : List ℕ). (program_named (map named_tree ps) n).tree) name-is in
    let queue-at : q ≡ queue_of queue (text_at (codes "program") ms) =
    queue-is ∙ ap (λ (n : List ℕ). queue_of queue n) name-is in
    rw (name-at, tree-at, queue-at) refl

pub place_within : (ps : List NamedProgram) (name : List ℕ) (i : ℕ) → position_from (λ q. bytes_eq q.name name) 0 ps
    ≡ Some i → i < length ps
place_within ps name i h = let f = found ps name 0 i h in omega (arith, f.is, f.within)

-- the program of a mote is found, unless it is a fault that the program doesn't exist
pub read_is_found : (ps : List NamedProgram) (ms : Members) (name : List ℕ) → unread_fault (map named_tree ps) ms
    ≡ None → name ≡ text_at (codes "program") ms
    → IsSome (position_from (λ q. bytes_eq q.name name) 0 ps)
read_is_found ps ms name h name-is =
    some_place ps name 0 (rw name-is (none_cond _ _ h))

both_true : (a b : Bool) → a ≡ true → b ≡ true → (a && b) ≡ true
both_true a b x y = rw (x, y) refl

-- a mote whose program is in the list, and whose length of the queue is within the limits
pub is_mote : (n i q : ℕ) → i < n → shortest_queue ≤ q → q ≤ longest_queue
    → IsTrue (is_mote_of n (record { program = i; queue = q }))
is_mote n i q a b c = both_true _ _ (lt-ltb i n a)
    (both_true _ _ (le-leb shortest_queue q b) (le-leb q longest_queue c))

-- if all elements of a list pass a test, and one more element passes it, all elements of the longer list pass it
pub all_push : {X : Type 0} (p : X → Bool) (xs : List X) (x : X) → IsTrue (list_all p xs) → IsTrue (p x)
    → IsTrue (list_all p (xs ++ (x ∷ [])))
all_push p xs x all this = list_all-append p xs (x ∷ []) ∙ both_true _ _ all (both_true _ _ this refl)

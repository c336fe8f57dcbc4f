-- The contents of a table that has no error.
use Rattle.std.proofs.Common.{◌≡◌, ◌<◌, ◌≤◌, ◌≤ℤ◌, ℕ, zero, suc, ℤ, pos, negsuc, neg_ℤ, unsigned_abs, Bool, true}
use Rattle.std.proofs.Common.{false, not, ◌&&◌, ◌||◌, cond, List, [], ◌∷◌, length, get_or, Option, Some, None, is_none}
use Rattle.std.proofs.Common.{refl, arith}
use Rattle.std.proofs.lemmas.Int.{ints}
use Rattle.std.specs.List.{list_any}
use Rattle.std.specs.Option.{option_map_or}
use Rattle.std.specs.Int.Signed.{le_z}
use Rattle.toml.specs.Data.{Data, string, integer, float, boolean, datetime, array, table, Members, get_member}
use Rattle.net_scenario.specs.declared.version.Version.{Version}
use Rattle.net_scenario.specs.declared.version.Version.TheVariants.{First}
use Rattle.net_scenario.specs.declared.rules.KeyKind.TheVariants.{Number, Table}
use Rattle.net_scenario.specs.Rules.{Rule, needed, has_come, known_in, keys_fault, has_kind, is_in_range, misses}
use Rattle.net_scenario.specs.Rules.{holds_other_kind, holds_out_of_range}
use Rattle.net_scenario.specs.Document.{HoldsNumber, HoldsTable, integer_at, number_at}

-- a table without a fault at one rule
pub record Keeps (ms : Members) (r : Rule) : Type 0 where
  pub present : misses ms r ≡ false
  pub kind : holds_other_kind ms r ≡ false
  pub range : holds_out_of_range ms r ≡ false

pub passed : {E : Type 0} (b : Bool) (e : E) (rest : Option E) → cond b (Some e) rest ≡ None → (b ≡ false)
    × (rest ≡ None)
passed true e rest h = cc
passed false e rest h = (refl, h)

pub neither : (a b : Bool) → (a || b) ≡ false → (a ≡ false) × (b ≡ false)
neither true b h = cc
neither false b h = (refl, h)

pub both : (a b : Bool) → not (a && b) ≡ false → (a ≡ true) × (b ≡ true)
both true true h = (refl, refl)
both true false h = cc
both false b h = cc

rest_known : {X : Type 0} (b : Bool) (p : X → Bool) (x : X) (xs : List X) → list_any p (cond b (x ∷ xs) xs) ≡ false
    → list_any p xs ≡ false
rest_known true p x xs h = (neither (p x) (list_any p xs) h).1
rest_known false p x xs h = h

first_known : {X : Type 0} (b : Bool) (p : X → Bool) (x : X) (xs : List X) → b ≡ true → list_any p (cond b (x ∷ xs) xs)
    ≡ false → p x ≡ false
first_known true p x xs e h = (neither (p x) (list_any p xs) h).0
first_known false p x xs e h = cc

-- the value past the end of a list of rules
abbrev pub no_rule : Rule
no_rule = needed First [] Table

none_known : (v : Version) (p : Rule → Bool) (rs : List Rule) (i : ℕ) → i < length rs
    → has_come (get_or rs i no_rule).since v ≡ true
    → list_any p (known_in v rs) ≡ false → p (get_or rs i no_rule) ≡ false
none_known v p [] i lt k h = absurd (omega arith)
none_known v p (r ∷ rs) zero lt k h = first_known (has_come r.since v) p r (known_in v rs) k h
none_known v p (r ∷ rs) (suc i) lt k h = none_known v p rs i (omega arith) k
    (rest_known (has_come r.since v) p r (known_in v rs) h)

-- a table without a fault keeps each rule of its version
pub keeps_all : (v : Version) (rs : List Rule) (ms : Members) → keys_fault (known_in v rs) ms ≡ None → (i : ℕ)
    → i < length rs
    → has_come (get_or rs i no_rule).since v ≡ true → Keeps ms (get_or rs i no_rule)
unfolding keys_fault
keeps_all v rs ms h i lt k =
    let present = passed _ _ _ h in
    let known = passed _ _ _ present.1 in
    let kind = passed _ _ _ known.1 in
    let range = passed _ _ _ kind.1 in
    record {
      present = none_known v (misses ms) rs i lt k present.0;
      kind = none_known v (holds_other_kind ms) rs i lt k kind.0;
      range = none_known v (holds_out_of_range ms) rs i lt k range.0;
    }

pub le_of : (a b : ℤ) → le_z a b ≡ true → a ≤ℤ b
le_of a b h = grind (arith, ints)

held_number : (low high : ℤ) (name : List ℕ) (ms : Members) (o : Option Data) → get_member name ms ≡ o
    → is_none o ≡ false
    → option_map_or (λ d. not (has_kind (Number low high) d)) o false ≡ false
    → option_map_or (λ d. not (is_in_range (Number low high) d)) o false ≡ false → HoldsNumber low high name ms
held_number low high name ms None e a b c = cc
held_number low high name ms (Some (integer z)) e a b c =
    let within = both (le_z low z) (le_z z high) c in
    record { value = z; held = e; above = le_of low z within.0; below = le_of z high within.1 }
held_number low high name ms (Some (string s)) e a b c = cc
held_number low high name ms (Some (float x)) e a b c = cc
held_number low high name ms (Some (boolean x)) e a b c = cc
held_number low high name ms (Some (datetime x)) e a b c = cc
held_number low high name ms (Some (array x)) e a b c = cc
held_number low high name ms (Some (table x)) e a b c = cc

pub number_kept : {since : Version} (low high : ℤ) (name : List ℕ) (ms : Members)
    → Keeps ms (needed since name (Number low high)) → HoldsNumber low high name ms
number_kept low high name ms k = held_number low high name ms (get_member name ms) refl k.present k.kind k.range

-- a number that is not negative and has at most 32 bits
pub natural_kept : {since : Version} (high : ℕ) (name : List ℕ) (ms : Members) → high ≤ 4294967295
    → Keeps ms (needed since name (Number (pos 0) (pos high))) → HoldsNumber (pos 0) (pos 4294967295) name ms
natural_kept high name ms fits k =
    let n = number_kept (pos 0) (pos high) name ms k in
    let above = n.above in
    let below = n.below in
    record { value = n.value; held = n.held; above = n.above; below = omega (arith, ints) }

-- a signed number with at most 32 bits
pub signed_kept : {since : Version} (low high : ℤ) (name : List ℕ) (ms : Members) → negsuc 2147483647 ≤ℤ low
    → high ≤ℤ pos 2147483647 → Keeps ms (needed since name (Number low high))
    → HoldsNumber (negsuc 2147483647) (pos 2147483647) name ms
signed_kept low high name ms fits-low fits-high k =
    let n = number_kept low high name ms k in
    let above = n.above in
    let below = n.below in
    record { value = n.value; held = n.held; above = omega (arith, ints); below = omega (arith, ints) }

held_table : (name : List ℕ) (ms : Members) (o : Option Data) → get_member name ms ≡ o → is_none o ≡ false
    → option_map_or (λ d. not (has_kind Table d)) o false ≡ false → HoldsTable name ms
held_table name ms None e a b = cc
held_table name ms (Some (integer z)) e a b = cc
held_table name ms (Some (string s)) e a b = cc
held_table name ms (Some (float x)) e a b = cc
held_table name ms (Some (boolean x)) e a b = cc
held_table name ms (Some (datetime x)) e a b = cc
held_table name ms (Some (array x)) e a b = cc
held_table name ms (Some (table x)) e a b = record { inner = x; held = e }

within_abs : (far : ℕ) (z : ℤ) → neg_ℤ (pos far) ≤ℤ z → z ≤ℤ pos far → unsigned_abs z ≤ far
within_abs far z a b = omega (arith, ints)

-- a number that was read is within the limits of its key
pub natural_within : (high : ℕ) (name : List ℕ) (ms : Members) (n : ℕ) → HoldsNumber (pos 0) (pos high) name ms
    → integer_at name ms ≡ Some (pos n) → n ≤ high
natural_within high name ms n h e =
    let held = h.held in
    let below = h.below in
    let same : h.value ≡ pos n = cc in
    omega (arith, ints)

-- a signed number that was read is no farther from 0 than its limit
pub signed_within : (far : ℕ) (name : List ℕ) (ms : Members) → HoldsNumber (neg_ℤ (pos far)) (pos far) name ms
    → unsigned_abs (number_at name ms) ≤ far
signed_within far name ms h =
    let above = h.above in
    let below = h.below in
    rw h.held (within_abs far h.value above below)

pub table_kept : {since : Version} (name : List ℕ) (ms : Members) → Keeps ms (needed since name Table)
    → HoldsTable name ms
table_kept name ms k = held_table name ms (get_member name ms) refl k.present k.kind

-- The names of processes.
use Rattle.std.proofs.Common.{◌≡◌, ◌<◌, ◌+◌, ℕ, List, Option, None, Some, ap, sym, subst, ◌∙◌, inl, inr, arith, option_map, slice_get, slice_index_or, take, length, []}
use Rattle.std.proofs.lemmas.List.{take_more_same}
use Rattle.std.proofs.lemmas.Bool.{cases_eq}
use Rattle.program_tree.specs.Code.{Tree}
use Rattle.mote_net.specs.Net.{MoteSetup, NetModel}
use Rattle.claim_check.specs.Names.{NamesDiffer, names_at}

processes_of : (o : Option MoteSetup) (t : Tree) → option_map (λ m. m.tree) o ≡ Some t → option_map (λ m. m.tree.processes) o ≡ Some t.processes
processes_of None t is = ap (option_map (λ (u : Tree). u.processes)) is
processes_of (Some m) t is = ap (option_map (λ (u : Tree). u.processes)) is

-- the names of a mote with this program
pub names_of_tree : (net : NetModel) (mote : ℕ) (t : Tree) → option_map (λ m. m.tree) (slice_get net.motes mote) ≡ Some t → names_at net mote ≡ Some t.processes
names_of_tree net mote t is = processes_of (slice_get net.motes mote) t is

-- one more mote has the names
pub one_mote_more : (net : NetModel) (names : List (List ℕ)) (mote : ℕ) → ((k : ℕ) → k < mote → names_at net k ≡ Some names) → names_at net mote ≡ Some names
    → (k : ℕ) → k < mote + 1 → names_at net k ≡ Some names
one_mote_more net names mote before here k below =
    elim (cases_eq k mote) [ inl e ↦ subst (λ n. names_at net n ≡ Some names) (sym e) here | inr ne ↦ before k (omega (arith, ne)) ]

some_is_one : (a b : List (List ℕ)) → Some a ≡ Some b → a ≡ b
some_is_one a b e = cc

-- two motes have different names
pub names_differ : (net : NetModel) (one other : ℕ) (a b : List (List ℕ)) → one < length net.motes → other < length net.motes → names_at net one ≡ Some a → names_at net other ≡ Some b
    → ¬ (a ≡ b) → NamesDiffer net
names_differ net one other a b one_is other_is is_a is_b differ names have =
    differ (some_is_one a b (sym is_a ∙ have one one_is ∙ sym (have other other_is) ∙ is_b))

-- one more name is the same
pub same_more : (one other : List (List ℕ)) (i : ℕ) → i < length one → length one ≡ length other → take i one ≡ take i other → slice_index_or one i [] ≡ slice_index_or other i []
    → take (i + 1) one ≡ take (i + 1) other
same_more one other i below as_long before same = take_more_same one other i [] below (subst (λ n. i < n) as_long below) before same

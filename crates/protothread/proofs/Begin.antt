-- A fresh thread, and a part without statements.
use Rattle.std.proofs.Common.{◌≡◌, ℕ, suc, ◌<◌, min, Bool, true, false, List, [], ◌∷◌, length, Option, None, Some, option_map, refl, ap, sym, ◌∙◌, subst, arith}
use Rattle.std.specs.Prelude.{slice_get, ◌==◌, IsTrue, IfSome}
use Rattle.std.proofs.lemmas.Bool.Decides.{nat_tests}
use Rattle.program_tree.specs.Code.{Code}
use Rattle.program_tree.specs.Flat.{rest_at, IsFlat}
use Rattle.program_tree.specs.Scope.{block_fits, earlier_threads}
use Rattle.program_tree.specs.Tree.{Statement, Body, listed}
use Rattle.program_tree.specs.declared.instruction.Instruction.{Instruction}
use Rattle.program_tree.proofs.Emitting.{rest_at-start}
use Rattle.protothread.specs.declared.part.Part.{Part}
use Rattle.protothread.specs.declared.calls.Call.{Call}
use Rattle.protothread.specs.declared.thread.LastAction.TheVariants.{AtRest}
use Rattle.protothread.specs.Calls.{before_number}
use Rattle.protothread.specs.Remainder.{before, fresh_of}
use Rattle.protothread.proofs.CallLaws.{listed-part}
use Rattle.protothread.proofs.Reaching.{leads_to_rest}
use Rattle.protothread.specs.Places.{body_or_end, part_body, nested, callers_in, innermost, remainder_of}

pub begins : (code : Code) (part : Part) (calls : List Call) → calls ≡ []
    → remainder_of code (record { part = part; last_action = AtRest; is_yielded = false; position = 0; calls = calls }) ≡ fresh_of code part
begins code part calls none =
    ap (λ cs. record { part = part; last_action = AtRest; place = nested (callers_in code (part_body code part) cs) (before false (rest_at (innermost code (part_body code part) cs) 0)) }) none
    ∙ ap (λ l. record { part = part; last_action = AtRest; place = before false l }) (rest_at-start (part_body code part) ∙ listed-part code part)

-- a block without statements has no code
none_left : (b : Body ℕ) (flat : List Instruction) → IsFlat b flat → flat ≡ [] → listed b ≡ []
none_left b flat is none = sym (rest_at-start b) ∙ is.outside 0 (omega (arith, ap length none))

no_code : (b : Body ℕ) (flat : List Instruction) → IsFlat b flat → listed b ≡ [] → flat ≡ []
no_code b [] is none = refl
no_code b (i ∷ flat) is none =
    let there = leads_to_rest (rest_at b) i (rest_at b 0) (is.each 0 i refl) in
    let nothing : there.0 ∷ there.1 ≡ [] = sym there.2 ∙ rest_at-start b ∙ none in
    absurd (cc)

pub is_empty_so : (b : Body ℕ) (flat : List Instruction) (whole : List (Statement ℕ)) (r : Bool) → IsFlat b flat → listed b ≡ whole → r ≡ (length flat == 0)
    → (IsTrue r → whole ≡ []) × (whole ≡ [] → IsTrue r)
is_empty_so b [] whole r is same e = (λ t. sym same ∙ none_left b [] is refl, λ n. e)
is_empty_so b (i ∷ flat) whole r is same e =
    let no : r ≡ false = e ∙ never (length flat) in
    (λ t. let yes : r ≡ true = t in absurd (cc), λ n. let none : i ∷ flat ≡ [] = no_code b (i ∷ flat) is (same ∙ n) in absurd (cc))
  where
    never : (n : ℕ) → (suc n == 0) ≡ false
    never n = grind (arith, nat_tests)

-- the block of a thread spawns only threads before itself, even if it is empty
pub found_earlier : {A : Type 0} (tree : A → Body ℕ) (o : Option A) (n : ℕ) (bs : List (Body ℕ)) → option_map tree o ≡ slice_get bs n
    → IfSome o (λ b. n < 7) → IfSome o (λ b. IsTrue (block_fits (earlier_threads n) (tree b))) → block_fits (earlier_threads (before_number n)) (body_or_end (slice_get bs n)) ≡ true
found_earlier tree None n bs is few earlier =
    let P : Option (Body ℕ) → Type 0 = λ o. block_fits (earlier_threads (before_number n)) (body_or_end o) ≡ true in
    subst P is refl
found_earlier tree (Some b) n bs is few earlier =
    let P : Option (Body ℕ) → Type 0 = λ o. block_fits (earlier_threads (before_number n)) (body_or_end o) ≡ true in
    let Q : ℕ → Type 0 = λ m. block_fits (earlier_threads m) (tree b) ≡ true in
    subst P is (subst Q (own n few) earlier)
  where
    own : (m : ℕ) → m < 7 → m ≡ min 7 m
    own m h = omega arith

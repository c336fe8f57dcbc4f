use Rattle.std.proofs.Common.{◌≡◌, ℕ, ◌<◌, ◌≤◌, List, length, map, sym, subst}
use Rattle.std.specs.Prelude.{IsTrue, IfSome, slice_get, option_map}
use Rattle.program_tree.specs.FlatBlock.{tree_in}
use Rattle.program_tree.specs.Tree.{IsWithinLimits}
use Rattle.std.specs.List.{All}
use Rattle.program_tree.specs.Scope.{block_fits, threads_fit, earlier_threads}
use Rattle.program_tree.specs.declared.flat_block.FlatBlock.{FlatBlock}
use Rattle.program_tree.proofs.Spawning.{found_earlier, found_block, found_few, found_within}
use Rattle.program_tree.proofs.process_text.ProcessText.thread.Goals as goal

pub returns-clause-earlier : goal.returns-clause-earlier
returns-clause-earlier c =
    let P : ℕ → Type 0 = λ n. IfSome c.get.result (λ b. IsTrue (block_fits (earlier_threads n) (tree_in b.now))) in
    let Q : List FlatBlock → Type 0 = λ l. IsTrue (threads_fit earlier_threads 0 (map tree_in l)) in
    subst P c.from.ensures
    (found_earlier (λ b. b.now) tree_in c.deref.result.now c.from.result c.get.result (subst Q (sym c.deref.ensures.value) c.args.self.now.spawns_earlier) c.get.ensures.lookup)

pub returns-clause-value : goal.returns-clause-value
returns-clause-value c =
    let trees = map tree_in c.args.self.now.thread_blocks.items in
    let found = option_map (λ b. tree_in b.now) c.get.result in
    let P : ℕ → Type 0 = λ n. found ≡ slice_get trees n in
    let Q : List FlatBlock → Type 0 = λ l. found ≡ slice_get (map tree_in l) c.from.result in
    let here = found_block (λ b. b.now) tree_in c.deref.result.now c.from.result c.get.result c.get.ensures.lookup in
    subst P c.from.ensures (subst Q c.deref.ensures.value here)

pub returns-clause-number_bounded : goal.returns-clause-number_bounded
returns-clause-number_bounded c =
    let P : ℕ → Type 0 = λ n. IfSome c.get.result (λ b. n < 7) in
    let few : length c.deref.result.now ≤ 7 = subst (λ (l : List FlatBlock). length l ≤ 7) (sym c.deref.ensures.value)
    (subst (λ (n : ℕ). n ≤ 7) (sym c.args.self.now.each_thread) c.args.self.now.few_threads) in
    let small = found_few (λ b. b.now) c.deref.result.now c.from.result 7 c.get.result few c.get.ensures.lookup in
    subst P c.from.ensures small

pub returns-clause-within : goal.returns-clause-within
returns-clause-within c =
    let W : FlatBlock → Type 0 = λ b. IsWithinLimits (tree_in b) in
    let P : List FlatBlock → Type 0 = λ l. All W l in
    let all : P c.deref.result.now = subst P (sym c.deref.ensures.value) c.args.self.now.threads_within in
    found_within (λ b. b.now) W c.deref.result.now c.from.result c.get.result all c.get.ensures.lookup

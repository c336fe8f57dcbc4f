use Rattle.std.proofs.Common.{◌<◌, length, rules, arith}
use Rattle.program_tree.specs.declared.tree.Stmt.{the_lemmas as stmt_lemmas}
use Rattle.program_tree.specs.declared.tree.Block.{the_lemmas as block_lemmas}
use Rattle.program_tree.proofs.Emitting.{size_here}
use Rattle.program_tree.proofs.flattening.+count.Goals as goal

pub count-count_statement-total-requires : goal.count-count_statement-total-requires
count-count_statement-total-requires t c =
    let items = c.args.block.now.statements.items in
    let within : c.loop-i.i < length items = omega (arith, c.len-i-end.ensures, c.args.block.now.statements.ok.0, c.loop-i-test.true) in
    (search (rules, stmt_lemmas, block_lemmas), omega (arith, c.requires.size_bounded, c.loop-i.invariant, size_here items c.loop-i.i c.index.result.now within c.index.ensures))

pub count-overflow_add-total : goal.count-overflow_add-total
count-overflow_add-total t c =
    let items = c.args.block.now.statements.items in
    let within : c.loop-i.i < length items = omega (arith, c.len-i-end.ensures, c.args.block.now.statements.ok.0, c.loop-i-test.true) in
    omega (arith, c.requires.size_bounded, c.loop-i.invariant, c.count_statement-total.ensures.size, size_here items c.loop-i.i c.index.result.now within c.index.ensures)

pub count-loop-i-preserved : goal.count-loop-i-preserved
count-loop-i-preserved t c =
    let items = c.args.block.now.statements.items in
    let within : c.loop-i.i < length items = omega (arith, c.len-i-end.ensures, c.args.block.now.statements.ok.0, c.loop-i-test.true) in
    omega (arith, c.loop-i.invariant, c.count_statement-total.ensures.size, size_here items c.loop-i.i c.index.result.now within c.index.ensures)

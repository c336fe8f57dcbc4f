use Rattle.std.proofs.Common.{◌<◌, length, sym, arith}
use Rattle.std.proofs.lemmas.Grind.{common_steps}
use Rattle.program_tree.proofs.Emitting.{entry_some}
use Rattle.program_tree.proofs.flattening.entry.Goals as goal

pub returns-else-is_empty : goal.returns-else-is_empty
returns-else-is_empty c = record {
  value =
      let some : 0 < length c.args.block.now.statements.items = grind (arith, common_steps) in
      sym (entry_some c.args.block.now.statements.items 0 c.args.place c.args.after some);
}

use Rattle.std.proofs.lemmas.List.Elements.{All-map}
use Rattle.program_tree.specs.FlatBlock.{tree_in}
use Rattle.program_tree.specs.Tree.{IsWithinLimits}
use Rattle.program_tree.proofs.process_text.ProcessText.threads.Goals as goal

pub returns-clause-within : goal.returns-clause-within
returns-clause-within c = All-map (λ b. IsWithinLimits b) tree_in c.args.self.now.thread_blocks.items c.args.self.now.threads_within

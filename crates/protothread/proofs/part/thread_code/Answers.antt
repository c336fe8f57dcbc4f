use Rattle.std.proofs.Common.{ℕ, ap, subst}
use Rattle.program_tree.specs.Flat.{IsFlat}
use Rattle.program_tree.specs.FlatBlock.{tree_in}
use Rattle.program_tree.specs.Program.{code_of}
use Rattle.program_tree.specs.Tree.{Body}
use Rattle.protothread.specs.Places.{body_or_end}
use Rattle.protothread.proofs.Begin.{found_earlier}
use Rattle.protothread.proofs.part.thread_code.Goals as goal

pub returns-clause-flat : goal.returns-clause-flat
returns-clause-flat c =
    let P : Body ℕ → Type 0 = λ b. IsFlat b c.code_of_block.result.now in
    subst P (ap body_or_end c.thread.ensures.value) c.code_of_block.ensures.is_flat

pub returns-clause-earlier : goal.returns-clause-earlier
returns-clause-earlier c =
    found_earlier (λ b. tree_in b.now) c.thread.result c.args.thread (code_of c.args.text.now).thread_bodies c.thread.ensures.value c.thread.ensures.number_bounded c.thread.ensures.earlier

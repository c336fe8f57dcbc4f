use Rattle.std.proofs.Common.{rules, ap, ◌∙◌, arith, slice_set, slice_index_or}
use Rattle.program_tree.specs.declared.event.Proc.TheVariants.{Own}
use Rattle.process_kernel.specs.declared.process.Member.{Member}
use Rattle.process_kernel.proofs.Lists.{number_more}
use Rattle.process_kernel.proofs.run.number.Goals as goal

pub loop-place-preserved : goal.loop-place-preserved
loop-place-preserved c =
    let inv = c.loop-place.invariant in
    let p = c.loop-place.place in
    let blank : Member = record { process = Own 0; incarnation = 0 } in (
      search (rules, inv.0),
      ap (λ xs. slice_set xs p (record { process = (slice_index_or xs p blank).process; incarnation = p })) inv.1
          ∙ number_more 0 p p c.args.members.now blank c.loop-place-test.true (omega arith),
    )

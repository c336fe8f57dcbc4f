use Rattle.net_scenario.proofs.ByName.{read_in_order}
use Rattle.net_scenario.proofs.ReadSoFar.{read_all, read_one}
use Rattle.net_scenario.proofs.programs.read_programs.Goals as goal

pub loop-name-preserved : goal.loop-name-preserved
loop-name-preserved c =
    let so_far = rw c.in-Some.ensures.steps at c.loop-name.invariant in
    let read = rw (c.as_str.ensures.value, c.text_of.ensures.value) at c.in_ok-read_program.ensures.reads_program in
    rw c.in_ok-push.ensures.items (read_one _ _ _ _ _ so_far read)

pub returns-clause-in_order : goal.returns-clause-in_order
returns-clause-in_order c = read_in_order c.args.table.now _ c.iter-name-items.ensures.ordered
    (read_all _ _ (rw c.in-None.ensures.steps.0 at c.loop-name.invariant))

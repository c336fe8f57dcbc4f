use Rattle.worker_window.proofs.worker.run_motes.Goals as goal

pub returns-in-Ok-Ok-clause-ends : goal.returns-in-Ok-Ok-clause-ends
returns-in-Ok-Ok-clause-ends g c = rw c.in-Ok-Ok.field-0-is at c.in-Ok-Ok.ensures

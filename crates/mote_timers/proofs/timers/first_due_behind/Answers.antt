use Rattle.mote_timers.proofs.Walks.{behind_found, behind_below, behind_nearer}
use Rattle.mote_timers.proofs.timers.first_due_behind.Goals as goal

pub returns-clause-is_timer : goal.returns-clause-is_timer
returns-clause-is_timer c = behind_below _ c.args.after c.args.listed.now _ _ (rw c.listed_behind.ensures.value at c.first_due_of.ensures.first_due) c.requires.are_timers

pub returns-clause-listed : goal.returns-clause-listed
returns-clause-listed c = behind_found _ c.args.after c.args.listed.now _ (rw c.listed_behind.ensures.value at c.first_due_of.ensures.first_due)

pub returns-clause-nearer_end : goal.returns-clause-nearer_end
returns-clause-nearer_end c = behind_nearer _ c.args.after c.args.listed.now _ c.requires.once (rw c.listed_behind.ensures.value at c.first_due_of.ensures.first_due)

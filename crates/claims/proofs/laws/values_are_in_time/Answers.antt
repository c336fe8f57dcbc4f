use Rattle.claims.proofs.TimeLaws.{values_in_time, last_in_time}
use Rattle.claims.proofs.laws.values_are_in_time.Goals as goal

pub returns-clause-one_by_one : goal.returns-clause-one_by_one
returns-clause-one_by_one c = values_in_time

pub returns-clause-last : goal.returns-clause-last
returns-clause-last c = last_in_time

use Rattle.radio_faults.proofs.Broken.{loss_tables_agree}
use Rattle.radio_faults.proofs.Valid.{loss_tables_are_sound}
use Rattle.radio_faults.proofs.laws.loss_tables_agree.Goals as goal

pub returns-clause-loss_tables_agree : goal.returns-clause-loss_tables_agree
returns-clause-loss_tables_agree c = loss_tables_agree

pub returns-clause-loss_tables_are_sound : goal.returns-clause-loss_tables_are_sound
returns-clause-loss_tables_are_sound c = loss_tables_are_sound

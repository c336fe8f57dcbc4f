use Rattle.radio_faults.proofs.Again.{one_fault}
use Rattle.radio_faults.proofs.text_laws.one_fault.Goals as goal

pub returns : goal.returns
returns c = record { one_fault = one_fault }

use Rattle.std.proofs.Common.{◌∙◌, sym}
use Rattle.radio_faults.proofs.OneList.{one_list}
use Rattle.radio_faults.proofs.text_laws.texts_are_read.Goals as goal

pub returns : goal.returns
returns c = record { texts_are_read = λ text fs gs f g. one_list fs gs (f.0 ∙ sym g.0) f.1 g.1 }

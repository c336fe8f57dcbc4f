-- The texts of a mote's errors.
use Rattle.std.specs.Prelude.{ℕ, List, codes}
use Rattle.mote_node.specs.declared.mote.MoteError.{MoteError}
use Rattle.mote_node.specs.declared.mote.MoteError.TheVariants.{Memory, Failed, Past}

abbrev pub text_of_mote_error : MoteError → List ℕ
text_of_mote_error Memory = codes "out of memory"
text_of_mote_error Failed = codes "an earlier turn of the mote found no memory"
text_of_mote_error Past = codes "the moment isn't above that of the last turn"

-- Laws of media with faults.
use Rattle.std.specs.Prelude.{◌≡◌, List, None}
use Rattle.std.specs.List.{AllByRecursion, filter_map}
use Rattle.radio_medium.specs.Medium.{Radio, copy_of, fates, medium_fault}
use Rattle.radio_packet.specs.declared.fate.Fate.{Fate}
use Rattle.radio_packet.specs.declared.sent.Sent.{Sent}
use Rattle.radio_faults.specs.declared.fault.Fault.{Fault}
use Rattle.radio_faults.specs.Faults.{copies_with, fates_with}
use Rattle.radio_faults.specs.LossTables.{IsOfLinks, radio_with}

-- the fates with faults are those of the copies with faults
abbrev pub FatesTellCopies : Type 0
FatesTellCopies = (faults : List Fault) (sent : Sent) (fates : List Fate)
    → filter_map (copy_of sent) (fates_with faults sent fates) ≡ copies_with faults (filter_map (copy_of sent) fates)

-- if the faults are of links, each packet has the fates that it has in the medium that loses all on these links
abbrev pub LossTablesAgree : Type 0
LossTablesAgree = (radio : Radio) (faults : List Fault) → AllByRecursion IsOfLinks faults → (sent : Sent)
    → fates_with faults sent (fates radio sent) ≡ fates (radio_with faults radio) sent

-- a medium without an error has none with these losses
abbrev pub LossTablesAreSound : Type 0
LossTablesAreSound = (radio : Radio) (faults : List Fault) → medium_fault radio ≡ None → medium_fault (radio_with faults radio) ≡ None

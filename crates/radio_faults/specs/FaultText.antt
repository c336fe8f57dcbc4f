-- The text of a fault.
use Rattle.std.specs.Prelude.{ℕ, ◌==◌, if◌then◌else◌, List, ◌++◌, Option, Some, None, codes, decimal}
use Rattle.radio_faults.specs.declared.fault.Fault.{Fault}
use Rattle.radio_faults.specs.declared.fault.Fault.TheVariants.{Link, Silent, Lost, LostToAll, Late, Off}

abbrev pub packet_text : (sender number : ℕ) → List ℕ
packet_text sender number = codes "packet " ++ decimal number ++ codes " of mote " ++ decimal sender

abbrev pub way_text : (to : ℕ) → List ℕ
way_text to = codes " on the way to mote " ++ decimal to

abbrev pub off_text : (mote : ℕ) → List ℕ
off_text mote = codes "mote " ++ decimal mote ++ codes " is off from "

abbrev pub restart_text : (mote at : ℕ) → List ℕ
restart_text mote at = codes "mote " ++ decimal mote ++ codes " restarts at " ++ decimal at

-- a mote that is off between two moments, or restarts if they are the same
abbrev pub off_to_text : (mote from until : ℕ) → List ℕ
off_to_text mote from until =
    if from == until then restart_text mote until
    else off_text mote ++ (decimal from ++ (codes " to " ++ decimal until))

-- a mote that is off from a moment on, or up to another
abbrev pub times_text : (mote from : ℕ) → (until : Option ℕ) → List ℕ
times_text mote from None = off_text mote ++ (decimal from ++ codes " on")
times_text mote from (Some until) = off_to_text mote from until

abbrev pub fault_text : Fault → List ℕ
fault_text (Link from to) = codes "link " ++ decimal from ++ codes " to " ++ decimal to ++ codes " is broken"
fault_text (Silent mote) = codes "mote " ++ decimal mote ++ codes " is silent"
fault_text (Lost sender number to) = packet_text sender number ++ (codes " is lost" ++ way_text to)
fault_text (LostToAll sender number) = packet_text sender number ++ codes " is lost"
fault_text (Late sender number to by) =
    packet_text sender number ++ (codes " is " ++ (decimal by ++ (codes " late" ++ way_text to)))
fault_text (Off mote from until) = times_text mote from until

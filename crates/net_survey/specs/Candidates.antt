-- The faults that a net may have.
use Rattle.std.specs.Prelude.{ℕ, Bool, if◌then◌else◌, List, [], ◌++◌, map}
use Rattle.std.specs.List.{filter, flat_map}
use Rattle.radio_medium.specs.Medium.{Radio, hears, motes}
use Rattle.radio_faults.specs.declared.fault.Fault.{Fault}
use Rattle.radio_faults.specs.declared.fault.Fault.TheVariants as fault
use Rattle.net_survey.specs.declared.candidates.MoteFault.{MoteFault}
use Rattle.net_survey.specs.declared.candidates.MoteFault.TheVariants.{Silent, Off}

-- the broken links from mote s to each mote that hears it
abbrev pub links_from : Radio → (s : ℕ) → List Fault
links_from radio s = map (fault.Link s) (filter (λ r. hears radio r s) (motes radio))

abbrev pub link_faults : Radio → List Fault
link_faults radio = flat_map (links_from radio) (motes radio)

-- what happens to this mote
abbrev pub fault_of_mote : MoteFault → (mote : ℕ) → Fault
fault_of_mote Silent mote = fault.Silent mote
fault_of_mote (Off from until) mote = fault.Off mote from until

abbrev pub of_each_mote : Radio → MoteFault → List Fault
of_each_mote radio it = map (fault_of_mote it) (motes radio)

-- the broken links, if they are chosen, and each of these faults of each mote
abbrev pub fixed_faults : (links : Bool) → List MoteFault → Radio → List Fault
fixed_faults links its radio = (if links then link_faults radio else []) ++ flat_map (of_each_mote radio) its

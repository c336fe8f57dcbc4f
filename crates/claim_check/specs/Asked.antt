-- What the options ask for, and which of them don't go together.
use Rattle.std.specs.Prelude.{ℕ, ◌+◌, ◌==◌, ◌&&◌, ◌||◌, nat_le, Bool, true, false, not, if◌then◌else◌, List, [], ◌∷◌, ◌++◌}
use Rattle.std.specs.Prelude.{Option, Some, None, Vec, is_none, is_some, length, map, string_bytes, unwrap_or}
use Rattle.std.specs.declared.alloc.Global.{Global}
use Rattle.net_survey.specs.declared.candidates.MoteFault.{MoteFault}
use Rattle.net_survey.specs.declared.candidates.MoteFault.TheVariants as mote
use Rattle.fault_keys.specs.declared.keys.CopyFault.{CopyFault}
use Rattle.fault_keys.specs.declared.keys.CopyFault.TheVariants.{Lost, Late}
use Rattle.window_workers.specs.declared.sync.SyncKind.TheVariants as sync
use Rattle.simulation.specs.Simulation.{Way, way_by}
use Rattle.claim_check.specs.Survey.{Plan}
use Rattle.claim_check.specs.declared.command_line.Asked.{Asked}
use Rattle.claim_check.specs.declared.command_line.Options.{Options}
use Rattle.claim_check.specs.declared.plan.When.{When}
use Rattle.claim_check.specs.declared.plan.When.TheVariants.{Off, Restarts, Starts}

-- a survey of faults of copies is asked for
abbrev pub has_copies : Options → Bool
has_copies options = options.lost || is_some options.late

-- a survey of faults of motes is asked for
abbrev pub has_motes : Options → Bool
has_motes options = options.silent || (is_some options.off || (is_some options.restarts || is_some options.starts))

abbrev pub is_survey : Options → Bool
is_survey options = options.links || (has_copies options || has_motes options)

-- a survey has neither a report nor faults of its own
abbrev pub is_mixed : Options → Bool
is_mixed options = is_survey options && (options.report || not (length (string_bytes options.faults) == 0))

-- options of a survey are given, but no survey is asked for
abbrev pub lacks_survey : Options → Bool
lacks_survey options = not (is_survey options) && (is_some options.at_most || is_some options.runs)

-- each number is larger than the one before it, and none is smaller than the least one
abbrev pub rise_from : (least : ℕ) → List ℕ → Bool
rise_from least [] = true
rise_from least (number ∷ numbers) = nat_le least number && rise_from (number + 1) numbers

-- an option has a list without numbers, or of numbers that don't rise from the least one on
abbrev pub lacks_list : (least : ℕ) → Option (Vec ℕ Global) → Bool
lacks_list least None = false
lacks_list least (Some numbers) = (length numbers.items == 0) || not (rise_from least numbers.items)

-- a copy isn't late by 0, and a mote that starts at 0 isn't late
abbrev pub lacks_lists : Options → Bool
lacks_lists options =
    lacks_list 1 options.late || (lacks_list 0 options.off || (lacks_list 1 options.restarts || lacks_list 1 options.starts))

abbrev pub is_in_conflict : Options → Bool
is_in_conflict options = is_mixed options || (lacks_survey options || lacks_lists options)

-- claims are needed, but not for a report
abbrev pub lacks_claims : Asked → Bool
lacks_claims asked = if asked.options.report then is_some asked.claims else is_none asked.claims

-- a survey has no file of faults
abbrev pub is_mixed_with_file : Asked → Bool
is_mixed_with_file asked = is_survey asked.options && is_some asked.faults

abbrev pub are_files_in_conflict : Asked → Bool
are_files_in_conflict asked = lacks_claims asked || is_mixed_with_file asked

abbrev pub are_in_conflict : Asked → Bool
are_in_conflict asked = is_in_conflict asked.options || are_files_in_conflict asked

abbrev pub numbers_of : Option (Vec ℕ Global) → List ℕ
numbers_of None = []
numbers_of (Some numbers) = numbers.items

-- a mote is off from this moment on, or boots again then, or is off until then
abbrev pub fault_at : When → (moment : ℕ) → MoteFault
fault_at Off moment = mote.Off moment None
fault_at Restarts moment = mote.Off moment (Some moment)
fault_at Starts moment = mote.Off 0 (Some moment)

-- what may happen to each mote
abbrev pub motes_of : Options → List MoteFault
motes_of options =
    (if options.silent then mote.Silent ∷ [] else [])
    ++ (map (fault_at Off) (numbers_of options.off)
    ++ (map (fault_at Restarts) (numbers_of options.restarts) ++ map (fault_at Starts) (numbers_of options.starts)))

-- what may happen to each copy
abbrev pub copies_of : Options → List CopyFault
copies_of options = (if options.lost then Lost ∷ [] else []) ++ map Late (numbers_of options.late)

-- the sets of faults that are asked for: of at most one fault, if nothing else is said, and without a limit of runs
abbrev pub plan_for : Options → Plan
plan_for options = record {
  links = options.links;
  motes = motes_of options;
  copies = copies_of options;
  at_most = unwrap_or options.at_most 1;
  runs = unwrap_or options.runs 18446744073709551615;
}

-- the way to run a net with these options
abbrev pub way_for : Options → Way
way_for options = way_by options.workers sync.Joins

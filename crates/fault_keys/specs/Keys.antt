-- The keys of the faults that a net may have: those of some fixed faults, and then those of faults of single copies.
use Rattle.std.specs.Prelude.{ℕ, ◌+◌, ◌-◌, ◌*◌, ◌/◌, ◌%◌, ◌^◌, ◌==◌, ◌&&◌, nat_lt, not, if◌then◌else◌, List, [], ◌∷◌, ◌++◌}
use Rattle.std.specs.Prelude.{length, map, slice_index_or}
use Rattle.std.specs.List.{filter, flat_map, list_any, range_with_len}
use Rattle.radio_packet.specs.declared.fate.Fate.{Fate}
use Rattle.radio_faults.specs.declared.fault.Fault.{Fault}
use Rattle.radio_faults.specs.declared.fault.Fault.TheVariants.{Silent, Lost as LostCopy, Late as LateCopy}
use Rattle.mote_net.specs.Report.{Packet, ReportModel}
use Rattle.serial_run.specs.FaultLaws.{is_some, may_change}
use Rattle.fault_keys.specs.declared.keys.CopyFault.{CopyFault}
use Rattle.fault_keys.specs.declared.keys.CopyFault.TheVariants.{Lost, Late}

-- the fault of this kind of a copy of packet n of mote s for mote r
abbrev pub fault_of_copy : CopyFault → (s n r : ℕ) → Fault
fault_of_copy Lost s n r = LostCopy s n r
fault_of_copy (Late by) s n r = LateCopy s n r by

-- the number of a copy's fault: its packet's number, the sender, the receiver and the kind, packed into one number
abbrev pub packed : (kinds s n r kind : ℕ) → ℕ
packed kinds s n r kind = ((n * 2 ^ 16 + s) * 2 ^ 16 + r) * kinds + kind

abbrev pub unpacked : List CopyFault → (k : ℕ) → Fault
unpacked kinds k =
    let copy = k / length kinds in
    fault_of_copy (slice_index_or kinds (k % length kinds) Lost) (copy / 2 ^ 16 % 2 ^ 16) (copy / 2 ^ 16 / 2 ^ 16) (copy % 2 ^ 16)

-- the fault of a key
abbrev pub fault_of : (fixed : List Fault) → List CopyFault → (key : ℕ) → Fault
fault_of fixed kinds key =
    if nat_lt key (length fixed) then slice_index_or fixed key (Silent 0) else unpacked kinds (key - length fixed)

-- all keys are below this number; packets of larger numbers have none
abbrev pub bound_of : (fixed : List Fault) → List CopyFault → ℕ
bound_of fixed kinds = length fixed + 2 ^ 59 * length kinds

-- the keys of the faults of a copy of packet n of mote s for mote r
abbrev pub keys_of_copy : (fixed : List Fault) → List CopyFault → (s n r : ℕ) → List ℕ
keys_of_copy fixed kinds s n r =
    if (nat_lt s (2 ^ 16) && nat_lt r (2 ^ 16)) && nat_lt n (2 ^ 27)
    then map (λ kind. length fixed + packed (length kinds) s n r kind) (range_with_len 0 (length kinds)) else []

-- the keys of the faults of this copy, unless it is lost
abbrev pub keys_of_fate : (fixed : List Fault) → List CopyFault → (s n : ℕ) → Fate → List ℕ
keys_of_fate fixed kinds s n fate = if is_some fate.at then keys_of_copy fixed kinds s n fate.to else []

abbrev pub keys_of_packet : (fixed : List Fault) → List CopyFault → Packet → List ℕ
keys_of_packet fixed kinds packet = flat_map (keys_of_fate fixed kinds packet.sent.sender packet.sent.number) packet.fates

-- the keys of the fixed faults that may change the run with this report
abbrev pub fixed_keys : (fixed : List Fault) → ReportModel → List ℕ
fixed_keys fixed r = filter (λ k. may_change (slice_index_or fixed k (Silent 0)) r) (range_with_len 0 (length fixed))

-- the keys of all faults that may change the run with this report
abbrev pub named_keys : (fixed : List Fault) → List CopyFault → ReportModel → List ℕ
named_keys fixed kinds r = fixed_keys fixed r ++ flat_map (keys_of_packet fixed kinds) r.log

-- a key that is in none of the two lists joins the second
abbrev pub with_new : (set known : List ℕ) → ℕ → List ℕ
with_new set known k =
    if not (list_any (λ x. x == k) set) && not (list_any (λ x. x == k) known) then known ++ k ∷ [] else known

-- the known keys and those that are new, each once
abbrev pub new_keys : (set known keys : List ℕ) → List ℕ
new_keys set known [] = known
new_keys set known (k ∷ keys) = new_keys set (with_new set known k) keys

-- the keys that the run with a set offers, if this is its report
abbrev pub offered_keys : (fixed : List Fault) → List CopyFault → (set : List ℕ) → ReportModel → List ℕ
offered_keys fixed kinds set r = new_keys set [] (named_keys fixed kinds r)

-- The fates with faults are those of the copies with faults.
use Rattle.std.proofs.Common.{◌≡◌, ℕ, List, [], ◌∷◌, map, Option, Some, None, option_map, refl, ap, ◌∙◌}
use Rattle.std.specs.List.{filter_map, cons_option}
use Rattle.std.specs.Option.{option_and_then}
use Rattle.radio_packet.specs.declared.copy.RadioCopy.{RadioCopy}
use Rattle.radio_packet.specs.declared.fate.Fate.{Fate}
use Rattle.radio_packet.specs.declared.sent.Sent.{Sent}
use Rattle.radio_medium.specs.Medium.{copy_of}
use Rattle.radio_faults.specs.declared.fault.Fault.{Fault}
use Rattle.radio_faults.specs.Faults.{arrival_after, copy_after, fate_after, fates_with}
use Rattle.radio_faults.specs.Laws.{FatesTellCopies}

module _ (fault : Fault) (sent : Sent) where
  abbrev copy_at : (to at : ℕ) → RadioCopy
  copy_at to at = record { at = at; to = to; sender = sent.sender; number = sent.number; value = sent.value }

  one_more : (to : ℕ) (at : Option ℕ) (rest copies : List RadioCopy) → rest ≡ filter_map (copy_after fault) copies
      → cons_option (option_map (copy_at to) (option_and_then (arrival_after fault sent.sender sent.number to) at)) rest
      ≡ filter_map (copy_after fault) (cons_option (option_map (copy_at to) at) copies)
  one_more to None rest copies same = same
  one_more to (Some at) rest copies same = ap (cons_option (option_map (copy_at to) (arrival_after fault sent.sender sent.number to at))) same

  after_one : (fates : List Fate) → filter_map (copy_of sent) (map (fate_after fault sent) fates) ≡ filter_map (copy_after fault) (filter_map (copy_of sent) fates)
  after_one [] = refl
  after_one (fate ∷ fates) = one_more fate.to fate.at _ (filter_map (copy_of sent) fates) (after_one fates)

pub fates_tell_copies : FatesTellCopies
fates_tell_copies [] sent fates = refl
fates_tell_copies (fault ∷ faults) sent fates = after_one fault sent (fates_with faults sent fates) ∙ ap (filter_map (copy_after fault)) (fates_tell_copies faults sent fates)

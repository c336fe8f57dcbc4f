-- Broken links and silent motes as losses of a medium, as the tables `[[loss]]` of a scenario tell them.
use Rattle.std.specs.Prelude.{ℕ, ◌==◌, ◌&&◌, Bool, false, not, List, [], ◌∷◌, map}
use Rattle.std.specs.List.{filter, flat_map, list_any}
use Rattle.radio_medium.specs.declared.losses.Loss.{Loss}
use Rattle.radio_medium.specs.Medium.{Radio, is_for_pair, motes, receivers}
use Rattle.radio_faults.specs.declared.fault.Fault.{Fault}
use Rattle.radio_faults.specs.declared.fault.Fault.TheVariants.{Link, Silent}

-- the fault breaks links
abbrev pub IsOfLinks : Fault → Type 0
IsOfLinks (Link from to) = Unit {0}
IsOfLinks (Silent mote) = Unit {0}
IsOfLinks fault = ⊥

-- the fault breaks the link from mote s to mote r
abbrev pub breaks : Fault → (s r : ℕ) → Bool
breaks (Link from to) s r = (from == s) && (to == r)
breaks (Silent mote) s r = mote == s
breaks fault s r = false

-- one of the faults breaks this link
abbrev pub is_broken : List Fault → (s r : ℕ) → Bool
is_broken faults s r = list_any (λ fault. breaks fault s r) faults

-- all links of the medium, each from a sender to a mote that hears it
abbrev pub links : Radio → List (ℕ × ℕ)
links radio = flat_map (λ s. map (λ r. (s, r)) (receivers radio s)) (motes radio)

-- the links that the faults break
abbrev pub broken_links : List Fault → Radio → List (ℕ × ℕ)
broken_links faults radio = filter (λ link. is_broken faults link.0 link.1) (links radio)

-- each of these links gets a loss of every packet, in place of the loss that it may have had
abbrev pub losing_all : List (ℕ × ℕ) → List Loss → List Loss
losing_all [] losses = losses
losing_all (link ∷ links) losses =
    record { sender = link.0; to = link.1; every = 1 } ∷ filter (λ loss. not (is_for_pair link.0 link.1 loss)) (losing_all links losses)

-- the medium with these losses: a broken link loses every packet, and all else is as it was
abbrev pub radio_with : List Fault → Radio → Radio
radio_with faults radio = record radio { losses = losing_all (broken_links faults radio) radio.losses }

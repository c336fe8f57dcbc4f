-- The test of an expected copy, and the property that it decides.
use Rattle.std.proofs.Common.{◌≡◌, true, not, ◌&&◌, nat_le, refl}
use Rattle.std.proofs.lemmas.Bool.{and_parts, le-leb, leb-true, not-true}
use Rattle.copy_exchange.specs.Crossed.{IsExpected, is_own}
use Rattle.copy_exchange.specs.Expected.{Position, is_expected}
use Rattle.radio_packet.specs.declared.copy.RadioCopy.{RadioCopy}

pub passes_expected : (p : Position) (copy : RadioCopy) → is_expected p copy ≡ true → IsExpected p.owners p.worker p.from copy
passes_expected p copy h =
    let to = and_parts (is_own p.owners p.worker copy.to) (not (is_own p.owners p.worker copy.sender) && nat_le p.from copy.at) h in
    let rest = and_parts (not (is_own p.owners p.worker copy.sender)) (nat_le p.from copy.at) to.1 in
    record { to = to.0; sender = not-true (is_own p.owners p.worker copy.sender) rest.0; later = leb-true p.from copy.at rest.1 }

pub expected_passes : (p : Position) (copy : RadioCopy) → IsExpected p.owners p.worker p.from copy → is_expected p copy ≡ true
expected_passes p copy h = let late = le-leb p.from copy.at h.later in rw (h.to, h.sender, late) refl

use Rattle.std.proofs.Common.{refl}
use Rattle.radio_faults.proofs.net_laws.off_by_hand.Goals as goal

pub returns : goal.returns
returns c c' = record {
  forever = λ reboot first state turn. record { before = refl; at = refl; later = refl; other = refl };
  off = λ reboot first state turn. record { before = refl; first_off = refl; last_off = refl; at = refl; later = refl; other = refl };
  late = λ reboot first state turn. record { first_off = refl; at = refl };
  restarts = λ reboot first state turn. record { before = refl; without_wake = refl; at = refl; later = refl };
  off_wins = λ reboot first state turn. record { still_off = refl; at = refl; dead = refl };
  twice = λ reboot first state turn. record { before = refl; once = refl; twice = refl };
}

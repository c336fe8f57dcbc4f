use Rattle.std.proofs.Common.{refl}
use Rattle.radio_faults.proofs.net_laws.cases_by_hand.Goals as goal

pub returns : goal.returns
returns c = record {
  link_is_broken = record { first = refl; later = refl; back = refl };
  mote_is_silent = record { sends = refl; hears = refl };
  packet_is_lost_on_one_way = record { packet = refl; next = refl; back = refl };
  packet_is_lost = record { packet = refl; next = refl; of_other = refl };
  packet_is_late = record { packet = refl; next = refl; twice = refl; lost = refl };
  link_is_broken_and_mote_is_silent = record { of_1 = refl; of_2 = refl; of_3 = refl };
}

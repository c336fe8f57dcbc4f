-- Packets and copies in the log of the medium.
use Rattle.std.specs.Prelude.{ℕ, Bool, true, false, ◌&&◌, nat_le, Option, Some, None, count_by}
use Rattle.std.specs.List.{sum_by}
use Rattle.mote_net.specs.Report.{ReportModel, Packet}
use Rattle.radio_packet.specs.declared.sent.Sent.{Sent}
use Rattle.radio_packet.specs.declared.fate.Fate.{Fate}
use Rattle.claims.specs.declared.medium.Packets.{Packets}
use Rattle.claims.specs.declared.medium.Copies.{Copies}
use Rattle.claims.specs.declared.medium.CopyFate.{CopyFate}
use Rattle.claims.specs.declared.medium.CopyFate.TheVariants.{Lost, Due}
use Rattle.claims.specs.Sets.{is_in, wants}

abbrev pub is_such_packet : Packets → Sent → Bool
is_such_packet p s = is_in p.when s.at && wants p.sender (Some s.sender)

-- the packets that these motes send in these moments
abbrev pub packets_of : Packets → ReportModel → ℕ
packets_of p r = count_by (λ l. is_such_packet p l.sent) r.log

-- lost by the medium, when it was sent in these moments; or lost, or arriving by the end
abbrev pub has_fate : CopyFate → Sent → Option ℕ → Bool
has_fate (Lost when) s None = is_in when s.at
has_fate (Lost when) s (Some at) = false
has_fate (Due end) s None = true
has_fate (Due end) s (Some at) = nat_le at end

abbrev pub is_such_copy : Copies → Sent → Fate → Bool
is_such_copy c s f = wants c.to (Some f.to) && has_fate c.fate s f.at

abbrev pub copies_in : Copies → Packet → ℕ
copies_in c p = count_by (λ f. is_such_copy c p.sent f) p.fates

-- the copies of all packets that are such copies
abbrev pub copies_of : Copies → ReportModel → ℕ
copies_of c r = sum_by (copies_in c) r.log

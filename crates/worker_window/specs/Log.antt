-- The packets that a worker's motes sent, each with the fates of its copies.
use Rattle.std.specs.Prelude.{◌≡◌, List, map}
use Rattle.std.specs.List.{AllByRecursion as Each}
use Rattle.radio_packet.specs.declared.sent.Sent.{Sent}
use Rattle.radio_medium.specs.Medium as medium
use Rattle.mote_net.specs.declared.report.LogLine.{LogLine}

abbrev pub packets_in : List LogLine → List Sent
packets_in lines = map (λ line. line.sent) lines

-- each line has the fates that the medium gives its packet
abbrev pub HaveFates : medium.Radio → List LogLine → Type 0
HaveFates radio lines = Each (λ line. line.fates.items ≡ medium.fates radio line.sent) lines

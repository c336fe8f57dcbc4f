-- Nets may be shared by threads.
use denote.Hole.{as_row}
use denote.Param.Send.{IsSync, sendable}
use denote.Param.SendFields.{declared_sync}
use denote.Struct.Field.{u32-field, bool-field}
use Rattle.mote_net.proofs.net.MoteSetup.TheSendSync as setup
use Rattle.mote_net.proofs.program_name.ProgramName.TheSendSync as name
use Rattle.mote_net.specs.contracts.net.MoteSetup as MoteSetup
use Rattle.mote_net.specs.contracts.net.Net as Net
use Rattle.mote_net.specs.contracts.programs.NamedProgram as NamedProgram
use Rattle.radio_medium.proofs.medium.Medium.TheSendSync as medium
use Rattle.std.proofs.Crossing.{Vec-sync}
use Rattle.mote_net.proofs.ProgramCrossing as programs
use Rattle.mote_net.proofs.ProgramCrossing.{program_sync}

u32 : IsSync (as_row u32-field)
u32 = search sendable

bool : IsSync (as_row bool-field)
bool = search sendable

pub named_sync : IsSync NamedProgram.the_row
named_sync = declared_sync NamedProgram.the_type (name.the_sync, (program_sync, tt))

pub net_sync : IsSync Net.the_row
net_sync = declared_sync Net.the_type (u32, (bool, (medium.the_sync, (Vec-sync NamedProgram.the_row named_sync, (Vec-sync MoteSetup.the_row setup.the_sync, tt)))))

pub ruleset shared = (programs.shared, named_sync, net_sync)

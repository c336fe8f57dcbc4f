use Rattle.std.proofs.Common.{map}
use Rattle.toml.specs.View.{members_view}
use Rattle.mote_net.specs.Meaning.{named_tree}
use Rattle.net_scenario.specs.Programs.{program_texts}
use Rattle.net_scenario.proofs.ReadSoFar.{ReadSoFar}
use Rattle.net_scenario.proofs.programs.read_programs.Given as goal

-- the programs so far were read, and the rest of the table is still to be read
abbrev pub invariant-loop-name : goal.invariant-loop-name
invariant-loop-name l = ReadSoFar (program_texts (members_view l.table.entries)) (map named_tree l.programs.items)
    (program_texts (members_view l.name-iterator))

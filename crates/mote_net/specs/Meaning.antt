-- The meaning of the types that represent a net in the sources.
use Rattle.std.specs.Prelude.{ℕ, List, map, slice_get, option_map, unwrap_or}
use Rattle.mote_net.specs.declared.net.MoteSetup.{MoteSetup as SetupOfCode}
use Rattle.mote_net.specs.declared.net.Net.{Net}
use Rattle.mote_net.specs.declared.programs.NamedProgram.{NamedProgram}
use Rattle.mote_net.specs.Programs.{NamedTree}
use Rattle.mote_net.specs.Net.{MoteSetup, NetModel, no_program}
use Rattle.program_tree.specs.Program.{tree_of}

abbrev pub named_tree : NamedProgram → NamedTree
named_tree p = record { name = p.name; tree = tree_of p.program }

-- the program at an index
abbrev pub program_at : List NamedProgram → ℕ → NamedTree
program_at programs i = unwrap_or (option_map named_tree (slice_get programs i)) no_program

abbrev pub setup_of : List NamedProgram → SetupOfCode → MoteSetup
setup_of programs m = record {
  program = (program_at programs m.program).name;
  tree = (program_at programs m.program).tree;
  queue = m.queue;
}

-- the meaning of a `Net`
abbrev pub net_of : Net → NetModel
net_of n = record {
  end = n.end;
  collide = n.collide;
  radio = n.medium;
  motes = map (setup_of n.programs.items) n.motes.items;
}

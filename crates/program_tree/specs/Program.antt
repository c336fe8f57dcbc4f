-- The meaning of a program in `src/program.rt`.
use Rattle.std.specs.Prelude.{map}
use Rattle.program_tree.specs.Code.{Tree}
use Rattle.program_tree.specs.declared.program.Program.{Program}
pub use Rattle.program_tree.specs.ProcessText.{code_of}

abbrev pub tree_of : Program → Tree
tree_of p = record {
  events = p.events;
  semaphores = p.semaphores;
  counts = p.counts.items;
  processes = p.processes;
  autostart = p.autostart.items;
  receiver = p.receiver;
  codes = map code_of p.codes.items;
  timers = p.timers.items;
}

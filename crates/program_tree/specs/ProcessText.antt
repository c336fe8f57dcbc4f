-- The meaning of a process's text in `src/process_text.rt`.
use Rattle.std.specs.Prelude.{map, option_map}
use Rattle.program_tree.specs.Code.{Code}
use Rattle.program_tree.specs.FlatBlock.{tree_in}
use Rattle.program_tree.specs.declared.process_text.ProcessText.{ProcessText}

abbrev pub code_of : ProcessText → Code
code_of t = record {
  number = t.number;
  variables = t.variables;
  starts = t.starts.items;
  first_timer = t.first_timer;
  etimers = t.etimers;
  ctimers = t.ctimers;
  callbacks = map tree_in t.callbacks.items;
  threads = t.threads;
  thread_bodies = map tree_in t.thread_blocks.items;
  on_poll = option_map tree_in t.on_poll;
  on_exit = option_map tree_in t.on_exit;
  body = tree_in t.body;
}

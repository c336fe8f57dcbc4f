-- The net of a document: its motes and its medium.
use Rattle.std.specs.Prelude.{ℕ, List, map, codes, Option, Some, None, unwrap_or, find, is_none, if◌then◌else◌}
use Rattle.std.specs.Option.{option_map_or}
use Rattle.std.specs.Str.{bytes_eq}
use Rattle.toml.specs.Data.{Members}
use Rattle.radio_medium.specs.Medium.{Radio}
use Rattle.radio_medium.specs.declared.place.Place.{Place}
use Rattle.radio_medium.specs.declared.losses.Loss.{Loss}
use Rattle.net_scenario.specs.declared.error.TableFault.{TableFault}
use Rattle.net_scenario.specs.declared.error.TableFault.TheVariants.{UnknownProgram}
use Rattle.mote_net.specs.Net.{MoteSetup, NetModel, no_program}
use Rattle.net_scenario.specs.Limits.{usual_queue}
use Rattle.net_scenario.specs.Document.{natural, number_at, natural_at, integer_at, boolean_at, text_at, table_at}
use Rattle.net_scenario.specs.Document.{tables_at}
use Rattle.mote_net.specs.Programs.{NamedTree}

-- the program with this name
abbrev pub program_named : List NamedTree → List ℕ → NamedTree
program_named trees name = unwrap_or (find (λ t. bytes_eq t.name name) trees) no_program

-- the length of the queue in the motes of a program
abbrev pub queue_of : (queue : Members) → (program : List ℕ) → ℕ
queue_of queue program = option_map_or natural (integer_at program queue) usual_queue

abbrev pub mote_of_table : (queue : Members) → List NamedTree → Members → MoteSetup
mote_of_table queue trees ms = record {
  program = text_at (codes "program") ms;
  tree = (program_named trees (text_at (codes "program") ms)).tree;
  queue = queue_of queue (text_at (codes "program") ms);
}

abbrev pub place_in : Members → Place
place_in ms = record { x = number_at (codes "x") ms; y = number_at (codes "y") ms }

abbrev pub loss_of : Members → Loss
loss_of ms = record {
  sender = natural_at (codes "from") ms;
  to = natural_at (codes "to") ms;
  every = natural_at (codes "every") ms;
}

-- the medium of a document: its numbers, the places of its motes, and its losses
abbrev pub radio_in : Members → Radio
radio_in top = record {
  places = map place_in (tables_at (codes "mote") top);
  range = natural_at (codes "range") (table_at (codes "medium") top);
  base = natural_at (codes "base") (table_at (codes "medium") top);
  per = natural_at (codes "per") (table_at (codes "medium") top);
  losses = map loss_of (tables_at (codes "loss") top);
}

-- the net of a document, if these are the trees of its programs
abbrev pub net_in : Members → List NamedTree → NetModel
net_in top trees = record {
  end = natural_at (codes "end") top;
  collide = boolean_at (codes "collide") (table_at (codes "medium") top);
  radio = radio_in top;
  motes = map (mote_of_table (table_at (codes "queue") top) trees) (tables_at (codes "mote") top);
}

-- the fault of a mote whose program isn't among the programs that were read
abbrev pub unread_fault : List NamedTree → Members → Option TableFault
unread_fault trees mote =
    if is_none (find (λ t. bytes_eq t.name (text_at (codes "program") mote)) trees) then Some UnknownProgram else None

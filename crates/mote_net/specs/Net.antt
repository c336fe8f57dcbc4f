-- A net: its motes and its medium.
use Rattle.std.specs.Prelude.{ℕ, Bool, List, [], None}
use Rattle.program_tree.specs.Code.{Tree}
use Rattle.radio_medium.specs.Medium.{Radio}
use Rattle.mote_net.specs.Programs.{NamedTree}

-- the set-up of a mote: its program's name and tree, and the length of its queue
pub record MoteSetup : Type 0 where
  pub program : List ℕ
  pub tree : Tree
  pub queue : ℕ

-- a net: its last moment, whether packets collide, its medium with the places of the motes, and its motes in order
pub record NetModel : Type 0 where
  pub end : ℕ
  pub collide : Bool
  pub radio : Radio
  pub motes : List MoteSetup

-- the value for a program that doesn't exist; no net has such a program
abbrev pub no_program : NamedTree
no_program = record {
  name = [];
  tree = record {
    events = [];
    semaphores = [];
    counts = [];
    processes = [];
    autostart = [];
    receiver = None;
    codes = [];
    timers = [];
  };
}

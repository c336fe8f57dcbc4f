-- A machine that delivers events in the order in which they were accepted. It is the part of a mote's kernel on which
-- the order of delivery depends.
use Rattle.std.specs.Prelude.{ℕ, Bool, false, ◌≡◌, ◌<◌, ◌+◌, ◌⊎◌, List, [], ◌∷◌, ◌++◌, map, if◌then◌else◌}
use Rattle.std.specs.List.{All}
use Rattle.kernel_laws.specs.HandedOn.{Target, ToOne, ToAll, Line, Start, Leave, Post, Take, Drop, Halt, Other}
use Rattle.kernel_laws.specs.HandedOn.{Incarnation, has_incarnation, is_on, without}

-- an event in the queue
pub record Waiting : Type 0 where
  pub serial : ℕ
  pub target : Target

pub record DeliveryMachine : Type 0 where
  -- the process list, newest process first, and a number above those of all incarnations on the list
  pub list : List Incarnation
  pub numbered : ℕ
  -- the waiting events, the oldest first, and the number of events that were ever accepted
  pub queue : List Waiting
  pub accepted : ℕ
  -- the serial of the event whose walk over the processes began last, and the incarnations that are still to come in
  -- this walk
  pub walked : ℕ
  pub coming : List Incarnation

-- the machine before the first process starts
abbrev pub initial : DeliveryMachine
initial = record { list = []; numbered = 0; queue = []; accepted = 0; walked = 0; coming = [] }

-- an event is taken by a process that is listed, or is dropped
abbrev pub take_or_drop : Bool → ℕ → ℕ → Line
take_or_drop there s p = if there then Take s p else Drop s p

-- One step: the machine before it, the lines that the step writes, and the machine after it. At any moment, also
-- between the steps of a walk, processes that are not listed start, and processes leave and post. But the next event
-- is taken only when no walk is in progress, and a walk begins only if a process is listed.
pub data DeliveryStep : DeliveryMachine → List Line → DeliveryMachine → Type 0 where
  starts : (m : DeliveryMachine) (p : ℕ) → has_incarnation m.list p ≡ false →
      DeliveryStep m (Start p ∷ []) (record m
      { list = record { process = p; number = m.numbered } ∷ m.list; numbered = m.numbered + 1 })
  leaves : (m : DeliveryMachine) (p : ℕ) → DeliveryStep m (Leave p ∷ []) (record m { list = without m.list p })
  posts : (m : DeliveryMachine) (g : Target) →
      DeliveryStep m (Post m.accepted g ∷ [])
      (record m { queue = m.queue ++ record { serial = m.accepted; target = g } ∷ []; accepted = m.accepted + 1 })
  gives_one : (m : DeliveryMachine) (s p : ℕ) (waiting : List Waiting) → m.coming ≡ []
      → m.queue ≡ record { serial = s; target = ToOne p } ∷ waiting →
      DeliveryStep m (take_or_drop (has_incarnation m.list p) s p ∷ []) (record m { queue = waiting })
  begins_walk : (m : DeliveryMachine) (s : ℕ) (waiting : List Waiting) → m.coming ≡ []
      → m.queue ≡ record { serial = s; target = ToAll } ∷ waiting → (m.list ≡ [] → ⊥) →
      DeliveryStep m [] (record m { queue = waiting; walked = s; coming = m.list })
  walks_on : (m : DeliveryMachine) (i : Incarnation) (rest : List Incarnation) → m.coming ≡ i ∷ rest →
      DeliveryStep m (take_or_drop (is_on m.list i) m.walked i.process ∷ []) (record m { coming = rest })
  writes : (m : DeliveryMachine) → DeliveryStep m (Other ∷ []) m
  -- the incarnations are numbered again; no line shows this
  renumbers : (m : DeliveryMachine) (list : List Incarnation) (n : ℕ) → m.coming ≡ []
      → map (λ i. i.process) list ≡ map (λ i. i.process) m.list → All (λ i. i.number < n) list →
      DeliveryStep m [] (record m { list = list; numbered = n })

-- some steps one after another
pub data DeliveryRuns (m : DeliveryMachine) : List Line → DeliveryMachine → Type 0 where
  stays : DeliveryRuns m [] m
  goes_on : (ls : List Line) (m' : DeliveryMachine) (more : List Line) (m'' : DeliveryMachine) → DeliveryRuns m ls m'
      → DeliveryStep m' more m'' → DeliveryRuns m (ls ++ more) m''

-- The machine may halt at any moment. It writes a line about the halt, and nothing more.
pub record Halts (m : DeliveryMachine) (lines : List Line) : Type 0 where
  pub before : List Line
  pub last : DeliveryMachine
  pub runs : DeliveryRuns m before last
  pub ends : lines ≡ before ++ Halt ∷ []

-- the lines of a machine from its beginning to a moment when no walk is in progress, or to its halt
abbrev pub IsTrace : List Line → Type 0
IsTrace lines = ((m : DeliveryMachine) × DeliveryRuns initial lines m × (m.coming ≡ [])) ⊎ Halts initial lines

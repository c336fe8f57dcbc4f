-- Small traces that have the property `HandedOn`, and small traces that don't. Each trace of the second kind is named
-- after its fault.
use Rattle.std.specs.Prelude.{List, [], ◌∷◌}
use Rattle.kernel_laws.specs.StartsAndHalts.{StartsTheUnlisted, HaltIsLast}
use Rattle.kernel_laws.specs.HandedOn.{ToOne, ToAll, Line, Start, Leave, Post, Take, Drop, Halt, Other, HandedOn}

abbrev pub posts_skip_a_serial : List Line
posts_skip_a_serial = Post 1 (ToOne 5) ∷ []

abbrev pub posts_share_a_serial : List Line
posts_share_a_serial = Post 0 (ToOne 5) ∷ Post 0 (ToOne 5) ∷ []

abbrev pub goes_back : List Line
goes_back = Start 5 ∷ Post 0 (ToOne 5) ∷ Post 1 (ToOne 5) ∷ Take 1 5 ∷ Take 0 5 ∷ []

abbrev pub not_yet_posted : List Line
not_yet_posted = Start 5 ∷ Take 0 5 ∷ Post 0 (ToOne 5) ∷ []

abbrev pub leaves_one_out : List Line
leaves_one_out = Start 5 ∷ Post 0 (ToOne 5) ∷ Post 1 (ToOne 5) ∷ Take 1 5 ∷ []

-- an event posted to all processes when none is listed: no line shows the event, and later serials have lines
abbrev pub reaches_nobody : List Line
reaches_nobody = Post 0 ToAll ∷ Start 5 ∷ Post 1 (ToOne 5) ∷ Take 1 5 ∷ []

abbrev pub taken_after_leaving : List Line
taken_after_leaving = Start 5 ∷ Post 0 (ToOne 5) ∷ Leave 5 ∷ Take 0 5 ∷ []

abbrev pub dropped_though_listed : List Line
dropped_though_listed = Start 5 ∷ Post 0 (ToOne 5) ∷ Drop 0 5 ∷ []

abbrev pub taken_twice : List Line
taken_twice = Start 5 ∷ Post 0 (ToOne 5) ∷ Take 0 5 ∷ Take 0 5 ∷ []

abbrev pub taken_by_another : List Line
taken_by_another = Start 5 ∷ Start 6 ∷ Post 0 (ToOne 5) ∷ Take 0 6 ∷ []

abbrev pub reaches_a_late_starter : List Line
reaches_a_late_starter = Start 5 ∷ Post 0 ToAll ∷ Take 0 5 ∷ Start 6 ∷ Take 0 6 ∷ []

abbrev pub oldest_first : List Line
oldest_first = Start 5 ∷ Start 6 ∷ Post 0 ToAll ∷ Take 0 5 ∷ Take 0 6 ∷ []

abbrev pub taken_by_another_incarnation : List Line
taken_by_another_incarnation = Start 5 ∷ Start 6 ∷ Post 0 ToAll ∷ Take 0 6 ∷ Leave 5 ∷ Start 5 ∷ Take 0 5 ∷ []

abbrev pub lacks_a_line : List Line
lacks_a_line = Start 5 ∷ Start 6 ∷ Post 0 ToAll ∷ Take 0 6 ∷ []

abbrev pub lacks_the_first_line : List Line
lacks_the_first_line = Start 5 ∷ Start 6 ∷ Post 0 ToAll ∷ Take 0 5 ∷ Halt ∷ []

abbrev pub lacks_an_earlier_line : List Line
lacks_an_earlier_line = Start 5 ∷ Start 6 ∷ Post 0 ToAll ∷ Post 1 (ToOne 6) ∷ Take 0 6 ∷ Take 1 6 ∷ Halt ∷ []

-- a broadcast during which one process leaves and another process starts; the broadcast doesn't reach the new process
abbrev pub broadcast_walk : List Line
broadcast_walk = Start 5 ∷ Start 6 ∷ Post 0 ToAll ∷ Take 0 6 ∷ Leave 5 ∷ Start 7 ∷ Drop 0 5 ∷ []

-- the process that left during the walk has started again; the new incarnation doesn't get the event
abbrev pub restarted_within : List Line
restarted_within = Start 5 ∷ Start 6 ∷ Post 0 ToAll ∷ Take 0 6 ∷ Leave 5 ∷ Start 5 ∷ Drop 0 5 ∷ Other ∷ []

-- a mote that halts during the walk
abbrev pub halted_within : List Line
halted_within = Start 5 ∷ Start 6 ∷ Post 0 ToAll ∷ Take 0 6 ∷ Halt ∷ []

-- a mote that halts before the first line of the walk, so the event is not delivered
abbrev pub halted_before_the_first : List Line
halted_before_the_first = Start 5 ∷ Start 6 ∷ Post 0 ToAll ∷ Halt ∷ []

-- an event for one process goes to the incarnation that is listed when the event is taken
abbrev pub taken_by_the_next : List Line
taken_by_the_next = Start 5 ∷ Post 0 (ToOne 5) ∷ Leave 5 ∷ Post 1 (ToOne 5) ∷ Drop 0 5 ∷ Start 5 ∷ Take 1 5
    ∷ Post 2 ToAll ∷ []

-- Traces that have the property although a kernel would write other lines: the property doesn't detect their faults.

-- an event that waits for ever
abbrev pub never_taken : List Line
never_taken = Start 5 ∷ Post 0 (ToOne 5) ∷ Other ∷ []

-- the list was fixed at the `post` line, although process 6 was also on the list when the event was taken
abbrev pub list_of_the_post : List Line
list_of_the_post = Start 5 ∷ Post 0 ToAll ∷ Start 6 ∷ Other ∷ Take 0 5 ∷ []

-- a process that is on the list starts again, and a process that is not on the list leaves
abbrev pub starts_twice : List Line
starts_twice = Start 5 ∷ Start 5 ∷ Leave 6 ∷ []

-- lines after a halt
abbrev pub goes_on_after_a_halt : List Line
goes_on_after_a_halt = Halt ∷ Start 5 ∷ []

pub record TracesWithUnseenFaults : Type 0 where
  pub never_taken : HandedOn never_taken
  pub list_of_the_post : HandedOn list_of_the_post
  pub starts_twice : HandedOn starts_twice
  pub goes_on_after_a_halt : HandedOn goes_on_after_a_halt

pub record TracesThatDeliver : Type 0 where
  pub broadcast_walk : HandedOn broadcast_walk
  pub restarted_within : HandedOn restarted_within
  pub halted_within : HandedOn halted_within
  pub halted_before_the_first : HandedOn halted_before_the_first
  pub taken_by_the_next : HandedOn taken_by_the_next

pub record TracesThatDoNotDeliver : Type 0 where
  pub posts_skip_a_serial : HandedOn posts_skip_a_serial → ⊥
  pub posts_share_a_serial : HandedOn posts_share_a_serial → ⊥
  pub goes_back : HandedOn goes_back → ⊥
  pub not_yet_posted : HandedOn not_yet_posted → ⊥
  pub leaves_one_out : HandedOn leaves_one_out → ⊥
  pub reaches_nobody : HandedOn reaches_nobody → ⊥
  pub taken_after_leaving : HandedOn taken_after_leaving → ⊥
  pub dropped_though_listed : HandedOn dropped_though_listed → ⊥
  pub taken_twice : HandedOn taken_twice → ⊥
  pub taken_by_another : HandedOn taken_by_another → ⊥
  pub reaches_a_late_starter : HandedOn reaches_a_late_starter → ⊥
  pub oldest_first : HandedOn oldest_first → ⊥
  pub taken_by_another_incarnation : HandedOn taken_by_another_incarnation → ⊥
  pub lacks_a_line : HandedOn lacks_a_line → ⊥
  pub lacks_the_first_line : HandedOn lacks_the_first_line → ⊥
  pub lacks_an_earlier_line : HandedOn lacks_an_earlier_line → ⊥

-- the other two properties detect the faults of two of these traces
pub record TracesThatBreakTheOthers : Type 0 where
  pub starts_twice : StartsTheUnlisted starts_twice → ⊥
  pub goes_on_after_a_halt : HaltIsLast goes_on_after_a_halt → ⊥

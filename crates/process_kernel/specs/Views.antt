-- The meaning of the types of `src/machine.rt` and `src/look.rt`, for a mote with a given program.
use Rattle.std.specs.Prelude.{ℕ, ◌≡◌, ◌≤◌, ◌++◌, Bool, List, [], ◌∷◌, Result, Ok, Err, Option, Some, None}
use Rattle.std.specs.Prelude.{if◌then◌else◌, ◌<◌, OnOk}
use Rattle.std.specs.Global.{Box}
use Rattle.program_tree.specs.Code.{Code, Tree}
use Rattle.protothread.specs.declared.answer.PtState.{PtState}
use Rattle.protothread.specs.declared.thread.Thread.{Thread}
use Rattle.protothread.specs.Remainder.{Remainder, fresh_of}
use Rattle.protothread.specs.Places.{remainder_of}
use Rattle.protothread.specs.Looks.{Looks}
use Rattle.trace_lines.specs.declared.line.Line.{Line}
use Rattle.radio_packet.specs.declared.sent.Sent.{Sent}
use Rattle.trace_lines.specs.declared.out.Out.{Out}
use Rattle.protothread.specs.declared.part.Part.TheVariants.{Body}
use Rattle.process_kernel.specs.declared.process.Member.{Member}
use Rattle.process_kernel.specs.declared.machine.Machine.{Machine}
use Rattle.process_kernel.specs.declared.machine.Stop.{Stop}
use Rattle.process_kernel.specs.declared.machine.Stop.TheVariants.{Halted, Memory}
use Rattle.process_kernel.specs.declared.look.KernelView.{KernelView}
use Rattle.program_tree.specs.declared.event.Event.{Event}
use Rattle.protothread.specs.declared.part.Part.{Part}
use Rattle.process_kernel.specs.Thread.{looks_at}
use Rattle.process_kernel.specs.State.{KernelState, Outcome, Went, Ends, Goes, ◌>>=◌, Calls, Answer}
use Rattle.process_kernel.specs.KernelModel.{KernelModel, at_rest}
use Rattle.program_tree.specs.declared.program.Program.{Program}
use Rattle.program_tree.specs.Program.{tree_of}
use Rattle.process_kernel.specs.Operations.{calls_of}

-- the remainder of the body of a process with this code; the whole body, while the body is taken out of the table
abbrev pub remainder_of_body : Code → Option (Box Thread) → Remainder
remainder_of_body c None = fresh_of c Body
remainder_of_body c (Some t) = remainder_of c t.value

-- the remainder of each body, found by the code of its process
abbrev pub remainders_of : List Code → List (Option (Box Thread)) → List Remainder
remainders_of [] ts = []
remainders_of (c ∷ cs) [] = []
remainders_of (c ∷ cs) (t ∷ ts) = remainder_of_body c t ∷ remainders_of cs ts

-- the process list at the beginning of the boot or run
abbrev pub first_list_of : Machine → List Member
first_list_of m = if m.is_numbered then m.members.items else m.first_list.items

-- the state of a kernel with this program
abbrev pub kernel_state_of : Tree → Machine → KernelState
kernel_state_of program m = record {
  program = program;
  mote = m.view.mote;
  states = m.view.states.items;
  exiting = m.exiting.items;
  needs_poll = m.needs_poll.items;
  remainders = remainders_of program.codes m.threads.items;
  variables = m.variables.items;
  members = m.members.items;
  started = m.started;
  poll_requested = m.poll_requested;
  queue = m.queue;
  semaphores = m.view.semaphores.items;
  timers = m.view.timers;
  callbacks = m.callbacks.members;
  ring = m.ring.items;
  sent = m.sent;
  moment = m.view.moment;
  units = m.fuel;
  lines = m.out.lines.items;
  sends = m.out.sends.items;
}

abbrev pub looks_of_view : KernelView → Looks
looks_of_view x = looks_at x.moment x.mote x.timers.timers x.states.items x.semaphores.items

-- the result of a step and the state after it are this outcome; if memory ran out, nothing is claimed
abbrev pub StepMatches : {A : Type 0} → Result A Stop → KernelState → Outcome A → Type 0
StepMatches (Ok a) s o = o ≡ Goes a s
StepMatches (Err Halted) s o = o ≡ Ends s
StepMatches (Err Memory) s o = Unit {0}

-- the result of a run of a thread, with the thread's remainder
abbrev pub answer_model : Code → Thread → Result PtState Stop → Result Answer Stop
answer_model code thread (Ok answer) = Ok (answer, remainder_of code thread)
answer_model code thread (Err e) = Err e

abbrev pub remainder_model : Code → Thread → Result (Unit {0}) Stop → Result Remainder Stop
remainder_model code thread (Ok done) = Ok (remainder_of code thread)
remainder_model code thread (Err e) = Err e

-- the output begins with these lines and packets
unfoldable pub OutBegins : List Line → List Sent → Out → Type 0
OutBegins lines sends out =
    ((more : List Line) × (out.lines.items ≡ lines ++ more)) × ((more : List Sent) × (out.sends.items ≡ sends ++ more))

-- everything that was written before a step is still there, even if the step failed
abbrev pub Grows : Out → Out → Type 0
Grows old new = (lines : List Line) (sends : List Sent) → OutBegins lines sends old → OutBegins lines sends new

-- a run goes on: no unit of work is gained, and the process list at the beginning stays known
abbrev pub Continues : Machine → Machine → Type 0
Continues old new = (new.fuel ≤ old.fuel) × (first_list_of new ≡ first_list_of old)

-- neither the ring nor the timers change
abbrev pub KeepsLists : Machine → Machine → Type 0
KeepsLists old new = (new.ring ≡ old.ring) × (new.view.timers ≡ old.view.timers)

-- lines and packets may be added, and neither the ring nor the timers change
abbrev pub OnlyAdds : Machine → Machine → Type 0
OnlyAdds old new = KeepsLists old new × Grows old.out new.out

abbrev pub kernel_model_of : Tree → Machine → (booted halted : Bool) → KernelModel
kernel_model_of program m booted halted = record {
  state = at_rest
      (kernel_state_of program m);
  booted = booted;
  halted = halted;
}

-- a handler or a callback runs from its beginning
abbrev pub part_of : Calls → KernelState → Code → Part → (process : ℕ) → Event → Went
part_of calls s code part p e = calls.run s code (fresh_of code part) p e >>= λ _ s1. Goes tt s1

-- A step follows a rule. The step's result and the state after it are the outcome of the rule, for every bound on the
-- depth of calls that is greater than the number of units of work. If memory runs out, nothing is claimed about result
-- and state. The lines written before the step remain.
pub record Follows {A : Type 0} (program : Program) (old : Machine) (result : Result A Stop) (new : Machine)
    (rule : Calls → KernelState → Outcome A) : Type 0 where
  pub exact : (k : ℕ) → old.fuel < k
      → StepMatches result (kernel_state_of (tree_of program) new)
      (rule (calls_of k) (kernel_state_of (tree_of program) old))
  pub continues : OnOk result (Continues old new)
  pub grows : Grows old.out new.out

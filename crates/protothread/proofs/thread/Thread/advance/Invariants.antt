use Rattle.std.proofs.Common.{◌≡◌, ◌+◌, ◌*◌, ◌≤◌, length}
use Rattle.program_tree.specs.Program.{code_of}
use Rattle.protothread.specs.Places.{thread_place, remainder_of}
use Rattle.protothread.specs.Step.{advanced_of, continued}
use Rattle.protothread.specs.Reach.{IsFoundIn}
use Rattle.protothread.proofs.thread.Thread.advance.Given as goal

abbrev pub invariant-loop-self : goal.invariant-loop-self
invariant-loop-self g l =
    record {
      part : l.self.part ≡ l.fn.self.part;
      inside : IsFoundIn (code_of l.fn.text) l.self l.flat;
      units : l.fuel ≤ l.fn.fuel;
      kept : length l.vars ≡ length l.fn.vars;
      goes_on :
          advanced_of (code_of l.fn.text) l.fn.event (g.L.Look.looks l.fn.look) (remainder_of (code_of l.fn.text) l.fn.self) l.fn.vars l.fn.fuel
          ≡ continued (code_of l.fn.text) l.fn.self.part l.fn.event (g.L.Look.looks l.fn.look) (thread_place (code_of l.fn.text) l.self) l.vars l.fuel;
    }

abbrev pub decreases-loop-self : goal.decreases-loop-self
decreases-loop-self g l = 2 * l.fuel + length l.self.calls

-- The depth of nested calls.
use Rattle.std.proofs.Common.{ℕ, zero, suc, ◌≡◌, ◌-◌, ◌<◌, ◌≤◌, Result, arith, refl, Err, ap, sym}
use Rattle.program_tree.specs.declared.event.Proc.{Proc}
use Rattle.program_tree.specs.declared.event.Event.{Event}
use Rattle.program_tree.specs.Code.{Code}
use Rattle.protothread.specs.Remainder.{Remainder}
use Rattle.process_kernel.specs.declared.machine.Stop.{Stop}
use Rattle.process_kernel.specs.declared.machine.Stop.TheVariants.{Halted, Memory}
use Rattle.process_kernel.specs.State.{KernelState, Ends, halted_of, Answer}
use Rattle.process_kernel.specs.Operations.{run_of, calls_of}
use Rattle.process_kernel.specs.Process.{call_process}
use Rattle.process_kernel.specs.Views.{StepMatches}

-- a step that follows the rule of a call, over any deep enough calls, follows the calls that nest one deeper
pub deeper_call : (r : Result (Unit {0}) Stop) (new s : KernelState) (p : Proc) (e : Event) →
    ((k : ℕ) → s.units ≤ k → StepMatches r new (call_process (calls_of k) s p e)) → (k : ℕ) → s.units < k
    → StepMatches r new ((calls_of k).call s p e)
unfolding calls_of
deeper_call r new s p e matches zero enough = absurd (omega arith)
deeper_call r new s p e matches (suc k) enough = matches k (omega arith)

pub deeper_run : (r : Result Answer Stop) (new s : KernelState) (code : Code) (t : Remainder) (p : ℕ) (e : Event) →
    ((k : ℕ) → s.units ≤ k → StepMatches r new (run_of (calls_of k) s code t p e)) → (k : ℕ) → s.units < k
    → StepMatches r new ((calls_of k).run s code t p e)
unfolding calls_of
deeper_run r new s code t p e matches zero enough = absurd (omega arith)
deeper_run r new s code t p e matches (suc k) enough = matches k (omega arith)

-- the calls that nest m deep run a thread with the calls that nest one less deep
pub run_opens : (s : KernelState) (code : Code) (t : Remainder) (p : ℕ) (e : Event) (m : ℕ) → 0 < m
    → (calls_of m).run s code t p e ≡ run_of (calls_of (m - 1)) s code t p e
unfolding calls_of
run_opens s code t p e zero h = absurd (omega arith)
run_opens s code t p e (suc m) h = let one : suc m - 1 ≡ m = omega arith in rw one refl

-- a halt ends a step; if memory ran out, nothing is claimed
pub halt_tells : (A : Type 0) (stop : Stop) (s new : KernelState) → (stop ≡ Halted → new ≡ halted_of s)
    → StepMatches {A = A} (Err stop) new (Ends (halted_of s))
halt_tells A Halted s new halts = ap Ends (sym (halts refl))
halt_tells A Memory s new halts = tt

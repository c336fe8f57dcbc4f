use Rattle.std.proofs.Common.{arith, ◌≡◌, ◌+◌, refl, ap, sym, subst}
use Rattle.program_tree.specs.Program.{tree_of}
use Rattle.trace_lines.specs.declared.out.Out.{Out}
use Rattle.process_kernel.specs.declared.machine.Machine.{Machine}
use Rattle.process_kernel.specs.State.{KernelState}
use Rattle.process_kernel.specs.KernelModel.{begun_of, most_units, run_given, given, begun}
use Rattle.process_kernel.specs.Process.{process_run}
use Rattle.process_kernel.specs.Operations.{calls_of}
use Rattle.process_kernel.specs.Views.{kernel_state_of, kernel_model_of}
use Rattle.process_kernel.specs.Public.{kernel_in, MatchesOutcome, BeginsWith}
use Rattle.process_kernel.proofs.Given.{failed, halted, finished, begins_with, begins_same, machine_kept}
use Rattle.process_kernel.proofs.kernel.Kernel.run_on.Goals as goal

pub returns-then-self-clause-matches : goal.returns-then-self-clause-matches
returns-then-self-clause-matches c = failed _ _ _ _ c.if-self.true

pub returns-then-self-2-clause-matches : goal.returns-then-self-2-clause-matches
unfolding run_given
returns-then-self-2-clause-matches c =
    halted (tree_of c.args.program.now)
    (run_given c.args.now) c.args.self.now c.args.self.now.machine.out c.if-self.false (rw c.if-self-2.true refl)

pub returns-clause-matches : goal.returns-clause-matches
unfolding run_given begun_of
returns-clause-matches c =
    let t = tree_of c.args.program.now in
    let k = c.args.self.now in
    let out = k.machine.out in
    let o = process_run (calls_of (most_units + 1)) (kernel_state_of t c.begin.new.self) in
    let begins : begun (kernel_model_of t k.machine k.booted k.halted) c.args.now out.lines.items out.sends.items
    ≡ kernel_state_of t c.begin.new.self = sym (c.begin.ensures.exact t) in
    let work : c.begin.new.self.fuel ≡ most_units = ap (λ (s : KernelState). s.units) (c.begin.ensures.exact t) in
    let gives : run_given c.args.now (kernel_model_of t k.machine k.booted k.halted) out.lines.items out.sends.items
    ≡ given o = rw c.if-self-2.false (ap (λ (s : KernelState). given (process_run (calls_of (most_units + 1)) s)) begins) in
    let machine = c.run_kernel-ran.new.self in
    let kept = machine_kept
    (record k { machine = machine }) c.close.new.self c.run_kernel-ran.result c.close.result c.close.ensures.closes in
    subst (λ (matches : Out).
    MatchesOutcome (run_given c.args.now) (kernel_in t k) out c.close.result (kernel_in t c.close.new.self) matches)
    (sym (ap (λ (m : Machine). m.out) kept))
    (finished t (run_given c.args.now) k (record k { machine = machine }) c.close.new.self out machine.out
    (kernel_state_of t machine) o c.run_kernel-ran.result c.close.result
    c.if-self.false c.if-self.false c.if-self-2.false gives
    (c.run_kernel-ran.ensures.follows.exact (most_units + 1) (omega (arith, work))) refl refl refl
    (begins_with out machine.out (λ ls ss h. c.run_kernel-ran.ensures.follows.grows ls ss (c.begin.ensures.grows ls ss h)))
    c.close.ensures.closes)

pub returns-then-self-clause-begins : goal.returns-then-self-clause-begins
returns-then-self-clause-begins c = begins_same c.args.self.now.machine.out

pub returns-then-self-2-clause-begins : goal.returns-then-self-2-clause-begins
returns-then-self-2-clause-begins c = begins_same c.args.self.now.machine.out

pub returns-clause-begins : goal.returns-clause-begins
returns-clause-begins c =
    let k = c.args.self.now in
    let machine = c.run_kernel-ran.new.self in
    let kept = machine_kept
    (record k { machine = machine }) c.close.new.self c.run_kernel-ran.result c.close.result c.close.ensures.closes in
    subst (λ (matches : Out). BeginsWith k.machine.out matches) (sym (ap (λ (m : Machine). m.out) kept))
    (begins_with k.machine.out machine.out
    (λ ls ss h. c.run_kernel-ran.ensures.follows.grows ls ss (c.begin.ensures.grows ls ss h)))

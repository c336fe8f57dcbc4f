use Rattle.std.proofs.Common.{arith, ◌≡◌, ◌+◌, refl, ap, sym}
use Rattle.program_tree.specs.Program.{tree_of}
use Rattle.trace_lines.specs.declared.out.Out.{Out}
use Rattle.process_kernel.specs.State.{KernelState}
use Rattle.process_kernel.specs.KernelModel.{begun_of, most_units, boot_given, given, begun}
use Rattle.process_kernel.specs.Process.{boot_of}
use Rattle.process_kernel.specs.Operations.{calls_of}
use Rattle.process_kernel.specs.Views.{kernel_state_of, kernel_model_of}
use Rattle.process_kernel.proofs.Given.{failed, halted, finished, begins_with}
use Rattle.process_kernel.proofs.kernel.Kernel.boot.Goals as goal

pub returns-then-self : goal.returns-then-self
returns-then-self c = record { tells = failed _ _ _ _ c.if-self.true }

pub returns-then-self-2 : goal.returns-then-self-2
unfolding boot_given
returns-then-self-2 c = record {
  tells =
      halted (tree_of c.args.program.now) (boot_given c.args.now) c.args.self.now c.args.out.now c.if-self.false
      (rw c.if-self-2.true refl);
}

pub returns : goal.returns
unfolding boot_given begun_of
returns c = record {
  tells =
      let t = tree_of c.args.program.now in
      let k = c.args.self.now in
      let out = c.args.out.now in
      let o = boot_of (calls_of (most_units + 1)) (kernel_state_of t c.begin.new.self) in
      let begins : begun (kernel_model_of t k.machine k.booted k.halted) c.args.now out.lines.items out.sends.items
      ≡ kernel_state_of t c.begin.new.self = rw c.swap.ensures.x_after at (sym (c.begin.ensures.exact t)) in
      let work : c.begin.new.self.fuel ≡ most_units = ap (λ (s : KernelState). s.units) (c.begin.ensures.exact t) in
      let gives : boot_given c.args.now (kernel_model_of t k.machine k.booted k.halted) out.lines.items out.sends.items
      ≡ given o = rw c.if-self-2.false (ap (λ (s : KernelState). given (boot_of (calls_of (most_units + 1)) s)) begins) in
      finished t (boot_given c.args.now) k (record k { machine = _ }) c.close.new.self out c.swap-2.new.y
      (kernel_state_of t c.boot-ran.new.self) o c.boot-ran.result c.close.result
      c.if-self.false c.if-self.false c.if-self-2.false gives
      (c.boot-ran.ensures.follows.exact (most_units + 1) (omega (arith, work))) refl
      (ap (λ (x : Out). x.lines.items) c.swap-2.ensures.y_after)
      (ap (λ (x : Out). x.sends.items) c.swap-2.ensures.y_after)
      (begins_with out c.swap-2.new.y
      (λ ls ss h. rw c.swap-2.ensures.y_after
      (c.boot-ran.ensures.follows.grows ls ss (c.begin.ensures.grows ls ss (rw c.swap.ensures.x_after h))))) c.close.ensures.closes;
}

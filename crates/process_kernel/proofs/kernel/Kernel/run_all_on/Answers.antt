use Rattle.std.proofs.Common.{rules, ◌≡◌, ◌<◌, ◌-◌, ◌+◌, suc, refl, arith}
use Rattle.process_kernel.specs.KernelModel.{run_given}
use Rattle.process_kernel.proofs.Given.{so_far_none, so_far_next, so_far_fails}
use Rattle.process_kernel.proofs.Repeated.{run_next, run_last, run_all}
use Rattle.process_kernel.proofs.kernel.Kernel.run_all_on.Goals as goal

pub returns-in-Halted-clause-ok : goal.returns-in-Halted-clause-ok
returns-in-Halted-clause-ok c =
    let n = c.args.most in
    let i = c.runs._run in
    let one : n - i ≡ suc (n - (i + 1)) = omega (arith, c.runs-test.true) in record {
      leads = λ u is.
          run_last n (n - i) (n - (i + 1)) c.args.now u _ _ _ _ c.in_ok-run_on.field-0 one
          (c.runs.invariant.0 u is) c.in_ok-run_on.ensures.matches
          (λ others v. rw c.in-Halted.is refl);
    }

pub returns-clause-ok : goal.returns-clause-ok
returns-clause-ok c =
    let n = c.args.most in
    let i = c.runs._run in
    let none : n - i ≡ 0 =
    omega (arith, c.runs-test.false) in
    record { leads = λ u is. run_all n (n - i) c.args.now u _ none (c.runs.invariant.0 u is) }

pub returns-then-left-eq0-clause-ok : goal.returns-then-left-eq0-clause-ok
returns-then-left-eq0-clause-ok c =
    let n = c.args.most in
    let i = c.runs._run in
    let one : n - i ≡ suc (n - (i + 1)) = omega (arith, c.runs-test.true) in record {
      leads = λ u is.
          run_last n (n - i) (n - (i + 1)) c.args.now u _ _ _ _ c.in_ok-run_on.field-0 one
          (c.runs.invariant.0 u is) c.in_ok-run_on.ensures.matches
          (λ others v. rw (c.in-Left.is, c.if-left-eq0.true) refl);
    }

pub runs-preserved : goal.runs-preserved
runs-preserved c =
    let n = c.args.most in
    let i = c.runs._run in
    let one : n - i ≡ suc (n - (i + 1)) = omega (arith, c.runs-test.true) in
    let some : 0 < c.in-Left.left = omega (arith, c.if-left-eq0.false) in (
      λ u is. run_next n (n - i) (n - (i + 1)) c.args.now u _ _ _ _ c.in-Left.left one (c.runs.invariant.0 u is)
          (rw c.in-Left.is at c.in_ok-run_on.ensures.matches) some,
      so_far_next (run_given c.args.now) _ _ _ _ c.in_ok-run_on.field-0 _ _ c.runs.invariant.1
          c.in_ok-run_on.ensures.matches c.in_ok-run_on.ensures.begins,
    )

pub runs-init : goal.runs-init
runs-init c = (search rules, so_far_none _ _)

pub returns-in_err-run_on-clause-err : goal.returns-in_err-run_on-clause-err
returns-in_err-run_on-clause-err c =
    let fails = so_far_fails
    (run_given c.args.now) _ _ _ _ c.in_err-run_on.field-0.0 _ _ c.runs.invariant.1 c.in_err-run_on.ensures.matches in
    search (rules, fails)

use Rattle.std.proofs.Common.{◌≡◌, ◌-◌, ◌<◌, ◌≤◌, length, refl, ap, sym, ◌∙◌, arith}
use Rattle.std.proofs.lemmas.Grind.{common_steps}
use Rattle.protothread.specs.declared.thread.LastAction.TheVariants.{AtRest, RunAway}
use Rattle.protothread.specs.declared.step.Step.TheVariants as step
use Rattle.protothread.specs.Step.{continued}
use Rattle.protothread.specs.Places.{thread_place, remainder_of}
use Rattle.protothread.proofs.Advance.{resumes_at_rest, cannot_resume, gives_up_now}
use Rattle.protothread.proofs.thread.Thread.come_back.Goals as goal

pub returns-then-pay : goal.returns-then-pay
returns-then-pay c = record {
  resumes =
      let t = c.args.self.now in
      let enough : length t.calls ≤ c.args.fuel.now = omega (arith, c.len.ensures.length, c.pay.ensures.paid.0 c.if-pay.true) in
      let left : c.args.fuel.now - length t.calls ≡ c.pay.new.self = omega (arith, c.len.ensures.length, c.pay.ensures.units) in
      record {
        same = refl;
        none_made = omega (arith, c.pay.ensures.units);
        goes_on_so =
            λ code event looks vars.
            resumes_at_rest code event looks t vars c.args.fuel.now c.in-AtRest.is enough
            ∙ ap (λ u. continued code t.part event looks (thread_place code t) vars u) left;
      };
}

pub returns-else-pay : goal.returns-else-pay
returns-else-pay c = record {
  resumes =
      let t = c.args.self.now in
      let short : c.args.fuel.now < length t.calls = grind (arith, common_steps) in
      let none : 0 ≡ c.pay.new.self = omega (arith, c.len.ensures.length, c.pay.ensures.units) in
      record {
        pays = omega (arith, c.pay.ensures.units);
        stops_so =
            λ code event looks vars.
            cannot_resume code event looks t vars c.args.fuel.now c.in-AtRest.is short
            ∙ ap (λ u. record { step = step.Runaway; remainder = remainder_of code (record t { last_action = RunAway }); variables = vars; units = u }) none;
      };
}

pub returns-in-Pausing : goal.returns-in-Pausing
returns-in-Pausing c = record {
  resumes =
      let t = c.args.self.now in
      record {
        pays = omega arith;
        stops_so =
            λ code event looks vars.
            gives_up_now code event looks t vars c.args.fuel.now c.in-Pausing.is
            ∙ ap (λ a. record { step = step.Done a; remainder = remainder_of code (record t { last_action = AtRest }); variables = vars; units = c.args.fuel.now }) (sym c.yield_answer.ensures.value);
      };
}

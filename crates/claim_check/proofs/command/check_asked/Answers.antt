use Rattle.std.proofs.Common.{inl, inr, rules, refl, subst, sym}
use Rattle.std.proofs.lemmas.Result.{err_from_is_err_and}
use Rattle.claim_check.specs.Command.{AreAllFaults}
use Rattle.claim_check.proofs.command.check_asked.Goals as goal

pub returns-in_err-scenario : goal.returns-in_err-scenario
returns-in_err-scenario g c =
    let p = err_from_is_err_and c.from_residual.result c.from_residual.ensures.1 in
    record { checks_some = rw (p.1, p.2) (inr (_, refl, c.in_err-scenario.ensures.refuses, search rules)) }

pub returns-in_err-claims : goal.returns-in_err-claims
returns-in_err-claims g c =
    let p = err_from_is_err_and c.from_residual-in_err-claims.result c.from_residual-in_err-claims.ensures.1 in
    record { checks_some = rw (p.1, p.2) (inr (_, refl, c.in_err-claims.ensures.refuses, search rules)) }

pub returns-in_err-faults : goal.returns-in_err-faults
returns-in_err-faults g c =
    let p = err_from_is_err_and c.from_residual-in_err-faults.result c.from_residual-in_err-faults.ensures.1 in
    record { checks_some = rw (p.1, p.2) (inr (_, refl, c.in_err-faults.ensures.refuses, search rules)) }

pub returns : goal.returns
returns g c = record {
  checks_some = inl record {
    scenario = c.as_str.result.now;
    claims = c.as_str-2.result.now;
    faults = c.as_str-3.result.now;
    all_faults = subst (AreAllFaults c.args.asked.now) (sym c.as_str-3.ensures.value) c.in_ok-faults.ensures.all_faults;
    responds = c.answer.ensures.responds;
  };
}

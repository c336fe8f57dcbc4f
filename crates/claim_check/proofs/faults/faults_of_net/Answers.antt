use Rattle.std.proofs.Common.{◌≡◌, ◌∙◌, ap, rules, subst, sym}
use Rattle.std.proofs.lemmas.Result.{err_from_is_err_and}
use Rattle.radio_faults.specs.FaultLines.{IsRead, Refuses}
use Rattle.mote_net.specs.Meaning.{net_of}
use Rattle.claim_check.specs.Faults.{first_missing}
use Rattle.claim_check.proofs.faults.faults_of_net.Goals as goal

pub returns-in_err-faults-clause-refused : goal.returns-in_err-faults-clause-refused
returns-in_err-faults-clause-refused c =
    let p = err_from_is_err_and c.from_residual.result c.from_residual.ensures.1 in
    let same : c.as_bytes.result.now ≡ c.args.text.now = search rules in
    rw (p.1, p.2) (subst (λ text. Refuses text c.in_err-faults.field-0.0) same c.in_err-faults.ensures.refused)

pub returns-in-Some-clause-refused : goal.returns-in-Some-clause-refused
returns-in-Some-clause-refused c =
    let same : c.as_bytes.result.now ≡ c.args.text.now = search rules in
    let faults = c.in_ok-faults.faults.items in
    let sliced : c.as_slice.result.now ≡ faults = search rules in
    record { faults = faults; read = subst (λ text. IsRead text faults) same c.in_ok-faults.ensures.read; missing = sym (c.in-Some.ensures.value ∙ ap (first_missing (net_of c.args.net.now)) sliced) }

pub returns-in-None-clause-are_faults : goal.returns-in-None-clause-are_faults
returns-in-None-clause-are_faults c =
    let same : c.as_bytes.result.now ≡ c.args.text.now = search rules in
    let faults = c.in_ok-faults.faults.items in
    let sliced : c.as_slice.result.now ≡ faults = search rules in
    record { read = subst (λ text. IsRead text faults) same c.in_ok-faults.ensures.read; all_there = sym (c.in-None.ensures.value ∙ ap (first_missing (net_of c.args.net.now)) sliced) }

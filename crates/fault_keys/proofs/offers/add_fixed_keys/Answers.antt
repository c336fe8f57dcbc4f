use Rattle.std.proofs.Common.{rules, ◌≡◌, ◌∙◌, ◌<◌, ◌++◌, ◌∷◌, [], Bool, if◌then◌else◌, ℕ, length, get_or, ap, arith, vec_len}
use Rattle.std.proofs.lemmas.List.{get_or_default}
use Rattle.radio_faults.specs.declared.fault.Fault.TheVariants.{Silent}
use Rattle.mote_net.specs.Report.{report_of}
use Rattle.serial_run.specs.FaultLaws.{may_change}
use Rattle.fault_keys.proofs.Lists.{filter_more}
use Rattle.fault_keys.proofs.offers.add_fixed_keys.Goals as goal

pub loop-key-preserved : goal.loop-key-preserved
loop-key-preserved c =
    let fixed = c.args.candidates.now.fixed.items in
    let r = report_of c.args.report.now in
    let key = c.loop-key.key in
    let own : vec_len c.args.candidates.now.fixed ≡ length fixed = search rules in
    let lt : key < length fixed = omega (arith, own, c.len-key-end.ensures, c.loop-key-test.true) in
    let p : ℕ → Bool = λ k. may_change (get_or fixed k (Silent 0)) r in
    let at : c.index.result.now ≡ get_or fixed key (Silent 0) = c.index.ensures ∙ get_or_default fixed key c.index.result.now (Silent 0) lt in
    let is : c.may_change-is_there.result ≡ p key = c.may_change-is_there.ensures.value ∙ ap (λ f. may_change f r) at in
    filter_more p c.args.keys.now.items c.loop-key.keys.items c.add_if.new.keys.items key c.loop-key.invariant
    (c.in_ok-add_if.ensures.appended ∙ ap (λ (b : Bool). c.loop-key.keys.items ++ (if b then key ∷ [] else [])) is)

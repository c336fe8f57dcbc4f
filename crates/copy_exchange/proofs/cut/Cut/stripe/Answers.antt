use Rattle.std.proofs.Common.{◌≡◌, ◌%◌, map, refl, ap, ◌∙◌, arith}
use Rattle.window_laws.specs.Agenda.{up_to}
use Rattle.copy_exchange.proofs.Cuts.{one_more}
use Rattle.copy_exchange.proofs.cut.Cut.stripe.Goals as goal

pub loop-mote-init : goal.loop-mote-init
loop-mote-init c = c.new-owners.ensures.items

pub loop-mote-preserved : goal.loop-mote-preserved
loop-mote-preserved c = one_more (λ mote. mote % c.args.workers) _ _ _ _ c.loop-mote.invariant
    c.in_ok-push.ensures.items refl

pub returns-clause-owners : goal.returns-clause-owners
returns-clause-owners c =
    let all : c.loop-mote.mote ≡ c.args.motes = omega arith in
    c.loop-mote.invariant ∙ ap (λ n. map (λ mote. mote % c.args.workers) (up_to n)) all

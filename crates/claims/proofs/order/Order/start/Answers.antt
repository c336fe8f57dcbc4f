use Rattle.std.proofs.Common.{◌∙◌, sym, subst, arith, ◌≤◌, Option, not, nat_le}
use Rattle.claims.specs.declared.trace.Found.{Found}
use Rattle.claims.specs.Seen.{Stands, reach}
use Rattle.claims.proofs.StandLaws.{stands_at_first, stands_still}
use Rattle.claims.proofs.order.Order.start.Goals as goal

pub returns-in-None : goal.returns-in-None
returns-in-None c = record { stands = λ r h. stands_at_first c.args.self.now r c.args.line.now }

pub returns-then-is_followed_by : goal.returns-then-is_followed_by
returns-then-is_followed_by c = record {
  stands = λ r h.
      let near : c.reach.result ≤ reach c.args.self.now.relation c.in-Some.before = omega arith in
      subst (λ (v : Option Found). Stands c.args.self.now r c.args.line.now (λ e. not (nat_le c.reach.result e.line.at)) v) (sym c.still_known.ensures.value)
      (stands_still c.args.self.now r c.reach.result c.in-Some.before c.args.line.now c.args.seen.event near
      (sym c.is_followed_by.ensures.value ∙ c.if-is_followed_by.true) (h.stands c.in-Some.before c.in-Some.is));
}

pub returns-else-is_followed_by : goal.returns-else-is_followed_by
returns-else-is_followed_by c = record { stands = λ r h. stands_at_first c.args.self.now r c.args.line.now }

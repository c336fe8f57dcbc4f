use Rattle.std.proofs.Common.{◌++◌, ◌∙◌, sym, subst, not}
use Rattle.std.specs.List.{filter}
use Rattle.window_laws.specs.Agenda.{is_wake_of, wake_items}
use Rattle.net_agenda.specs.Buckets.{HoldsItems}
use Rattle.net_agenda.proofs.Woken.{rewoken, same_wake}
use Rattle.net_agenda.proofs.agenda.Agenda.move_wake.Goals as goal

pub returns-then-eq : goal.returns-then-eq
returns-then-eq c = record {
  moves_wake =
      λ items holds one.
      subst (λ w. HoldsItems c.args.self.now.buckets (filter (λ item. not (is_wake_of c.args.mote item)) items ++ wake_items c.args.mote w))
      (same_wake c.args.wake c.args.next (sym c.eq.ensures ∙ c.if-eq.true)) (rewoken c.args.self.now.buckets c.args.wake c.args.mote items holds one);
}

pub returns : goal.returns
returns c = record { moves_wake = λ items holds one. c.in_ok-put_next_wake.ensures.adds _ (c.in_ok-drop_wake.ensures.drops_wake items holds one) }

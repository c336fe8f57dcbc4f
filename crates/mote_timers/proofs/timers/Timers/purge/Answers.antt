use Rattle.std.proofs.Common.{rules, ◌≡◌, not, ap, ◌∙◌}
use Rattle.std.specs.List.{filter}
use Rattle.std.proofs.lemmas.Fn.{filter_same}
use Rattle.mote_timers.specs.Numbers.{Numbers, numbers}
use Rattle.mote_timers.specs.Timer.{is_owned_by}
use Rattle.mote_timers.specs.TimerLists.{TimerLists, timer_at, purge_timers}
use Rattle.mote_timers.proofs.ListedTimers.{AreTimers-filtered, lists}
use Rattle.mote_timers.proofs.NumberLists.{same_numbers}
use Rattle.mote_timers.proofs.timers.Timers.purge.Goals as goal

-- the timers that the process doesn't own stay on the list
left : (c : goal.After-retain) → c.retain.new.self ≡ numbers (filter (λ id. not (is_owned_by c.args.owner (timer_at c.self.inside.timers.items id))) c.self.inside.listed.members) c.self.inside.listed.limit
left c = same_numbers _ _ (filter_same _ (λ id. not (is_owned_by c.args.owner (timer_at c.self.inside.timers.items id))) _ (λ x b f h. search rules) _ _ c.retain.ensures.kept) c.retain.ensures.limit

pub invariant_of-self : goal.invariant_of-self
invariant_of-self c = rw (left c) (AreTimers-filtered _ _ _ c.self.invariant)

pub returns-clause-after : goal.returns-clause-after
unfolding purge_timers
returns-clause-after c = ap (λ (l : Numbers). lists c.self.inside.timers.items l.members) (left c) ∙ ap (λ (s : TimerLists). purge_timers s c.args.owner) c.self.view_is

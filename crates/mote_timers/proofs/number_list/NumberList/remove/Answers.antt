use Rattle.std.proofs.Common.{rules, ◌==◌, not}
use Rattle.std.proofs.lemmas.Fn.{filter_same}
use Rattle.mote_timers.proofs.NumberLists.{same_numbers}
use Rattle.mote_timers.proofs.number_list.NumberList.remove.Goals as goal

pub returns : goal.returns
returns c = record { after = same_numbers _ _ (filter_same _ (λ x. not (x == c.args.number)) _ (λ x b f h. search rules) _ _ c.retain.ensures.kept) c.retain.ensures.limit }

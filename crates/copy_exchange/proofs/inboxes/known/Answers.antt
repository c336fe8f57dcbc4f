use Rattle.std.proofs.Common.{◌+◌, length, ap, sym, ◌∙◌}
use Rattle.copy_inbox.specs.Items.{copies_of}
use Rattle.copy_exchange.proofs.Counted.{gathered_length}
use Rattle.copy_exchange.proofs.inboxes.known.Goals as goal

pub returns : goal.returns
returns c = record { count = gathered_length c.args.taker.now.state c.requires.is_settled.orderly c.requires.is_settled.no_mark ∙ ap (λ n. length (copies_of c.args.taker.now.state.taken) + n) (sym c.known.ensures.count) }

use Rattle.std.proofs.Common.{rules, ◌≡◌, length, vec_len, sym, ◌∙◌, subst, inr}
use Rattle.std.proofs.lemmas.Iterator.Adapters.{YieldsList-from_vec}
use Rattle.std.proofs.lemmas.Iterator.Consumers.{YieldsList-turn}
use Rattle.copy_exchange.specs.Inboxes.{IsSettled}
use Rattle.fork_join.proofs.Zips.{each_at}
use Rattle.window_workers.specs.Crossed.{Pair}
use Rattle.window_workers.proofs.ended.close_all.Goals as goal
use Rattle.window_workers.proofs.ended.close_all.Goals.{In-Some}

-- the pair at hand is settled, as all pairs are
settled : (g : _) (c : In-Some g) → IsSettled c.in-Some.inbox c.in-Some.taker
settled g c =
    let rest = c.into_iter-inbox-iterator.ensures.into_iter_gives in
    let len : vec_len c.args.pairs ≡ length c.args.pairs.items = search rules in
    let turn = YieldsList-turn (YieldsList-from_vec c.args.pairs.items rest.0 (rest.1 ∙ len)) c.loop-inbox.yielded c.loop-inbox.inbox-iterator c.loop-inbox.yielded_by c.next.result c.next.new.self (c.in-Some.inbox, c.in-Some.taker) c.in-Some.is c.next.ensures.steps in
    let Settled : Pair → Type 0 = λ pair. IsSettled pair.0 pair.1 in
    subst Settled (sym turn.1) (each_at Settled c.args.pairs.items (length c.loop-inbox.yielded) (c.in-Some.inbox, c.in-Some.taker) c.requires.settled turn.0)

pub close-left-requires-clause-of_inbox : goal.close-left-requires-clause-of_inbox
close-left-requires-clause-of_inbox g c = (settled g c).its

pub close-left-requires-clause-gathered : goal.close-left-requires-clause-gathered
close-left-requires-clause-gathered g c = (settled g c).all

pub close-left-requires-clause-packets : goal.close-left-requires-clause-packets
close-left-requires-clause-packets g c = inr (settled g c).no_mark

use Rattle.std.proofs.lemmas.Result.{on_ok_weaker}
use Rattle.copy_exchange.proofs.Collected.{endpoint_on, collects}
use Rattle.copy_exchange.proofs.endpoint.Endpoint.collect.Goals as goal

pub returns-clause-collects : goal.returns-clause-collects
returns-clause-collects g c =
    let known = c.known-known.ensures.count in
    let later = c.requires.endpoint.orderly.later in
    let matches = c.drain.ensures in
    let after = c.drain.result in
    collects c.args.inboxes.now c.args.self.now c.drain.new.taker after c.requires.endpoint matches.taken
    (on_ok_weaker after (λ d. d.begun) matches.drained) (on_ok_weaker after (λ d. d.others (known, later)) matches.drained)
    c.requires.plain (on_ok_weaker after (λ d. d.whole (known, later)) matches.drained)

pub returns-clause-endpoint : goal.returns-clause-endpoint
returns-clause-endpoint g c =
    let known = c.known-known.ensures.count in
    let later = c.requires.endpoint.orderly.later in
    let matches = c.drain.ensures in
    let after = c.drain.result in
    endpoint_on c.args.inboxes.now c.args.self.now c.drain.new.taker after c.requires.endpoint matches.taken
    (on_ok_weaker after (λ d. d.begun) matches.drained) (on_ok_weaker after (λ d. d.others (known, later)) matches.drained)

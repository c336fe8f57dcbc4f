use Rattle.std.proofs.Common.{rules, ◌≡◌, get_or, Option, Some, subst, sym, ap, ◌∙◌}
use Rattle.std.specs.Option.{IsSomeAnd}
use Rattle.copy_inbox.specs.Handles.{SenderView, after_pushing}
use Rattle.copy_inbox.specs.declared.items.Carried.TheVariants.{Packet}
use Rattle.copy_exchange.proofs.Delivered.{to_is, to_inside, never_none, sender_there, endpoint_with, delivers_with}
use Rattle.copy_exchange.proofs.endpoint.Endpoint.deliver_one.Goals as goal
use Rattle.copy_exchange.proofs.endpoint.Endpoint.deliver_one.Goals.{In_ok-map_err}

pub unreachable-requires : goal.unreachable-requires
unreachable-requires g c =
    never_none c.args.inboxes.now c.args.owners.now c.args.self.now c.args.copy c.from-to.result c.from.result c.requires.on_inboxes c.requires.leaves c.from.ensures c.from-to.ensures c.index_mut.result.now c.index_mut.ensures.value c.in_default.is

pub push_copy-requires : goal.push_copy-requires
push_copy-requires g c = record {
  of_inbox =
      let there = sender_there c.args.inboxes.now c.args.owners.now c.args.self.now c.args.copy c.from-to.result c.from.result c.requires.on_inboxes c.requires.leaves c.from.ensures c.from-to.ensures c.index-inboxes-to.result c.index_mut.result.now c.index-inboxes-to.is c.index_mut.ensures.value in
      let P : Option SenderView → Type 0 = λ s. IsSomeAnd s (λ sender. sender.inbox ≡ c.index-inboxes-to.result) in
      subst P c.in-Some.is there;
}

-- the item that was pushed, and its sender
matches : (g : _) (c : In_ok-map_err g) → (c.push_copy.new.sender.state ≡ after_pushing c.in-Some.sender.state (Packet c.args.copy)) × (Some c.in-Some.sender ≡ get_or c.args.self.now.senders.items c.from-to.result (Some c.in-Some.sender))
matches g c =
    let value = c.index_mut.ensures.value in
    let is = c.in-Some.is in
    (search rules, sym is ∙ (value ∙ ap (get_or c.args.self.now.senders.items c.from-to.result) is))

pub returns-clause-on_inboxes : goal.returns-clause-on_inboxes
returns-clause-on_inboxes g c =
    let inside = to_inside c.args.inboxes.now c.args.owners.now c.args.self.now c.args.copy c.from-to.result c.from.result c.requires.on_inboxes c.requires.leaves c.from.ensures c.from-to.ensures in
    let is = to_is c.args.inboxes.now c.args.owners.now c.args.self.now c.args.copy c.from-to.result c.from.result c.requires.on_inboxes c.requires.leaves c.from.ensures c.from-to.ensures in
    let t = matches g c in
    endpoint_with c.args.inboxes.now c.args.owners.now c.args.self.now c.args.copy c.from-to.result c.requires.on_inboxes inside c.requires.leaves.there is c.in-Some.sender c.push_copy.new.sender t.1 c.push_copy.ensures.of_inbox t.0

pub returns-clause-delivers : goal.returns-clause-delivers
returns-clause-delivers g c =
    let inside = to_inside c.args.inboxes.now c.args.owners.now c.args.self.now c.args.copy c.from-to.result c.from.result c.requires.on_inboxes c.requires.leaves c.from.ensures c.from-to.ensures in
    let is = to_is c.args.inboxes.now c.args.owners.now c.args.self.now c.args.copy c.from-to.result c.from.result c.requires.on_inboxes c.requires.leaves c.from.ensures c.from-to.ensures in
    let t = matches g c in
    delivers_with c.args.inboxes.now c.args.owners.now c.args.self.now c.args.copy c.from-to.result c.requires.on_inboxes inside c.requires.leaves.there is c.in-Some.sender c.push_copy.new.sender t.1 c.push_copy.ensures.of_inbox t.0

use Rattle.std.proofs.Common.{rules, ◌≡◌, get_or, Some, sym, ap, ◌∙◌}
use Rattle.copy_inbox.specs.Handles.{after_pushing}
use Rattle.copy_inbox.specs.declared.items.Carried.TheVariants.{Mark}
use Rattle.copy_exchange.proofs.Marked.{marks_with}
use Rattle.copy_exchange.proofs.endpoint.Endpoint.push_mark_to.Goals as goal

pub returns-in_ok-map_err : goal.returns-in_ok-map_err
returns-in_ok-map_err g c =
    let value = c.index_mut.ensures.value in
    let is = c.in-Some.is in
    let was : Some c.in-Some.sender ≡ get_or c.args.self.now.senders.items c.args.to (Some c.in-Some.sender) = sym is ∙ (value ∙ ap (get_or c.args.self.now.senders.items c.args.to) is) in
    let state : c.push_mark.new.sender.state ≡ after_pushing c.in-Some.sender.state (Mark c.args.window) = search rules in
    record { marks = marks_with c.args.self.now c.args.to c.args.window c.requires.in_range c.in-Some.sender c.push_mark.new.sender was c.push_mark.ensures.of_inbox state }

use Rattle.std.proofs.Common.{rules, ◌≡◌, ◌∙◌, ◌++◌, [], ◌∷◌, ap}
use Rattle.circular_buffer.specs.Buffer.{buffer}
use Rattle.event_queue.specs.Queue.{Queue, with_posted}
use Rattle.event_queue.specs.declared.queue.Waiting.{Waiting}
use Rattle.event_queue.proofs.Posting.{posts}
use Rattle.event_queue.proofs.queue.EventQueue.post.Goals as goal

pub returns-clause-ok : goal.returns-clause-ok
returns-clause-ok c =
    let old = c.self.inside.waiting in
    let waiting : Waiting = record { target = c.args.target; event = c.args.event } in
    let pushed : c.try_push_back.new.self ≡ buffer (old.items ++ waiting ∷ []) old.capacity = search rules in
    posts old c.try_push_back.new.self c.self.inside.taken waiting pushed ∙ ap (λ (q : Queue). with_posted q c.args.target c.args.event) c.self.view_is

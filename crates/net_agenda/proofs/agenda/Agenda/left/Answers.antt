use Rattle.std.proofs.Common.{◌≡◌, ◌+◌, [], refl, subst, sym, ap, ◌∙◌, length}
use Rattle.window_laws.specs.Agenda.{packets}
use Rattle.net_agenda.proofs.Items.{items_among}
use Rattle.net_agenda.proofs.Left.{all_left, next_left}
use Rattle.net_agenda.proofs.agenda.Agenda.left.Goals as goal

pub loop-bucket-init : goal.loop-bucket-init
loop-bucket-init c = λ items holds. all_left c.args.self.buckets c.len-length.ensures.ordered items holds [] refl

pub loop-bucket-preserved : goal.loop-bucket-preserved
loop-bucket-preserved c = λ items holds.
    let rest = c.pop_first.new.self.entries in
    subst (λ n. n + length (packets (items_among rest)) ≡ length (packets items))
    (sym (c.in_ok-left.ensures.sum ∙ ap (λ k. c.loop-bucket.left + k) c.copies.ensures.count))
    (next_left c.loop-bucket.buckets.entries rest c.in-Some.field-0-0 c.in-Some.bucket c.loop-bucket.left (length (packets items)) c.in-Some.ensures.removal (c.loop-bucket.invariant items holds))

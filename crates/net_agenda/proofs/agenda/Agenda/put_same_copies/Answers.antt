use Rattle.std.proofs.Common.{rules, ◌≡◌, cond, ◌∷◌, ◌++◌, map, take, ap, ◌∙◌, subst, sym, refl, IsSome, Some, None}
use Rattle.std.specs.Ordering.{nat_cmp, is_eq}
use Rattle.std.specs.BTreeMap.{get}
use Rattle.window_laws.specs.Agenda.{Packet}
use Rattle.net_agenda.specs.Buckets.{items_in, item_at}
use Rattle.net_agenda.proofs.Runs.{if_all, put_many}
use Rattle.net_agenda.proofs.agenda.Agenda.put_same_copies.Goals as goal

pub returns-in-Some-clause-held : goal.returns-in-Some-clause-held
returns-in-Some-clause-held c =
    let old = c.args.self.now.buckets in
    let t = c.args.copy.now.at in
    let d = c.put_copies.new.self in
    let found : get nat_cmp old t ≡ Some c.in-Some.bucket.now = sym c.in-Some.ensures.value in
    if_all c.put_copies.result (λ n more filled is_sorted items holds.
    put_many old (c.get_mut.follows.lender d) t d items _ holds (more ∙ ap (λ l. l ++ map Packet (c.args.copy.now ∷ take n c.args.later.now)) (sym (ap (items_in t) found))) filled is_sorted
    ((c.get_mut.follows.holds d).3 (subst IsSome (sym found) refl)).0) c.put_copies.ensures.appended c.put_copies.ensures.filled c.put_copies.ensures.is_sorted

pub returns-clause-held : goal.returns-clause-held
returns-clause-held c = λ items holds.
    let old = c.args.self.now.buckets in
    let t = c.args.copy.now.at in
    let d = c.put_copies-2.new.self in
    let none : get nat_cmp old t ≡ None = search rules in
    let run = map Packet (c.args.copy.now ∷ take c.in_ok-count.count c.args.later.now) in
    let more = c.in_ok-count.ensures.appended ∙ (ap (λ l. map (item_at t) l ++ run) c.new-bucket.ensures.nothing ∙ ap (λ o. items_in t o ++ run) (sym none)) in
    put_many old c.insert.new.self t d items _ holds more c.in_ok-count.ensures.filled c.in_ok-count.ensures.is_sorted
    (λ q. c.in_ok-insert.ensures.updates.0 q ∙ ap (λ m. cond (is_eq (nat_cmp t q)) (Some d) (get nat_cmp m q)) c.get_mut.follows.holds-at-none)

use Rattle.std.proofs.Common.{rules, ◌≡◌, cond, ◌∷◌, ◌++◌, map, take, ap, ◌∙◌, subst, sym, refl, IsSome, Some, None}
use Rattle.std.specs.Ordering.{nat_cmp, is_eq}
use Rattle.std.specs.BTreeMap.{get}
use Rattle.net_agenda.specs.Buckets.{HoldsItems, items_in, item_at}
use Rattle.net_agenda.proofs.Runs.{copies_with, if_all, put_many, this_fate}
use Rattle.net_agenda.proofs.agenda.Agenda.put_same_fates.Goals as goal

pub returns-in-Some-get_mut-clause-held : goal.returns-in-Some-get_mut-clause-held
returns-in-Some-get_mut-clause-held c =
    let old = c.args.self.now.buckets in
    let sent = c.args.sent.now in
    let t = c.in-Some.moment in
    let d = c.put_fates.new.self in
    let found : get nat_cmp old t ≡ Some c.in-Some-get_mut.bucket.now = sym c.in-Some-get_mut.ensures.value in
    if_all c.put_fates.result (λ n more filled is_sorted items holds.
    subst (λ f. HoldsItems (c.get_mut.follows.lender d) (items ++ copies_with sent (f ∷ take n c.args.later.now))) (this_fate c.args.fate.now t c.in-Some.is)
    (put_many old (c.get_mut.follows.lender d) t d items _ holds (more ∙ ap (λ l. l ++ copies_with sent (record { to = c.args.fate.now.to; at = Some t } ∷ take n c.args.later.now)) (sym (ap (items_in t) found))) filled is_sorted
    ((c.get_mut.follows.holds d).3 (subst IsSome (sym found) refl)).0)) c.put_fates.ensures.appended c.put_fates.ensures.filled c.put_fates.ensures.is_sorted

pub returns-clause-held : goal.returns-clause-held
returns-clause-held c = λ items holds.
    let old = c.args.self.now.buckets in
    let sent = c.args.sent.now in
    let t = c.in-Some.moment in
    let d = c.put_fates-2.new.self in
    let n = c.in_ok-count.count in
    let none : get nat_cmp old t ≡ None = search rules in
    let run = copies_with sent (record { to = c.args.fate.now.to; at = Some t } ∷ take n c.args.later.now) in
    let more = c.in_ok-count.ensures.appended ∙ (ap (λ l. map (item_at t) l ++ run) c.new-bucket.ensures.nothing ∙ ap (λ o. items_in t o ++ run) (sym none)) in
    subst (λ f. HoldsItems c.insert.new.self (items ++ copies_with sent (f ∷ take n c.args.later.now))) (this_fate c.args.fate.now t c.in-Some.is)
    (put_many old c.insert.new.self t d items _ holds more c.in_ok-count.ensures.filled c.in_ok-count.ensures.is_sorted
    (λ q. c.in_ok-insert.ensures.updates.0 q ∙ ap (λ m. cond (is_eq (nat_cmp t q)) (Some d) (get nat_cmp m q)) c.get_mut.follows.holds-at-none))

use Rattle.std.proofs.Common.{rules, ◌≡◌, ◌∙◌, subst, sym, refl, not, IsSome, Some, None}
use Rattle.std.specs.List.{filter}
use Rattle.std.specs.Ordering.{nat_cmp}
use Rattle.std.specs.BTreeMap.{get}
use Rattle.std.proofs.lemmas.Result.{on_ok_weaker}
use Rattle.window_laws.specs.Agenda.{comes_at}
use Rattle.net_agenda.specs.Buckets.{Buckets, HoldsItems}
use Rattle.net_agenda.proofs.Moments.{taken, none_taken, arrivals_found, none_found, changed_left, changed_gone}
use Rattle.net_agenda.proofs.agenda.Agenda.take_due_into.Goals as goal

pub returns-in_default-clause-copies : goal.returns-in_default-clause-copies
returns-in_default-clause-copies c = λ items holds.
    let none : get nat_cmp c.args.self.now.buckets c.args.moment ≡ None = search rules in
    c.clear.ensures.items ∙ none_found c.args.self.now.buckets c.args.moment c.args.mote items holds none

pub returns-in_default-clause-rest : goal.returns-in_default-clause-rest
returns-in_default-clause-rest c = λ items holds.
    let none : get nat_cmp c.args.self.now.buckets c.args.moment ≡ None = search rules in
    subst (λ (m : Buckets). HoldsItems m (filter (λ item. not (comes_at c.args.moment c.args.mote item)) items)) (sym c.get_mut.follows.holds-at-none)
    (none_taken c.args.self.now.buckets c.args.moment c.args.mote items holds none)

pub returns-then-is_empty-clause-copies : goal.returns-then-is_empty-clause-copies
returns-then-is_empty-clause-copies c =
    let old = c.args.self.now.buckets in
    let t = c.args.moment in
    let b = c.in-Some.bucket.now in
    let found : get nat_cmp old t ≡ Some b = sym c.in-Some.ensures.value in
    on_ok_weaker c.take-taken.result (λ is items holds. is (holds.ready t b found).is_sorted ∙ arrivals_found old t c.args.mote b items holds found) c.take-taken.ensures.copies

pub returns-then-is_empty-clause-rest : goal.returns-then-is_empty-clause-rest
returns-then-is_empty-clause-rest c = λ items holds.
    let old = c.args.self.now.buckets in
    let t = c.args.moment in
    let b = c.in-Some.bucket.now in
    let d = c.take-taken.new.self in
    let found : get nat_cmp old t ≡ Some b = sym c.in-Some.ensures.value in
    let put = ((c.get_mut.follows.holds d).3 (subst IsSome (sym found) refl)).0 in
    taken old c.remove-bucket.new.self t c.args.mote b d items holds found (c.take-taken.ensures.rest (holds.ready t b found).is_sorted)
    (changed_gone old (c.get_mut.follows.lender d) c.remove-bucket.new.self t d (sym c.is_empty.ensures.value ∙ c.if-is_empty.true) put c.remove-bucket.ensures.updates.0)

pub returns-else-is_empty-clause-copies : goal.returns-else-is_empty-clause-copies
returns-else-is_empty-clause-copies c =
    let old = c.args.self.now.buckets in
    let t = c.args.moment in
    let b = c.in-Some.bucket.now in
    let found : get nat_cmp old t ≡ Some b = sym c.in-Some.ensures.value in
    on_ok_weaker c.take-taken.result (λ is items holds. is (holds.ready t b found).is_sorted ∙ arrivals_found old t c.args.mote b items holds found) c.take-taken.ensures.copies

pub returns-else-is_empty-clause-rest : goal.returns-else-is_empty-clause-rest
returns-else-is_empty-clause-rest c = λ items holds.
    let old = c.args.self.now.buckets in
    let t = c.args.moment in
    let b = c.in-Some.bucket.now in
    let d = c.take-taken.new.self in
    let found : get nat_cmp old t ≡ Some b = sym c.in-Some.ensures.value in
    let put = ((c.get_mut.follows.holds d).3 (subst IsSome (sym found) refl)).0 in
    taken old (c.get_mut.follows.lender d) t c.args.mote b d items holds found (c.take-taken.ensures.rest (holds.ready t b found).is_sorted)
    (changed_left old (c.get_mut.follows.lender d) t d (sym c.is_empty.ensures.value ∙ c.if-is_empty.false) put)

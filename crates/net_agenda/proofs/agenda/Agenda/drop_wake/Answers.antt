use Rattle.std.proofs.Common.{rules, ◌≡◌, ap, ◌∙◌, subst, sym, refl, not, IsSome, Some, None}
use Rattle.std.specs.List.{filter}
use Rattle.std.specs.Ordering.{nat_cmp}
use Rattle.std.specs.BTreeMap.{get}
use Rattle.window_laws.specs.Agenda.{is_wake_of, wake_items}
use Rattle.window_laws.proofs.Lists.{filter_not}
use Rattle.net_agenda.specs.Buckets.{Buckets, HoldsItems}
use Rattle.net_agenda.proofs.Moments.{unwoken, none_unwoken, changed_left, changed_gone}
use Rattle.net_agenda.proofs.agenda.Agenda.drop_wake.Goals as goal

pub returns-in_default : goal.returns-in_default
returns-in_default c = record { drops_wake = λ items holds none. subst (HoldsItems c.args.self.now.buckets) (sym (filter_not (is_wake_of c.args.mote) items (none ∙ ap (wake_items c.args.mote) c.in_default.is))) holds }

pub returns-then-is_empty : goal.returns-then-is_empty
returns-then-is_empty c = record {
  drops_wake =
      λ items holds one.
      let old = c.args.self.now.buckets in
      let t = c.in-Some.moment in
      let b = c.in-Some-get_mut.bucket.now in
      let d = c.drop_wake.new.self in
      let found : get nat_cmp old t ≡ Some b = sym c.in-Some-get_mut.ensures.value in
      let put = ((c.get_mut.follows.holds d).3 (subst IsSome (sym found) refl)).0 in
      unwoken old c.remove-bucket.new.self t c.args.mote b d items holds found c.drop_wake.ensures.rest (c.drop_wake.ensures.is_sorted (holds.ready t b found).is_sorted) (one ∙ ap (wake_items c.args.mote) c.in-Some.is)
      (changed_gone old (c.get_mut.follows.lender d) c.remove-bucket.new.self t d (sym c.is_empty.ensures.value ∙ c.if-is_empty.true) put c.remove-bucket.ensures.updates.0);
}

pub returns-else-is_empty : goal.returns-else-is_empty
returns-else-is_empty c = record {
  drops_wake =
      λ items holds one.
      let old = c.args.self.now.buckets in
      let t = c.in-Some.moment in
      let b = c.in-Some-get_mut.bucket.now in
      let d = c.drop_wake.new.self in
      let found : get nat_cmp old t ≡ Some b = sym c.in-Some-get_mut.ensures.value in
      let put = ((c.get_mut.follows.holds d).3 (subst IsSome (sym found) refl)).0 in
      unwoken old (c.get_mut.follows.lender d) t c.args.mote b d items holds found c.drop_wake.ensures.rest (c.drop_wake.ensures.is_sorted (holds.ready t b found).is_sorted) (one ∙ ap (wake_items c.args.mote) c.in-Some.is)
      (changed_left old (c.get_mut.follows.lender d) t d (sym c.is_empty.ensures.value ∙ c.if-is_empty.false) put);
}

pub returns-in_default-get_mut : goal.returns-in_default-get_mut
returns-in_default-get_mut c = record {
  drops_wake =
      λ items holds one.
      let old = c.args.self.now.buckets in
      let t = c.in-Some.moment in
      let none : get nat_cmp old t ≡ None = search rules in
      subst (λ (m : Buckets). HoldsItems m (filter (λ item. not (is_wake_of c.args.mote item)) items)) (sym c.get_mut.follows.holds-at-none)
      (none_unwoken old t c.args.mote items holds none (one ∙ ap (wake_items c.args.mote) c.in-Some.is));
}

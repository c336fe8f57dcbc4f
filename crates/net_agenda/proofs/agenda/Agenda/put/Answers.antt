use Rattle.std.proofs.Common.{rules, ◌≡◌, cond, ◌++◌, ◌∷◌, [], ap, ◌∙◌, subst, sym, refl, IsSome, Some, None}
use Rattle.std.specs.Ordering.{nat_cmp, is_eq}
use Rattle.std.specs.BTreeMap.{get}
use Rattle.std.proofs.lemmas.Result.{on_ok_weaker}
use Rattle.net_agenda.specs.Buckets.{items_in}
use Rattle.net_agenda.proofs.Moments.{put_more}
use Rattle.net_agenda.proofs.agenda.Agenda.put.Goals as goal

pub returns-in-Some : goal.returns-in-Some
returns-in-Some c = record {
  adds =
      let old = c.args.self.now.buckets in
      let t = c.args.moment in
      let b = c.in-Some.bucket.now in
      let d = c.put.new.self in
      let found : get nat_cmp old t ≡ Some b = sym c.in-Some.ensures.value in
      on_ok_weaker c.put.result (λ more items holds.
      put_more old (c.get_mut.follows.lender d) t c.args.coming d b.coming.items items holds (ap (items_in t) found) more c.put.ensures.is_sorted
      ((c.get_mut.follows.holds d).3 (subst IsSome (sym found) refl)).0) c.put.ensures.appended;
}

pub returns : goal.returns
returns c = record {
  adds =
      λ items holds.
      let old = c.args.self.now.buckets in
      let t = c.args.moment in
      let d = c.put-2.new.self in
      let none : get nat_cmp old t ≡ None = search rules in
      put_more old c.insert.new.self t c.args.coming d [] items holds (ap (items_in t) none) (c.in_ok-put.ensures.appended ∙ ap (λ l. l ++ c.args.coming ∷ []) c.new-bucket.ensures.nothing) c.put-2.ensures.is_sorted
      (λ q. c.in_ok-insert.ensures.updates.0 q ∙ ap (λ m. cond (is_eq (nat_cmp t q)) (Some d) (get nat_cmp m q)) c.get_mut.follows.holds-at-none);
}

use Rattle.std.proofs.Common.{◌≡◌, ◌∷◌, ap, ◌∙◌, arith}
use Rattle.std.specs.Vec.{vec_capacity}
use Rattle.mote_timers.specs.Numbers.{Numbers, with_member}
use Rattle.mote_timers.proofs.NumberLists.{AreNumbers-cons, length-lt_limit, same_numbers, lacks, takes, with_member-new}
use Rattle.mote_timers.proofs.number_list.NumberList.add.Goals as goal

-- there is room for a number that isn't on the list
pub unwrap-requires : goal.unwrap-requires
unwrap-requires c =
    let missing = lacks _ _ _ _ c.self.view_is c.contains.ensures.value c.if-not-contains.true in
    let below = takes _ _ _ c.self.view_is c.requires.in_range in
    c.insert.ensures.succeeds (omega (arith, c.self.inside.members.ok.0, length-lt_limit c.args.number c.self.inside.members.items _ c.self.invariant below missing))

-- the number is inserted at the front, without reallocation
items : (c : goal.After-unwrap) → c.insert.new.self.items ≡ c.args.number ∷ c.self.inside.members.items
items c = rw c.unwrap.ensures at c.insert.ensures.items

capacity : (c : goal.After-unwrap) → vec_capacity c.insert.new.self ≡ vec_capacity c.self.inside.members
capacity c =
    let missing = lacks _ _ _ _ c.self.view_is c.contains.ensures.value c.if-not-contains.true in
    let below = takes _ _ _ c.self.view_is c.requires.in_range in
    (c.insert.ensures.in_place (omega (arith, c.self.inside.members.ok.0, length-lt_limit c.args.number c.self.inside.members.items _ c.self.invariant below missing))).1.0

pub invariant_of-self : goal.invariant_of-self
invariant_of-self c =
    rw (items c, capacity c) (AreNumbers-cons _ _ _ c.self.invariant (takes _ _ _ c.self.view_is c.requires.in_range) (lacks _ _ _ _ c.self.view_is c.contains.ensures.value c.if-not-contains.true))

pub returns-then-not-contains : goal.returns-then-not-contains
returns-then-not-contains c = record {
  after =
      let missing = lacks _ _ _ _ c.self.view_is c.contains.ensures.value c.if-not-contains.true in
      same_numbers _ _
      (items c ∙ with_member-new _ _ missing ∙ ap (λ (l : Numbers). with_member c.args.number l.members) c.self.view_is)
      (capacity c ∙ ap (λ (l : Numbers). l.limit) c.self.view_is);
}

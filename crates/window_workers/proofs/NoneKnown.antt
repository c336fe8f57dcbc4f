-- With marks, nothing is left in the inboxes.
use Rattle.std.proofs.Common.{◌≡◌, List, [], ◌∷◌, length, drop, refl, ap, ◌∙◌, arith}
use Rattle.std.proofs.Math.Seq.{drop-length}
use Rattle.std.proofs.lemmas.List.Sums.{sum_by-cons}
use Rattle.std.specs.List.{zip, AllByRecursion as Each}
use Rattle.copy_inbox.specs.Gathered.{known_of, untaken_of, Whole}
use Rattle.copy_inbox.specs.Handles.{InboxId, TakerView}
use Rattle.copy_inbox.specs.declared.items.Item.{Item}
use Rattle.copy_inbox.specs.declared.rule.Gathered.{Gathered}
use Rattle.window_workers.specs.Crossed.{Pair}

-- if all items that were pushed are taken, no item is known
whole_known : (gs : List Gathered) (taken : List Item) → Whole gs taken → known_of gs taken ≡ 0
whole_known [] taken h = refl
whole_known (g ∷ gs) taken h =
    let none : length (untaken_of taken g) ≡ 0 = ap (λ l. length (drop (length l) g.pushed)) h.0 ∙ ap length (drop-length g.pushed) in
    let rest = whole_known gs taken h.1 in
    omega (arith, none, rest, sum_by-cons (λ (k : Gathered). length (untaken_of taken k)) g gs)

pub none_known : (inboxes : List InboxId) (takers : List TakerView) → Each (λ (t : TakerView). Whole t.state.gathered t.state.taken) takers
    → Each (λ (pair : Pair). known_of pair.1.state.gathered pair.1.state.taken ≡ 0) (zip inboxes takers)
none_known [] takers h = tt
none_known (i ∷ is) [] h = tt
none_known (i ∷ is) (t ∷ ts) h = (whole_known t.state.gathered t.state.taken h.0, none_known is ts h.1)

use Rattle.std.proofs.Common.{◌≡◌, ◌∙◌, ◌<◌, ◌++◌, ◌∷◌, [], ℕ, true, false, length, take, set, ap, arith, subst, sym, Option}
use Rattle.std.proofs.lemmas.Bool.{false≢true}
use Rattle.std.proofs.lemmas.List.{length-set, take_all, take_more}
use Rattle.std.specs.List.{AllByRecursion}
use Rattle.mote_net.specs.Meaning.{net_of}
use Rattle.net_agenda.specs.NetSystem.{tree_at}
use Rattle.program_tree.specs.Program.{tree_of}
use Rattle.worker_window.specs.Events.{is_one_of}
use Rattle.worker_window.specs.Share.{mote_here}
use Rattle.worker_window.specs.Worker.{CanMoteGoOn, MayEnd}
use Rattle.worker_window.specs.declared.own.OwnWindow.{OwnWindow}
use Rattle.worker_window.proofs.Numbers.{among_all, read_among}
use Rattle.worker_window.proofs.Workers.{all_over, ends_before, go_on_after, over_more, tree_is}
use Rattle.worker_window.proofs.worker.poll_each.Goals.{then-left, else-left}
use Rattle.worker_window.proofs.worker.poll_each.Goals as goal

pub loop-number-preserved : goal.loop-number-preserved
loop-number-preserved g c =
    let n = net_of c.args.net.now in
    let until = c.args.until in
    let called = c.args.called.now in
    let inv = c.loop-number.invariant in
    let now = c.loop-number.motes.items in
    let i = c.loop-number.number-index in
    let k = c.from.result in
    let old = c.index_mut-mote.result.now in
    let new = c.poll_mote.new.mote in
    let is = c.index_mut-mote.ensures.value in
    let t = tree_of c.program.result.now in
    let among : is_one_of k called ≡ true = ap (λ j. is_one_of j called) c.from.ensures ∙ read_among called i _ c.loop-number-test.true in
    let there : k < length n.motes = among_all (λ j. j < length n.motes) called k c.requires.are_called.there among in
    let low : k < length now = omega (arith, there, inv.places, c.requires.are_called.places) in
    let tree : tree_at n k ≡ t = ap (tree_at n) c.from.ensures ∙ tree_is n _ _ c.program.ensures.tree in
    record {
      places = length-set now k new ∙ inv.places;
      same = λ ended h. inv.same ended
          (ends_before n until called now k among old new is low (λ (e : Option OwnWindow). subst (λ p. MayEnd p until new e → MayEnd p until old e) (sym tree) (c.in-Ok.ensures.same e)) ended h);
      go_on = λ all. go_on_after n until called now k among old new is low (subst (λ p. CanMoteGoOn p until old → CanMoteGoOn p until new) (sym tree) c.in-Ok.ensures.go_on) (inv.go_on all);
      over = λ e.
          let parts : (c.loop-number.left ≡ false) × (c.in-Ok.turned ≡ false) = elim c.if-left.branch [ then-left w ↦ absurd (false≢true (sym e ∙ (w.left-is ∙ w.if-left.true))) | else-left w ↦ (w.if-left.false, sym w.left-is ∙ e) ] in
          let turned = parts.1 in
          let P : ℕ → Type 0 = λ j. MayEnd (tree_at n j) until (mote_here (set now k new) j) (mote_here (set now k new) j) in
          subst (AllByRecursion P) (sym (take_more called i _ c.loop-number-test.true))
          (subst (λ j. AllByRecursion P (take i called ++ j ∷ [])) c.from.ensures
          (over_more n until called now k among old new is low (take i called) (inv.over parts.0) (subst (λ p. MayEnd p until new new) (sym tree) (c.in-Ok.ensures.over cc))));
      kept = λ fact h. c.poll_mote.ensures.kept fact (inv.kept fact h);
    }

pub returns-clause-over : goal.returns-clause-over
returns-clause-over g c = λ e.
    let n = net_of c.args.net.now in
    let left : c.loop-number.left ≡ false = cc in
    let motes = c.loop-number.motes.items in
    all_over n c.args.until c.args.called.now motes
    (subst (AllByRecursion (λ j. MayEnd (tree_at n j) c.args.until (mote_here motes j) (mote_here motes j))) (take_all c.loop-number.number-index c.args.called.now c.loop-number-test.false) (c.loop-number.invariant.over left))

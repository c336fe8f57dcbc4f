-- The possible results of a worker, before and after polls.
use Rattle.std.proofs.Common.{◌≡◌, ◌∙◌, ℕ, ◌<◌, true, unwrap_or, List, [], ◌∷◌, ◌++◌, Vec, Result, Ok, Err, length, get_or, set, Option, Some, None, refl, ap, sym, subst, inl, inr, option_map, slice_get}
use Rattle.std.proofs.lemmas.Bool.{cases_eq, false≢true}
use Rattle.std.proofs.lemmas.List.{length-set}
use Rattle.std.specs.List.{AllByRecursion}
use Rattle.mote_net.specs.Net.{MoteSetup, NetModel}
use Rattle.mote_node.specs.declared.mote.MoteError.{MoteError}
use Rattle.net_agenda.specs.NetSystem.{no_mote, tree_at}
use Rattle.program_tree.specs.Code.{Tree}
use Rattle.window_laws.proofs.Lists.{every_append, every_weaker}
use Rattle.worker_window.specs.Events.{is_one_of}
use Rattle.worker_window.specs.Out.{out_of}
use Rattle.worker_window.specs.Own.{window_in, IsFinished}
use Rattle.worker_window.specs.Share.{mote_here}
use Rattle.worker_window.specs.Turns.{CanGoOn, IsFirstTurn, MayGive}
use Rattle.worker_window.specs.Worker.{CanAllGoOn, CanMoteGoOn, MayEnd, MayEndAs, WorkerMayAnswer}
use Rattle.worker_window.specs.declared.own.OwnWindow.{OwnWindow}
use Rattle.std.specs.declared.alloc.Global.{Global}
use Rattle.worker_window.proofs.Polls.{before_turn, goes_on, own_gives}
use Rattle.worker_window.proofs.Numbers.{among_all}
use Rattle.worker_window.proofs.Places.{at_place, put_else, put_here}

-- the program that the net has for a mote
pub tree_is : (n : NetModel) (k : ℕ) (t : Tree) → option_map (λ (m : MoteSetup). m.tree) (slice_get n.motes k) ≡ Some t → tree_at n k ≡ t
tree_is n k t e = go (slice_get n.motes k) e
  where
    go : (o : Option MoteSetup) → option_map (λ (m : MoteSetup). m.tree) o ≡ Some t → (unwrap_or o no_mote).tree ≡ t
    go None e = cc
    go (Some m) e = cc

module _ (n : NetModel) (until : ℕ) (called : List ℕ) (motes : List (Option OwnWindow)) (k : ℕ) (among : is_one_of k called ≡ true) (old new : Option OwnWindow) (is : old ≡ get_or motes k old) (low : k < length motes) where
  here : mote_here motes k ≡ old
  here = at_place motes k old None is low

  -- one mote was polled
  pub ends_before : ((e : Option OwnWindow) → MayEnd (tree_at n k) until new e → MayEnd (tree_at n k) until old e) → (ended : List (Option OwnWindow)) → MayEndAs n until called (set motes k new) ended → MayEndAs n until called motes ended
  ends_before less ended ends = record {
    places = ends.places ∙ length-set motes k new;
    each = λ j m. elim (cases_eq j k) [
      | inl e ↦ subst (λ i. MayEnd (tree_at n i) until (mote_here motes i) (mote_here ended i)) (sym e)
          (subst (λ m. MayEnd (tree_at n k) until m (mote_here ended k)) (sym here)
          (less (mote_here ended k) (subst (λ m. MayEnd (tree_at n k) until m (mote_here ended k)) (put_here motes k new None low) (ends.each k among))))
      | inr ne ↦ subst (λ m. MayEnd (tree_at n j) until m (mote_here ended j)) (put_else motes k j new None ne) (ends.each j m)
    ];
    others = λ j m. ends.others j m ∙ put_else motes k j new None (λ e. false≢true (sym m ∙ (ap (λ i. is_one_of i called) e ∙ among)));
  }

  pub go_on_after : (CanMoteGoOn (tree_at n k) until old → CanMoteGoOn (tree_at n k) until new) → CanAllGoOn n until motes → CanAllGoOn n until (set motes k new)
  go_on_after on all j = elim (cases_eq j k) [
    | inl e ↦ subst (λ i. CanMoteGoOn (tree_at n i) until (mote_here (set motes k new) i)) (sym e)
        (subst (CanMoteGoOn (tree_at n k) until) (sym (put_here motes k new None low)) (on (subst (CanMoteGoOn (tree_at n k) until) here (all k))))
    | inr ne ↦ subst (CanMoteGoOn (tree_at n j) until) (sym (put_else motes k j new None ne)) (all j)
  ]

  pub one_goes_on : CanAllGoOn n until motes → CanMoteGoOn (tree_at n k) until old
  one_goes_on all = subst (CanMoteGoOn (tree_at n k) until) here (all k)

  -- this mote is at the end of its window, as others were before
  pub over_more : (ks : List ℕ) → AllByRecursion (λ j. MayEnd (tree_at n j) until (mote_here motes j) (mote_here motes j)) ks → MayEnd (tree_at n k) until new new
      → AllByRecursion (λ j. MayEnd (tree_at n j) until (mote_here (set motes k new) j) (mote_here (set motes k new) j)) (ks ++ k ∷ [])
  over_more ks all over =
      every_append _ ks (k ∷ []) (every_weaker _ _ (λ j h. elim (cases_eq j k) [
        | inl e ↦ subst (λ i. MayEnd (tree_at n i) until (mote_here (set motes k new) i) (mote_here (set motes k new) i)) (sym e) here_over
        | inr ne ↦ subst (λ m. MayEnd (tree_at n j) until m m) (sym (put_else motes k j new None ne)) h
      ]) ks all) (here_over, tt)
    where
      here_over : MayEnd (tree_at n k) until (mote_here (set motes k new) k) (mote_here (set motes k new) k)
      here_over = subst (λ m. MayEnd (tree_at n k) until m m) (sym (put_here motes k new None low)) over

pub all_over : (n : NetModel) (until : ℕ) (called : List ℕ) (motes : List (Option OwnWindow)) → AllByRecursion (λ k. MayEnd (tree_at n k) until (mote_here motes k) (mote_here motes k)) called → MayEndAs n until called motes motes
all_over n until called motes over = record {
  places = refl;
  each = λ k m. among_all (λ k. MayEnd (tree_at n k) until (mote_here motes k) (mote_here motes k)) called k over m;
  others = λ k m. refl;
}

pub answers_less : (n : NetModel) (until : ℕ) (called : List ℕ) (old new : List (Option OwnWindow)) → ((ended : List (Option OwnWindow)) → MayEndAs n until called new ended → MayEndAs n until called old ended)
    → (CanAllGoOn n until old → CanAllGoOn n until new) → (r : Result (Vec (Option OwnWindow) Global) MoteError) → WorkerMayAnswer n until called new r → WorkerMayAnswer n until called old r
answers_less n until called old new less on (Ok ended) h = less ended.items h
answers_less n until called old new less on (Err e) h = λ all. h (on all)

-- one mote, before a turn
module _ (p : Tree) (until : ℕ) (old : Option OwnWindow) (own new : OwnWindow) (is : Some own ≡ old) (first : IsFirstTurn (window_in p until own) (window_in p until new)) where
  pub end_before : new.pending ≡ own.pending → (e : Option OwnWindow) → MayEnd p until (Some new) e → MayEnd p until old e
  end_before pending None h = absurd h
  end_before pending (Some z) h = subst (λ (o : Option OwnWindow). MayEnd p until o (Some z)) is (h.0 ∙ pending, before_turn p until (Some own) own new refl first (Ok (out_of z)) h.1)

  pub goes_after : CanMoteGoOn p until old → CanGoOn (window_in p until new)
  goes_after on = goes_on p until (Some own) (Some new) first (subst (CanMoteGoOn p until) (sym is) on)

-- a mote without a turn left
pub over_now : (p : Tree) (until : ℕ) (own new : OwnWindow) → new ≡ own → IsFinished p until own → MayEnd p until (Some new) (Some new)
over_now p until own new same finished = (refl, subst (λ (o : OwnWindow). MayGive p until (Some o) (out_of o)) (sym same) (own_gives p until own finished))

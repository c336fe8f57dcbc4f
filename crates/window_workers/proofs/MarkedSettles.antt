-- At the end, all items that were pushed are taken, and the inboxes are settled.
use Rattle.std.proofs.Common.{◌≡◌, ◌≢◌, ◌⊎◌, ℕ, ◌<◌, ◌≤◌, false, List, [], ◌∷◌, ◌++◌, length, drop, refl, sym, ap, ◌∙◌, subst, inl, inr, arith, append-nil, Option, Some, None}
use Rattle.std.proofs.Math.Seq.{drop-length}
use Rattle.std.proofs.lemmas.Bool.{cases_eq, cases_lt, false≢true}
use Rattle.std.specs.List.{slice_get, AllByRecursion as Each}
use Rattle.copy_exchange.proofs.Early.{copies_pushes}
use Rattle.copy_exchange.proofs.Parts.{from}
use Rattle.copy_exchange.proofs.Windows.{none_left}
use Rattle.copy_exchange.specs.Crossed.{is_own}
use Rattle.copy_exchange.specs.Endpoints.{AreOpen, pushed_list}
use Rattle.copy_exchange.specs.Pushes.{pushes, marks_in}
use Rattle.copy_exchange.specs.Takers.{copies_gathered, copies_in, IsOrderly}
use Rattle.copy_inbox.specs.Gathered.{is_gathered, untaken_of, Whole}
use Rattle.copy_inbox.specs.Handles.{TakerView, SenderView, after_gather, AllGathered, PacketsLeft}
use Rattle.copy_inbox.specs.Items.{copies_of, Packets, part, HasPrefix, OfMade}
use Rattle.copy_inbox.specs.declared.items.Item.{Item}
use Rattle.copy_inbox.specs.declared.rule.Gathered.{Gathered}
use Rattle.copy_inbox.specs.declared.rule.TakerState.{TakerState}
use Rattle.mote_net.specs.Net.{NetModel}
use Rattle.window_laws.proofs.Lists.{every_weaker}
use Rattle.window_workers.specs.MarkedSenders.{AreSenders}
use Rattle.window_workers.specs.WorkerGroup.{IsCut}
use Rattle.window_workers.proofs.MarkedAll.{AllRan}
use Rattle.copy_exchange.proofs.Gathers.{copies_by, OneOf, as_gathered, joined, with_joined, all_gathered, orderly_then}
use Rattle.copy_exchange.proofs.Whole.{all_is_taken}
use Rattle.window_workers.proofs.Lookups.{each_at, each_from}
use Rattle.window_workers.proofs.MarkedLists.{none_before}
use Rattle.window_workers.proofs.MarkedPairs.{sent_to, none_sent, not_other, Pair, pair}
use Rattle.window_workers.proofs.MarkedSeen.{nobodys}

-- ---- the senders on one inbox
module _ (n : NetModel) (owners : List ℕ) (width windows workers : ℕ) (all : AllRan n owners width windows workers) (u : ℕ) (lu : u < workers) where
  -- the worker that owns the sender
  record Owner (a : SenderView) : Type 0 where
    worker : ℕ
    there : worker < workers
    other : worker ≢ u
    at : all.sender u worker ≡ Some a
    pushed : a.state.pushed ≡ pushes windows (sent_to n owners width windows workers all worker u)

  owner : (j : ℕ) (a : SenderView) → slice_get (all.senders u) j ≡ Some a → Owner a
  owner j a e =
      let w = (all.are_senders u lu).worker_of j a e in
      record {
        worker = w.0;
        there = w.1;
        other = w.2;
        at = w.3;
        pushed = sym (ap pushed_list w.3) ∙ (all.ran w.0 w.1).pushes_then u lu (λ same. w.2 (sym same));
      }

  -- all items that one worker of a pair pushed to the other were taken
  pub pair_taken : (v : ℕ) (lv : v < workers) (ne : v ≢ u) → part (pair n owners width windows workers all u v lu lv ne).number (all.taken u) ≡ pushes windows (sent_to n owners width windows workers all v u)
  pair_taken v lv ne =
      let p = pair n owners width windows workers all u v lu lv ne in
      let ran = all.ran u lu in
      all_is_taken windows (sent_to n owners width windows workers all v u) (part p.number (all.taken u)) p.begins
      (subst (λ l. windows ≤ marks_in (part p.number l)) ran.all (ran.marks_lead windows (omega arith) p.number p.was_made))

  pub all_taken : Each (λ (a : SenderView). part a.state.number (all.taken u) ≡ a.state.pushed) (all.senders u)
  all_taken = each_from _ (all.senders u) (λ j a e.
      let o = owner j a e in
      ap (λ i. part i (all.taken u)) ((pair n owners width windows workers all u o.worker lu o.there o.other).only a o.at) ∙ (pair_taken o.worker o.there o.other ∙ sym o.pushed))

  none_of_owner : (s : ℕ) (a : SenderView) (o : Owner a) → is_own owners o.worker s ≡ false → from s (copies_by a) ≡ []
  none_of_owner s a o other =
      ap (λ l. from s (copies_in l)) o.pushed
      ∙ (ap (from s) (copies_pushes windows (sent_to n owners width windows workers all o.worker u))
      ∙ none_before s (sent_to n owners width windows workers all o.worker u) windows (λ j low. none_sent n owners width windows workers all o.worker u s j o.there low other))

  nobody_one : (s : ℕ) → ((v : ℕ) → v < workers → v ≢ u → is_own owners v s ≡ false) → OneOf s (all.senders u)
  nobody_one s none = record {
    number = 0;
    each = each_from _ (all.senders u) (λ j a e. let o = owner j a e in inr (none_of_owner s a o (none o.worker o.there o.other)));
  }

  pub one : IsCut (length n.motes) workers owners → (s : ℕ) → OneOf s (all.senders u)
  one cut s = of_case (slice_get owners s) refl
    where
      of_other : (v : ℕ) → slice_get owners s ≡ Some v → v ≢ u → OneOf s (all.senders u)
      of_other v e ne =
          let lv = each_at (λ w. w < workers) owners s v cut.there e in
          let p : Pair n owners width windows workers all u v = pair n owners width windows workers all u v lu lv ne in
          record {
            number = p.number;
            each = each_from _ (all.senders u) (λ j a f. by_owner p a (owner j a f));
          }
        where
          by_owner : (p : Pair n owners width windows workers all u v) (a : SenderView) → Owner a → (a.state.number ≡ p.number) ⊎ (from s (copies_by a) ≡ [])
          by_owner p a o = of_same (cases_eq v o.worker)
            where
              of_same : (v ≡ o.worker) ⊎ (v ≡ o.worker → ⊥) → (a.state.number ≡ p.number) ⊎ (from s (copies_by a) ≡ [])
              of_same (inl same) = inl (p.only a (subst (λ w. all.sender u w ≡ Some a) (sym same) o.at))
              of_same (inr else_) = inr (none_of_owner s a o (not_other owners v o.worker s e else_))

      of_worker : (v : ℕ) → slice_get owners s ≡ Some v → (v ≡ u) ⊎ (v ≡ u → ⊥) → OneOf s (all.senders u)
      of_worker v e (inl same) = nobody_one s (λ w lw nw. not_other owners v w s e (λ q. nw (sym q ∙ same)))
      of_worker v e (inr ne) = of_other v e ne

      of_case : (o : Option ℕ) → slice_get owners s ≡ o → OneOf s (all.senders u)
      of_case None e = nobody_one s (λ w lw nw. nobodys owners w s e)
      of_case (Some v) e = of_worker v e (cases_eq v u)

-- ---- the taker of one inbox
-- a taker that has taken and gathered nothing, with any number of senders
abbrev before_all : TakerState → TakerState
before_all d = record d { taken = []; gathered = [] }

orderly_before : (d : TakerState) → IsOrderly (before_all d)
orderly_before d = record {
  in_order = λ rest is s. ap (λ l. from s (copies_of l)) (none_left rest (λ k. is.1 k refl));
  begun = tt;
  unseen = λ s e. refl;
  apart = tt;
  later = λ v low e. tt;
  numbers = tt;
}

joined_each : (P : Gathered → Type 0) (made : ℕ) (ss : List SenderView) (gs : List Gathered) → Each (λ (a : SenderView). P (as_gathered made a)) ss → Each P gs → Each P (joined made ss gs)
joined_each P made [] gs h k = k
joined_each P made (a ∷ ss) gs h k = joined_each P made ss (as_gathered made a ∷ gs) h.1 (h.0, k)

module _ (workers worker : ℕ) (sender : ℕ → Option SenderView) (d : TakerState) (ss : List SenderView) (are : AreSenders workers worker sender d.made ss) (of_made : OfMade d.made d.taken)
    (begun : Each (λ (a : SenderView). HasPrefix a.state.pushed (part a.state.number d.taken)) ss) (whole : Each (λ (a : SenderView). part a.state.number d.taken ≡ a.state.pushed) ss) (one : (s : ℕ) → OneOf s ss) where
  abbrev then : TakerState
  then = with_joined ss (record d { gathered = [] })

  are_open : AreOpen ss (before_all d)
  are_open = record {
    first = 0;
    numbered = are.numbered;
    made = (let made = are.made_is in omega arith);
    older = λ i low. absurd (omega arith);
    newer = λ i low. refl;
  }

  pub gathered_all : AllGathered then
  gathered_all = all_gathered ss (before_all d) (orderly_before d) tt are_open one

  pub whole_then : Whole then.gathered then.taken
  whole_then = joined_each (λ g. part g.number d.taken ≡ g.pushed) d.made ss [] whole tt

  -- nothing is left, so no mark is left
  pub no_mark : PacketsLeft then
  no_mark = joined_each (λ g. Packets (untaken_of d.taken g)) d.made ss [] (every_weaker (λ (a : SenderView). part a.state.number d.taken ≡ a.state.pushed) (λ a. Packets (untaken_of d.taken (as_gathered d.made a))) nothing_left ss whole) tt
    where
      nothing_left : (a : SenderView) → part a.state.number d.taken ≡ a.state.pushed → Packets (untaken_of d.taken (as_gathered d.made a))
      nothing_left a e = subst (λ l. Packets (drop (length l) a.state.pushed)) (sym e) (subst Packets (sym (drop-length a.state.pushed)) tt)

  no_others : (s : ℕ) → is_gathered then.gathered s ≡ false → part s d.taken ≡ []
  no_others s e = of_case (cases_lt s d.made)
    where
      of_case : (s < d.made) ⊎ (d.made ≤ s) → part s d.taken ≡ []
      of_case (inl low) = absurd (false≢true (sym e ∙ gathered_all s low))
      of_case (inr high) = of_made s high

  -- a taker that gathered all senders without taking anything
  gathered_first : IsOrderly (with_joined ss (before_all d))
  gathered_first = orderly_then ss (before_all d) (orderly_before d) tt are_open one

  pub orderly : IsOrderly then
  orderly = record {
    in_order = λ rest is s. gathered_first.in_order (d.taken ++ rest) (is.0, λ k e. is.1 k e ∙ no_others k e) s;
    begun = joined_each (λ g. HasPrefix g.pushed (part g.number d.taken)) d.made ss [] begun tt;
    unseen = no_others;
    apart = gathered_first.apart;
    later = gathered_first.later;
    numbers = gathered_first.numbers;
  }

  -- for each mote, the copies gathered are those taken
  pub same_of_each : (s : ℕ) → from s (copies_of d.taken) ≡ from s (copies_gathered then.gathered)
  same_of_each s =
      ap (λ l. from s (copies_of l)) (sym (append-nil d.taken))
      ∙ orderly.in_order [] (subst (λ l. Whole then.gathered l) (sym (append-nil d.taken)) whole_then, λ k e. ap (part k) (append-nil d.taken)) s

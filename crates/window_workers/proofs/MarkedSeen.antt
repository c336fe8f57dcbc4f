-- The copies that a window sees among those that had been taken: the copies that were sent before it, and none that
-- arrived early.
use Rattle.std.proofs.Common.{◌≡◌, ◌≢◌, ℕ, suc, ◌+◌, ◌-◌, ◌<◌, ◌≤◌, Bool, true, false, ◌&&◌, ltb, eqb, List, [], length, refl, sym, ap, ◌∙◌, subst, arith, Option, Some, None}
use Rattle.std.proofs.lemmas.Bool.{le-ltb, false≢true}
use Rattle.std.specs.List.{filter, slice_get, AllByRecursion as Each}
use Rattle.std.specs.Option.{option_map_or}
use Rattle.copy_exchange.proofs.Early.{early_is_unseen}
use Rattle.copy_exchange.proofs.Parts.{from}
use Rattle.copy_exchange.specs.Crossed.{is_own, is_to}
use Rattle.copy_exchange.specs.Pushes.{sent_before}
use Rattle.copy_exchange.specs.Takers.{copies_in}
use Rattle.copy_inbox.specs.Items.{copies_of, part}
use Rattle.mote_net.specs.Net.{NetModel}
use Rattle.radio_packet.specs.declared.copy.RadioCopy.{RadioCopy}
use Rattle.window_laws.proofs.Lists.{filter_filter, every_filter}
use Rattle.window_laws.specs.Windows.{is_from_sender, is_within}
use Rattle.window_workers.specs.MarkedBounds.{bound, AreWindows}
use Rattle.window_workers.specs.WorkerGroup.{IsCut}
use Rattle.window_workers.proofs.MarkedAll.{AllRan}
use Rattle.window_workers.proofs.Lookups.{each_at}
use Rattle.window_workers.proofs.Step.{own_by}
use Rattle.window_workers.proofs.MarkedBounds.{no_sooner}
use Rattle.window_workers.proofs.MarkedLists.{none_before, only_before}
use Rattle.window_workers.proofs.MarkedPairs.{sent_to, none_sent, not_other, pair, front, copies_from, copies_none}

-- a mote that doesn't exist belongs to no worker
pub nobodys : (owners : List ℕ) (w s : ℕ) → slice_get owners s ≡ None → is_own owners w s ≡ false
nobodys owners w s e = ap (λ o. option_map_or (λ x. eqb x w) o false) e

too_late : (a b : Bool) (at until : ℕ) → until ≤ at → (a && (b && ltb at until)) ≡ false
too_late a b at until h = let e = le-ltb at until h in rw e (never a b)
  where
    never : (a b : Bool) → (a && (b && false)) ≡ false
    never true true = refl
    never true false = refl
    never false b = refl

module _ (n : NetModel) (owners : List ℕ) (width windows workers : ℕ) (all : AllRan n owners width windows workers) (cut : IsCut (length n.motes) workers owners) (are : AreWindows width n.end windows) where
  -- all copies that were sent to a worker before a window
  abbrev pub sent_so_far : (u k : ℕ) → List RadioCopy
  sent_so_far u k = sent_before workers (λ v. sent_before k (sent_to n owners width windows workers all v u))

  pub of_worker : (u k s v : ℕ) → k ≤ windows → v < workers → slice_get owners s ≡ Some v → from s (sent_so_far u k) ≡ from s (sent_before k (sent_to n owners width windows workers all v u))
  of_worker u k s v le lv e =
      only_before s (λ w. sent_before k (sent_to n owners width windows workers all w u)) workers v lv (λ w lw ne.
      none_before s (sent_to n owners width windows workers all w u) k (λ j low. none_sent n owners width windows workers all w u s j lw (omega arith) (not_other owners v w s e (λ q. ne (sym q)))))

  pub of_nobody : (u k s : ℕ) → k ≤ windows → slice_get owners s ≡ None → from s (sent_so_far u k) ≡ []
  of_nobody u k s le e =
      none_before s (λ w. sent_before k (sent_to n owners width windows workers all w u)) workers (λ w lw.
      none_before s (sent_to n owners width windows workers all w u) k (λ j low. none_sent n owners width windows workers all w u s j lw (omega arith) (nobodys owners w s e)))

  -- the copies that window k sees for a mote
  abbrev pub sees : (k mote : ℕ) → RadioCopy → Bool
  sees k mote = is_within mote (bound width n.end k) (bound width n.end (suc k))

  unseen : (k mote v u : ℕ) → v < workers → (j : ℕ) → k ≤ j → j < windows → Each (λ c. sees k mote c ≡ false) (sent_to n owners width windows workers all v u j)
  unseen k mote v u lv j ge low =
      let e : k + (j - k) ≡ j = omega arith in
      let later = subst (λ i. bound width n.end (suc k) ≤ bound width n.end (suc i)) e (no_sooner width n.end windows are k (j - k) (omega arith)) in
      every_filter (λ (c : RadioCopy). bound width n.end (suc j) ≤ c.at) (λ c. sees k mote c ≡ false) (is_to owners u)
      (λ c late to. too_late _ _ c.at (bound width n.end (suc k)) (at_least _ _ c.at later late)) ((all.histories v).outgoing j) ((all.ran v lv).runs j low).late
    where
      at_least : (a b c : ℕ) → a ≤ b → b ≤ c → a ≤ c
      at_least a b c h k = omega arith

  pub seen : (u : ℕ) → u < workers → (k : ℕ) → k < windows → (mote s : ℕ) → is_own owners u s ≡ false
      → filter (sees k mote) (from s (copies_of ((all.histories u).taken k))) ≡ filter (sees k mote) (from s (sent_so_far u k))
  seen u lu k low mote s other = of_case (slice_get owners s) refl
    where
      le : k ≤ windows
      le = omega arith

      of_case : (o : Option ℕ) → slice_get owners s ≡ o → filter (sees k mote) (from s (copies_of ((all.histories u).taken k))) ≡ filter (sees k mote) (from s (sent_so_far u k))
      of_case None e = ap (filter (sees k mote)) (copies_none n owners width windows workers all u lu k le s (λ v lv nv. nobodys owners v s e) ∙ sym (of_nobody u k s le e))
      of_case (Some v) e =
          let lv = each_at (λ w. w < workers) owners s v cut.there e in
          let ne : v ≢ u = λ same. false≢true (sym other ∙ own_by owners u s (e ∙ ap Some same)) in
          let p = pair n owners width windows workers all u v lu lv ne in
          let had = part p.number ((all.histories u).taken k) in
          ap (filter (sees k mote)) (copies_from n owners width windows workers all u lu k le s v lv ne e)
          ∙ (filter_filter (sees k mote) (is_from_sender s) (copies_in had)
          ∙ (ap (from s) (early_is_unseen (sees k mote) windows k (sent_to n owners width windows workers all v u) had le (front n owners width windows workers all u lu k le v lv ne)
          ((all.ran u lu).marks_lead k le p.number p.was_made) (unseen k mote v u lv))
          ∙ (filter_filter (is_from_sender s) (sees k mote) (sent_before k (sent_to n owners width windows workers all v u))
          ∙ ap (filter (sees k mote)) (sym (of_worker u k s v le lv e)))))

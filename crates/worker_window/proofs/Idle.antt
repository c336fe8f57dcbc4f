-- A share is also valid at later moments, up to its first pending event.
use Rattle.std.proofs.Common.{◌≡◌, ℕ, ◌≤◌, Bool, true, not, ◌&&◌, ◌||◌, ltb, eqb, List, [], refl, sym, ap, ◌∙◌, subst, arith, Option, Some, None}
use Rattle.std.proofs.lemmas.Bool.{and_parts, eqb-true, le-ltb}
use Rattle.std.proofs.lemmas.Bool.Decides.{nat_tests}
use Rattle.std.specs.List.{filter, AllByRecursion}
use Rattle.copy_exchange.specs.Crossed.{is_own, copies_seen}
use Rattle.mote_net.specs.Net.{NetModel}
use Rattle.net_agenda.specs.NetSystem.{system_of}
use Rattle.radio_packet.specs.declared.copy.RadioCopy.{RadioCopy}
use Rattle.window_laws.proofs.Lists.{any_every, every_weaker, every_filter, filter_both, filter_every}
use Rattle.window_laws.specs.Agenda.{Item, moment_of, mote_of, comes_at, packets, wake_items, IsLeast}
use Rattle.window_laws.specs.Windows.{NoneBefore, is_from_sender}
use Rattle.worker_window.specs.Share.{Motes, IsWholeShare, is_to_come}
use Rattle.worker_window.specs.declared.share.Share.{Share}
use Rattle.worker_window.proofs.NoTurnIsPast.{past_later}
use Rattle.worker_window.proofs.Items.{inside, all_wakes, wake_of_all, packets_of_all}
use Rattle.worker_window.proofs.Parts.{still_later}

-- the tests as statements about numbers
later_or_now : (t m u k : ℕ) → (ltb t u || (eqb u t && not (ltb k m))) ≡ true → t ≤ u
later_or_now t m u k h = grind (arith, nat_tests)

wakes_later : (moment k : ℕ) (wake : Option ℕ) → AllByRecursion (λ item. moment ≤ moment_of item) (wake_items k wake) → NoneBefore moment wake
wakes_later moment k None h = tt
wakes_later moment k (Some t) h = h.0

module _ (n : NetModel) (owners : List ℕ) (worker from : ℕ) (motes : Motes) (taken : List RadioCopy) (share : Share) (keeps : IsWholeShare n owners worker from motes taken share) where
  abbrev pub own : ℕ → Bool
  own = is_own owners worker

  abbrev pub items : List Item
  items = keeps.agenda.items

  pub none_sooner : AllByRecursion (λ item. from ≤ moment_of item) items
  none_sooner = every_weaker _ _ (λ item h. h.1) items (inside n own from motes taken share.agenda.buckets keeps.agenda)

  pub first_from : (t m : ℕ) → IsLeast t m items → from ≤ t
  first_from t m least = any_every _ (comes_at t m) _ (λ item e h. let f = eqb-true (moment_of item) t (and_parts (eqb (moment_of item) t) (eqb (mote_of item) m) e).0 in omega arith) items least.is_there none_sooner

  wake_then : (moment k : ℕ) → own k ≡ true → AllByRecursion (λ item. moment ≤ moment_of item) items → NoneBefore moment (motes k).wake
  wake_then moment k mine h =
      wakes_later moment k (motes k).wake
      (subst (AllByRecursion (λ item. moment ≤ moment_of item)) (keeps.agenda.wakes k ∙ (all_wakes own from motes keeps.quiet k ∙ rw mine refl)) (wake_of_all (λ item. moment ≤ moment_of item) items k h))

  copies_then : (moment s : ℕ) → from ≤ moment → AllByRecursion (λ item. moment ≤ moment_of item) items
      → filter (is_from_sender s) (packets items) ≡ filter (is_to_come own moment) (copies_seen (system_of n) own motes taken s)
  copies_then moment s le h =
      sym (filter_every (λ c. not (ltb c.at moment)) (filter (is_from_sender s) (packets items))
      (every_filter _ _ (is_from_sender s) (λ c g e. ap not (le-ltb c.at moment g)) (packets items) (packets_of_all (λ item. moment ≤ moment_of item) items h)))
      ∙ (ap (filter (λ c. not (ltb c.at moment))) (keeps.agenda.copies s)
      ∙ filter_both (λ c. not (ltb c.at moment)) (is_to_come own from) (is_to_come own moment) (λ c. still_later (own c.to) c.at from moment le) (copies_seen (system_of n) own motes taken s))

  pub moved_on : (moment : ℕ) → from ≤ moment → AllByRecursion (λ item. moment ≤ moment_of item) items → IsWholeShare n owners worker moment motes taken share
  moved_on moment le h = record {
    is_worker = keeps.is_worker;
    places = keeps.places;
    numbers = keeps.numbers;
    rests = keeps.rests;
    elsewhere = keeps.elsewhere;
    wakes = keeps.wakes;
    quiet = λ k mine. wake_then moment k mine h;
    turned_before = λ k mine. past_later from moment le (motes k).state.last (keeps.turned_before k mine);
    log = keeps.log;
    fates = keeps.fates;
    agenda = record {
      items = items;
      holds = keeps.agenda.holds;
      wakes = λ k. keeps.agenda.wakes k ∙ (all_wakes own from motes keeps.quiet k ∙ sym (all_wakes own moment motes (λ j mine. wake_then moment j mine h) k));
      copies = λ s. copies_then moment s le h;
    };
  }

  pub least_later : (t m moment : ℕ) → IsLeast t m items → moment ≤ t → AllByRecursion (λ item. moment ≤ moment_of item) items
  least_later t m moment least h = every_weaker _ _ (λ item e. let g = later_or_now t m (moment_of item) (mote_of item) e in omega arith) items least.is_first

  pub empty_later : (moment : ℕ) → items ≡ [] → AllByRecursion (λ item. moment ≤ moment_of item) items
  empty_later moment e = subst (AllByRecursion (λ item. moment ≤ moment_of item)) (sym e) tt

  -- no copy arrives before the moment
  pub no_copies : (moment : ℕ) → AllByRecursion (λ item. moment ≤ moment_of item) items
      → (s : ℕ) → AllByRecursion (λ copy. moment ≤ copy.at) (filter (is_to_come own from) (copies_seen (system_of n) own motes taken s))
  no_copies moment later s =
      subst (AllByRecursion (λ copy. moment ≤ copy.at)) (keeps.agenda.copies s)
      (every_filter _ _ (is_from_sender s) (λ c g e. g) (packets items) (packets_of_all (λ item. moment ≤ moment_of item) items later))

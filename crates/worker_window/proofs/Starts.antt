-- The motes run through their windows: they have their copies, and then the results of their windows.
use Rattle.std.proofs.Common.{◌≡◌, ℕ, ◌<◌, ◌≤◌, Bool, true, false, not, ◌&&◌, ltb, eqb, List, [], ◌∷◌, ◌++◌, length, map, refl, sym, ap, ◌∙◌, subst, inl, inr, arith, append-nil, zero-le, IsSome, Option, Some, None}
use Rattle.std.proofs.lemmas.Bool.{cases_Bool, and_parts, eqb-true, false≢true}
use Rattle.std.specs.List.{filter, list_any, AllByRecursion}
use Rattle.std.specs.Prelude.{IsSomeAnd}
use Rattle.copy_exchange.specs.Crossed.{is_own, IsExpected}
use Rattle.mote_net.specs.Net.{NetModel}
use Rattle.mote_node.specs.Public.{node_in}
use Rattle.mote_node.specs.Turn.{Node, wake_of}
use Rattle.net_agenda.specs.Buckets.{HoldsItems}
use Rattle.net_agenda.specs.NetSystem.{tree_at, system_of}
use Rattle.program_tree.specs.Code.{Tree}
use Rattle.radio_packet.specs.declared.copy.RadioCopy.{RadioCopy}
use Rattle.trace_lines.specs.declared.line.Line.{Line}
use Rattle.window_laws.proofs.Lists.{any_every, every_weaker, every_append, every_map}
use Rattle.window_laws.specs.Agenda.{Item, Packet, moment_of, mote_of}
use Rattle.window_laws.specs.Windows.{LoneMote, is_sent_by, NoneBefore, IsQuiet}
use Rattle.worker_window.specs.Events.{CanTakeEvents, IsSameMote, TakesCopiesFor, TakesEventsBefore, calls_for, held_copies, is_called, is_one_of}
use Rattle.worker_window.specs.Log.{HaveFates, packets_in}
use Rattle.worker_window.specs.Out.{out_of}
use Rattle.worker_window.specs.Own.{KeepsMote}
use Rattle.worker_window.specs.Share.{Motes, HoldsMote, IsBetweenWindows, IsWholeShare, mote_here}
use Rattle.worker_window.specs.Window.{CanRun, outgoing_by}
use Rattle.worker_window.specs.Worker.{AreCalled, CanAllGoOn, CanMoteGoOn, MayEnd, MayEndAs}
use Rattle.worker_window.specs.declared.own.OwnWindow.{OwnWindow}
use Rattle.worker_window.specs.declared.share.Share.{Share}
use Rattle.worker_window.proofs.Ends.{not_before}
use Rattle.worker_window.proofs.Begins.{own_there}
use Rattle.worker_window.proofs.NoTurnIsPast.{past_later}
use Rattle.worker_window.proofs.Gives.{IsBack, back, gives_open, goes_open}
use Rattle.worker_window.proofs.Given.{still_none}
use Rattle.worker_window.proofs.Numbers.{all_among}
use Rattle.worker_window.proofs.Items.{inside}
use Rattle.worker_window.proofs.Lone.{quiet_alike}
use Rattle.worker_window.proofs.Parts.{items, all_in, window_copies, window_copies_from, alike, idle_alone, quiet_else, here_parts, later, later_wakes, later_copies}
use Rattle.worker_window.proofs.Resting.{HasRun, IsFitOwn, Resting}

-- a property of the mote of each item is a property of each mote that is called
called_in : (P : ℕ → Type 0) (until k : ℕ) (items : List Item) → AllByRecursion (λ item. P (mote_of item)) items → list_any (calls_for until k) items ≡ true → P k
called_in P until k items all e =
    any_every (P k) (calls_for until k) _ (λ item f h. subst P (eqb-true (mote_of item) k (and_parts (ltb (moment_of item) until) (eqb (mote_of item) k) f).1) h) items e all

-- a window with more copies is still a window of its mote
kept_holds : (tree : Tree) (mote : LoneMote Node Line) (old new : OwnWindow) → HoldsMote tree mote old → KeepsMote old new → HoldsMote tree mote new
kept_holds tree mote old new holds kept = record {
  node = ap (node_in tree) kept.mote ∙ holds.node;
  wake = kept.wake ∙ holds.wake;
  pending = kept.pending ∙ holds.pending;
  next = kept.next ∙ holds.next;
  lines = ap (λ l. l.items) kept.lines ∙ holds.lines;
  sends = ap (λ l. l.items) kept.sends ∙ holds.sends;
}

from_0 : (wake : Option ℕ) → NoneBefore 0 wake
from_0 None = tt
from_0 (Some t) = zero-le

all_from_0 : (xs : List RadioCopy) → AllByRecursion (λ c. 0 ≤ c.at) xs
all_from_0 [] = tt
all_from_0 (x ∷ xs) = (zero-le, all_from_0 xs)

-- the motes of a share take their copies
module _ (n : NetModel) (owners : List ℕ) (until : ℕ) (share : Share) (arrived : List RadioCopy) (ready : CanRun n owners until share arrived)
    (to_own : AllByRecursion (λ copy. is_own owners share.worker copy.to ≡ true) arrived) (long : length owners ≡ length n.motes) where
  abbrev own : ℕ → Bool
  own = is_own owners ready.worker

  same_own : (k : ℕ) → own k ≡ is_own owners share.worker k
  same_own k = ap (λ w. is_own owners w k) (sym ready.keeps.is_worker)

  some_rest : (tree : Tree) (mote : LoneMote Node Line) (o : Option OwnWindow) → IsSomeAnd o (IsBetweenWindows tree mote) → IsSome o
  some_rest tree mote None h = absurd h
  some_rest tree mote (Some x) h = refl

  no_copies : (tree : Tree) (mote : LoneMote Node Line) (o : Option OwnWindow) → IsSomeAnd o (IsBetweenWindows tree mote) → held_copies o ≡ []
  no_copies tree mote None h = refl
  no_copies tree mote (Some x) h = h.no_copies

  not_called : (tree : Tree) (mote : LoneMote Node Line) (o : Option OwnWindow) → IsSomeAnd o (IsBetweenWindows tree mote) → is_called o ≡ false
  not_called tree mote None h = refl
  not_called tree mote (Some x) h = h.not_called

  abbrev base : List Item
  base = ready.keeps.agenda.items ++ map Packet arrived

  base_own : AllByRecursion (λ item. own (mote_of item) ≡ true) base
  base_own =
      every_append _ ready.keeps.agenda.items (map Packet arrived)
      (every_weaker _ _ (λ item h. h.0) ready.keeps.agenda.items (inside n own ready.from ready.motes ready.taken share.agenda.buckets ready.keeps.agenda))
      (every_map _ Packet arrived (every_weaker _ _ (λ c h. same_own c.to ∙ h) arrived to_own))

  pub can_take : (buckets : _) → HoldsItems buckets base → CanTakeEvents buckets share.motes.items
  can_take buckets holds = record {
    items = base;
    holds = holds;
    there = every_weaker (λ item. own (mote_of item) ≡ true) _ (λ item h. some_rest (tree_at n (mote_of item)) (ready.motes (mote_of item)) (mote_here share.motes.items (mote_of item)) (ready.keeps.rests (mote_of item) h)) base base_own;
    none = λ k. elim (cases_Bool (own k)) [
      | inl h ↦ no_copies (tree_at n k) (ready.motes k) (mote_here share.motes.items k) (ready.keeps.rests k h)
      | inr e ↦ ap held_copies (ready.keeps.elsewhere k e)
    ];
    not_called = λ k. elim (cases_Bool (own k)) [
      | inl h ↦ not_called (tree_at n k) (ready.motes k) (mote_here share.motes.items k) (ready.keeps.rests k h)
      | inr e ↦ ap is_called (ready.keeps.elsewhere k e)
    ];
  }

  module _ (called : List ℕ) (taken : List (Option OwnWindow)) (takes : TakesEventsBefore until base share.motes.items taken called) where
    called_own : (k : ℕ) → is_one_of k called ≡ true → own k ≡ true
    called_own k e = called_in (λ j. own j ≡ true) until k base base_own (sym (takes.calls k) ∙ e)

    own_in_net : (k : ℕ) → own k ≡ true → k < length n.motes
    own_in_net k h = let a = own_there owners ready.worker k h in omega arith

    pub are_called : AreCalled n called taken
    are_called = record { places = takes.places ∙ ready.keeps.places; there = all_among (λ k. k < length n.motes) called (λ k e. own_in_net k (called_own k e)) }

    one_fits : (k : ℕ) → own k ≡ true → (a b c : Option OwnWindow) → IsSomeAnd a (IsBetweenWindows (tree_at n k) (ready.motes k)) → IsSameMote a b → MayEnd (tree_at n k) until b c → IsSomeAnd c (IsFitOwn n owners share.worker until k)
    one_fits k h None b c rests kept ends = absurd rests
    one_fits k h (Some x) None c rests kept ends = absurd kept
    one_fits k h (Some x) (Some y) None rests kept ends = absurd ends
    one_fits k h (Some x) (Some y) (Some z) rests kept ends =
        let there : k < length n.motes = own_in_net k h in
        let keeps = ready.keeps in
        let b : IsBack n own 0 until ready.motes (λ _. y.copies.items) k (out_of z) =
        back n 0 until own ready.motes (λ _. y.copies.items) k h there (keeps.numbers k h) (keeps.wakes k h) (from_0 (ready.motes k).wake) (all_from_0 y.copies.items) (past_later ready.from until ready.order (ready.motes k).state.last (keeps.turned_before k h))
        y.copies.items (λ t. refl) (out_of z) (gives_open n until k (ready.motes k) y (out_of z) (keeps.wakes k h) (kept_holds (tree_at n k) (ready.motes k) x y rests.holds kept) ends.1) in
        record { mine = sym (same_own k) ∙ h; there = there; sent = b.sent }

    -- after their windows, the packets of the called motes are in bounds
    pub fit_after : (ended : List (Option OwnWindow)) → MayEndAs n until called taken ended → (k : ℕ) → is_one_of k called ≡ true → IsSomeAnd (mote_here ended k) (IsFitOwn n owners share.worker until k)
    fit_after ended ends k among = let h = called_own k among in one_fits k h (mote_here share.motes.items k) (mote_here taken k) (mote_here ended k) (ready.keeps.rests k h) (takes.same k) (ends.each k among)

-- the motes of a whole share run through a window
module _ (n : NetModel) (owners : List ℕ) (worker from until : ℕ) (motes : Motes) (taken arrived : List RadioCopy) (old : Share) (keeps : IsWholeShare n owners worker from motes taken old)
    (le : from ≤ until) (come : AllByRecursion (IsExpected owners worker from) arrived) (long : length owners ≡ length n.motes) (now : List (Option OwnWindow)) (called : List ℕ)
    (takes : TakesEventsBefore until (items n owners worker from until motes taken arrived old keeps le come) old.motes.items now called) where
  abbrev mine : ℕ → Bool
  mine = is_own owners worker

  abbrev all_items : List Item
  all_items = items n owners worker from until motes taken arrived old keeps le come

  abbrev pub boxes : ℕ → List RadioCopy
  boxes = window_copies n owners worker from until motes taken arrived old keeps le come

  one_goes_on : (k : ℕ) → mine k ≡ true → (a b : Option OwnWindow) → IsSomeAnd a (IsBetweenWindows (tree_at n k) (motes k)) → IsSameMote a b → TakesCopiesFor until all_items k (held_copies b) → CanMoteGoOn (tree_at n k) until b
  one_goes_on k h None b rests kept copies = absurd rests
  one_goes_on k h (Some x) None rests kept copies = absurd kept
  one_goes_on k h (Some x) (Some y) rests kept copies =
      let same = alike n owners worker from until motes taken arrived old keeps le come k y.copies.items copies in
      let wake = wake_of (motes k).state in
      let quiet : IsQuiet from wake y.copies.items =
      quiet_alike (system_of n) k until from wake (boxes k) y.copies.items (λ t. sym (same t)) (record { no_wake = subst (NoneBefore from) (keeps.wakes k h) (keeps.quiet k h); no_copies = window_copies_from n owners worker from until motes taken arrived old keeps le come k }) in
      goes_open n until k (motes k) y (keeps.wakes k h) (kept_holds (tree_at n k) (motes k) x y rests.holds kept)
      (λ moment next. past_later from moment (not_before from moment wake y.copies.items quiet next.comes) (motes k).state.last (keeps.turned_before k h))

  none_goes_on : (tree : Tree) (o : Option OwnWindow) → o ≡ None → CanMoteGoOn tree until o
  none_goes_on tree None e = tt
  none_goes_on tree (Some x) e = absurd (no e)
    where
      no : Some x ≡ None → ⊥
      no e = cc

  pub go_on : CanAllGoOn n until now
  go_on k = elim (cases_Bool (mine k)) [
    | inl h ↦ one_goes_on k h (mote_here old.motes.items k) (mote_here now k) (keeps.rests k h) (takes.same k) (takes.copies k)
    | inr e ↦ none_goes_on (tree_at n k) (mote_here now k) (still_none (mote_here old.motes.items k) (mote_here now k) (keeps.elsewhere k e) (takes.same k))
  ]

  one_back : (k : ℕ) → mine k ≡ true → (a b c : Option OwnWindow) → IsSomeAnd a (IsBetweenWindows (tree_at n k) (motes k)) → IsSameMote a b → TakesCopiesFor until all_items k (held_copies b) → MayEnd (tree_at n k) until b c
      → HasRun n owners worker from until motes boxes k c
  one_back k h None b c rests kept copies ends = absurd rests
  one_back k h (Some x) None c rests kept copies ends = absurd kept
  one_back k h (Some x) (Some y) None rests kept copies ends = absurd ends
  one_back k h (Some x) (Some y) (Some z) rests kept copies ends =
      let there : k < length n.motes = (let a = own_there owners worker k h in omega arith) in (
        ends.0 ∙ (kept.pending ∙ rests.holds.pending),
        back n from until mine motes boxes k h there (keeps.numbers k h) (keeps.wakes k h) (keeps.quiet k h) (window_copies_from n owners worker from until motes taken arrived old keeps le come k)
            (past_later from until le (motes k).state.last (keeps.turned_before k h)) y.copies.items (alike n owners worker from until motes taken arrived old keeps le come k y.copies.items copies) (out_of z)
            (gives_open n until k (motes k) y (out_of z) (keeps.wakes k h) (kept_holds (tree_at n k) (motes k) x y rests.holds kept) ends.1),
      )

  -- a called mote is a mote of the worker
  called_mine : (k : ℕ) → is_one_of k called ≡ true → mine k ≡ true
  called_mine k e =
      called_in (λ k. mine k ≡ true) until k all_items (every_weaker _ _ (λ item h. h.0) all_items (all_in n owners worker from until motes taken arrived old keeps le come)) (sym (takes.calls k) ∙ e)

  abbrev here : ℕ → Bool
  here k = mine k && not (is_one_of k called)

  parts : (k : ℕ) → here k ≡ true → (mine k ≡ true) × (list_any (calls_for until k) all_items ≡ false)
  parts k h = here_parts n owners worker from until motes taken arrived old keeps le come called takes.calls k h

  starts_empty : (share : Share) → MayEndAs n until called now share.motes.items → share.worker ≡ old.worker → share.log.items ≡ old.log.items
      → HoldsItems share.agenda.buckets (later n owners worker from until motes taken arrived old keeps le come) → Resting n owners worker from until motes (taken ++ arrived) boxes called share []
  starts_empty share ends is_worker log holds = record {
    different = takes.different;
    now = motes;
    backs = λ k e. (let h = called_mine k e in one_back k h (mote_here old.motes.items k) (mote_here now k) (mote_here share.motes.items k) (keeps.rests k h) (takes.same k) (takes.copies k) (ends.each k e));
    in_state = record {
      is_worker = is_worker ∙ keeps.is_worker;
      places = ends.places ∙ (takes.places ∙ keeps.places);
      numbers = λ k h. keeps.numbers k (parts k h).0;
      rests = λ k h. subst (λ (o : Option OwnWindow). IsSomeAnd o (IsBetweenWindows (tree_at n k) (motes k))) (sym (unchanged k (not_one k h))) (keeps.rests k (parts k h).0);
      elsewhere = λ k e. unchanged k (not_called k e) ∙ keeps.elsewhere k e;
      wakes = λ k h. keeps.wakes k (parts k h).0;
      quiet = λ k h. quiet_else n owners worker from until motes taken arrived old keeps le come k (parts k h).0 (parts k h).1;
      turned_before = λ k h. past_later from until le (motes k).state.last (keeps.turned_before k (parts k h).0);
      log = λ s. ap (λ lines. filter (is_sent_by s) (packets_in lines)) log ∙ keeps.log s;
      fates = subst (HaveFates n.radio) (sym log) keeps.fates;
      agenda = record {
        items = later n owners worker from until motes taken arrived old keeps le come;
        holds = holds;
        wakes = later_wakes n owners worker from until motes taken arrived old keeps le come;
        copies = later_copies n owners worker from until motes taken arrived old keeps le come;
      };
    };
    waits = λ k e. refl;
    others = λ k e. refl;
    alone = λ k h e. idle_alone n owners worker from until motes taken arrived old keeps le come k h (sym (takes.calls k) ∙ e);
    sent = λ s. sym (append-nil (outgoing_by n mine motes s));
    late = tt;
  }
    where
      unchanged : (k : ℕ) → is_one_of k called ≡ false → mote_here share.motes.items k ≡ mote_here old.motes.items k
      unchanged k e = ends.others k e ∙ takes.others k e

      not_one : (k : ℕ) → here k ≡ true → is_one_of k called ≡ false
      not_one k h = takes.calls k ∙ (parts k h).1

      not_called : (k : ℕ) → mine k ≡ false → is_one_of k called ≡ false
      not_called k e = elim (cases_Bool (is_one_of k called)) [ inl f ↦ absurd (false≢true (sym e ∙ called_mine k f)) | inr f ↦ f ]

  pub starts : (share : Share) (outgoing : List RadioCopy) → outgoing ≡ [] → MayEndAs n until called now share.motes.items → share.worker ≡ old.worker → share.log.items ≡ old.log.items
      → HoldsItems share.agenda.buckets (later n owners worker from until motes taken arrived old keeps le come) → Resting n owners worker from until motes (taken ++ arrived) boxes called share outgoing
  starts share outgoing none ends is_worker log holds =
      subst (λ l. Resting n owners worker from until motes (taken ++ arrived) boxes called share l) (sym none) (starts_empty share ends is_worker log holds)

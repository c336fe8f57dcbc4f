-- The window of a worker: its motes have run, and come to rest one after another.
use Rattle.std.proofs.Common.{◌≡◌, ℕ, ◌+◌, ◌<◌, ◌≤◌, ◌^◌, Bool, true, false, not, ◌&&◌, List, [], ◌∷◌, ◌++◌, length, refl, sym, ap, ◌∙◌, subst, inl, inr, arith, append_assoc, Option, Some, None}
use Rattle.std.proofs.Math.Bool.{and-true}
use Rattle.std.proofs.lemmas.Bool.{cases_eq, false≢true, not-true}
use Rattle.std.proofs.lemmas.List.Elements.{filter-append}
use Rattle.std.specs.List.{filter, flat_map, AllByRecursion}
use Rattle.copy_exchange.specs.Crossed.{is_own, copies_seen, is_for_others}
use Rattle.mote_net.specs.Net.{NetModel}
use Rattle.net_agenda.specs.NetSystem.{system_of}
use Rattle.radio_medium.proofs.Copies.{copies_later}
use Rattle.radio_medium.specs.Medium.{copies}
use Rattle.radio_packet.specs.declared.copy.RadioCopy.{RadioCopy}
use Rattle.window_laws.proofs.Lists.{every_append, every_weaker, every_filter, every_flat_map}
use Rattle.window_laws.specs.Windows.{Alone, is_at, is_within, is_from_sender}
use Rattle.worker_window.specs.Events.{is_one_of, are_different}
use Rattle.worker_window.specs.Out.{out_of}
use Rattle.worker_window.specs.Resting.{ComesToRest, HasSent}
use Rattle.worker_window.specs.Share.{Motes, IsShare, mote_here}
use Rattle.worker_window.specs.Window.{IsOutgoing, RunsWindow, outgoing_by}
use Rattle.worker_window.specs.declared.own.OwnWindow.{OwnWindow}
use Rattle.worker_window.specs.declared.share.Share.{Share}
use Rattle.std.specs.Prelude.{Vec, IfSome, IsSomeAnd}
use Rattle.std.specs.declared.alloc.Global.{Global}
use Rattle.worker_window.proofs.Numbers.{front_different, last_among, among_else, not_last, still_among}
use Rattle.worker_window.proofs.Places.{put_else}
use Rattle.worker_window.proofs.Gives.{IsSentIn, IsBack, come_late}
use Rattle.worker_window.proofs.Back.{next, at_k, elsewhere, out_more, is_back}

-- the packets of a mote of this worker, after its window
pub record IsFitOwn (n : NetModel) (owners : List ℕ) (worker until number : ℕ) (own : OwnWindow) : Type 0 where
  pub mine : is_own owners worker number ≡ true
  pub there : number < length n.motes
  pub sent : AllByRecursion (IsSentIn number 0 until) own.sends.items

pub fits : (n : NetModel) (owners : List ℕ) (worker until motes number : ℕ) (own : OwnWindow) → IsFitOwn n owners worker until number own → motes ≡ length n.motes → until ≤ 2 ^ 40 → HasSent motes own
fits n owners worker until motes number own fit e early =
    every_weaker _ _ (λ x g. (let a = g.sender in let b = fit.there in omega arith, let c = g.soon in le_chain x.at until (2 ^ 40) c early)) own.sends.items fit.sent
  where
    le_chain : (a b c : ℕ) → a < b → b ≤ c → a ≤ c
    le_chain a b c h k = omega arith

pub go_out : (n : NetModel) (owners : List ℕ) (worker until number : ℕ) (own : OwnWindow) → length n.radio.places ≡ length n.motes → IsFitOwn n owners worker until number own
    → AllByRecursion (IsOutgoing n owners worker) (filter (is_for_others (is_own owners worker)) (flat_map (copies n.radio) own.sends.items))
go_out n owners worker until number own placed fit =
    every_filter _ _ (is_for_others (is_own owners worker)) (λ c h e. record { sender = ap (is_own owners worker) h.0 ∙ fit.mine; to = not-true (is_own owners worker c.to) e; there = h.1 }) (flat_map (copies n.radio) own.sends.items)
    (every_flat_map (λ c. (c.sender ≡ number) × (c.to < length n.motes)) (copies n.radio) own.sends.items
    (every_weaker _ _ (λ x g. every_weaker _ _ (λ c i. (i.sender ∙ g.sender, let t = i.there in omega (arith, placed))) (copies n.radio x) (copies_later n.radio x)) own.sends.items fit.sent))

-- a mote that is there, and what is known of it
pub record IsHere (P Q : OwnWindow → Type 0) (mote : Option OwnWindow) : Type 0 where
  pub own : OwnWindow
  pub is : mote ≡ Some own
  pub fit : P own
  pub done : Q own

pub is_here : (P Q : OwnWindow → Type 0) (mote : Option OwnWindow) → IsSomeAnd mote P → IfSome mote Q → IsHere P Q mote
is_here P Q None h g = absurd h
is_here P Q (Some own) h g = record { own = own; is = refl; fit = h; done = g }

pub some_weaker : (P Q : OwnWindow → Type 0) → ((own : OwnWindow) → P own → Q own) → (mote : Option OwnWindow) → IsSomeAnd mote P → IsSomeAnd mote Q
some_weaker P Q f None h = absurd h
some_weaker P Q f (Some own) h = f own h

-- a mote that has run through its window, and isn't at rest yet
abbrev pub HasRun : (n : NetModel) (owners : List ℕ) (worker from until : ℕ) (motes : Motes) (window_copies : ℕ → List RadioCopy) (k : ℕ) → Option OwnWindow → Type 0
HasRun n owners worker from until motes window_copies k mote =
    IsSomeAnd mote (λ own. (own.pending ≡ (motes k).wake) × IsBack n (is_own owners worker) from until motes window_copies k (out_of own))

-- the called motes have run; these of them aren't at rest yet
pub record Resting (n : NetModel) (owners : List ℕ) (worker from until : ℕ) (motes : Motes) (taken : List RadioCopy) (window_copies : ℕ → List RadioCopy) (rest : List ℕ) (share : Share) (outgoing : List RadioCopy) : Type 0 where
  pub different : are_different rest ≡ true
  pub now : Motes
  pub backs : (k : ℕ) → is_one_of k rest ≡ true → HasRun n owners worker from until motes window_copies k (mote_here share.motes.items k)
  pub in_state : IsShare n owners worker (λ j. is_own owners worker j && not (is_one_of j rest)) until now taken share
  pub waits : (k : ℕ) → is_one_of k rest ≡ true → now k ≡ motes k
  pub others : (k : ℕ) → is_own owners worker k ≡ false → now k ≡ motes k
  pub alone : (k : ℕ) → is_own owners worker k ≡ true → is_one_of k rest ≡ false → Alone (system_of n) k until (window_copies k) (motes k) (now k)
  pub sent : (s : ℕ) → outgoing_by n (is_own owners worker) now s ≡ outgoing_by n (is_own owners worker) motes s ++ filter (is_from_sender s) outgoing
  pub late : AllByRecursion (λ (copy : RadioCopy). until ≤ copy.at) outgoing

module _ (n : NetModel) (owners : List ℕ) (worker from until : ℕ) (motes : Motes) (taken : List RadioCopy) (window_copies : ℕ → List RadioCopy) where
  abbrev mine : ℕ → Bool
  mine = is_own owners worker

  abbrev State : List ℕ → Share → List RadioCopy → Type 0
  State rest share outgoing = Resting n owners worker from until motes taken window_copies rest share outgoing

  module _ (placed : length n.radio.places ≡ length n.motes) (short : until ≤ from + (system_of n).lookahead) (rest front : List ℕ) (k : ℕ) (popped : rest ≡ front ++ k ∷ []) (old share : Share) (before after : List RadioCopy)
      (state : State rest old before) (own : OwnWindow) (is : mote_here old.motes.items k ≡ Some own) (rested : ComesToRest n.radio owners until k own old share before after) where
    d : (are_different front ≡ true) × (is_one_of k front ≡ false)
    d = front_different rest front k popped state.different

    other : (j : ℕ) → (j ≡ k → ⊥) → is_one_of j rest ≡ is_one_of j front
    other = among_else rest front k popped state.different

    other_than : (j : ℕ) → is_one_of j front ≡ true → j ≡ k → ⊥
    other_than = not_last rest front k popped state.different

    still : (j : ℕ) → is_one_of j front ≡ true → is_one_of j rest ≡ true
    still = still_among rest front k popped state.different

    among_k : is_one_of k rest ≡ true
    among_k = last_among rest front k popped state.different

    run : (own.pending ≡ (motes k).wake) × IsBack n mine from until motes window_copies k (out_of own)
    run = subst (λ (o : Option OwnWindow). HasRun n owners worker from until motes window_copies k o) is (state.backs k among_k)

    waited : state.now k ≡ motes k
    waited = state.waits k among_k

    abbrev after_it : Motes
    after_it = next n owners worker from until motes state.now taken window_copies placed short front k d.1 own run.1 waited

    else_same : (j : ℕ) → (j ≡ k → ⊥) → after_it j ≡ state.now j
    else_same j ne = elsewhere n owners worker from until motes state.now taken window_copies placed short front k d.1 own run.1 waited j ne

    mote_else : (j : ℕ) → (j ≡ k → ⊥) → mote_here share.motes.items j ≡ mote_here old.motes.items j
    mote_else j ne = ap (λ l. mote_here l j) rested.motes ∙ put_else old.motes.items k j (Some rested.rested) None ne

    in_state_then : IsShare n owners worker (λ j. mine j && not (is_one_of j (front ++ k ∷ []))) until state.now taken old
    in_state_then = subst (λ ks. IsShare n owners worker (λ j. mine j && not (is_one_of j ks)) until state.now taken old) popped state.in_state

    alone_then : (j : ℕ) → mine j ≡ true → is_one_of j front ≡ false → Alone (system_of n) j until (window_copies j) (motes j) (after_it j)
    alone_then j h e =
        elim (cases_eq j k) [
          | inl f ↦ subst (λ i. Alone (system_of n) i until (window_copies i) (motes i) (after_it i)) (sym f)
              (subst (λ m. Alone (system_of n) k until (window_copies k) (motes k) m) (sym (at_k n owners worker from until motes state.now taken window_copies placed short front k d.1 own run.1 waited)) run.1.alone)
          | inr ne ↦ subst (λ m. Alone (system_of n) j until (window_copies j) (motes j) m) (sym (else_same j ne)) (state.alone j h (other j ne ∙ e))
        ]

    abbrev away : List RadioCopy
    away = filter (is_for_others mine) (flat_map (copies n.radio) own.sends.items)

    away_is : after ≡ before ++ away
    away_is = rested.outgoing ∙ ap (λ w. before ++ filter (is_for_others (is_own owners w)) (flat_map (copies n.radio) own.sends.items)) state.in_state.is_worker

    sent_then : (s : ℕ) → outgoing_by n mine after_it s ≡ outgoing_by n mine motes s ++ filter (is_from_sender s) after
    sent_then s =
        out_more n owners worker from until motes state.now taken window_copies placed short front k d.1 own run.1 waited s
        ∙ (ap (λ x. x ++ filter (is_from_sender s) away) (state.sent s)
        ∙ (append_assoc (outgoing_by n mine motes s) (filter (is_from_sender s) before) (filter (is_from_sender s) away)
        ∙ ap (λ x. outgoing_by n mine motes s ++ x) (sym (ap (filter (is_from_sender s)) away_is ∙ filter-append (is_from_sender s) before away))))

    late_then : AllByRecursion (λ (copy : RadioCopy). until ≤ copy.at) after
    late_then =
        subst (AllByRecursion (λ (copy : RadioCopy). until ≤ copy.at)) (sym away_is)
        (every_append _ before _ state.late
        (every_filter _ _ (is_for_others mine) (λ copy h e. h.late) (flat_map (copies n.radio) own.sends.items) (come_late n from until placed short k own.sends.items run.1.sent)))

    pub one_rests : State front share after
    one_rests = record {
      different = d.0;
      now = after_it;
      backs = λ j e. subst (λ (o : Option OwnWindow). HasRun n owners worker from until motes window_copies j o) (sym (mote_else j (other_than j e))) (state.backs j (still j e));
      in_state = is_back n owners worker from until motes state.now taken window_copies placed short front k d.1 own run.1 waited run.0 old share in_state_then before after rested;
      waits = λ j e. else_same j (other_than j e) ∙ state.waits j (still j e);
      others = λ j e. else_same j (λ f. false≢true (sym e ∙ (ap mine f ∙ run.1.mine))) ∙ state.others j e;
      alone = alone_then;
      sent = sent_then;
      late = late_then;
    }

  -- all motes are at rest
  pub all_rest : (rest : List ℕ) (share : Share) (outgoing : List RadioCopy) → rest ≡ [] → State rest share outgoing
      → ((k : ℕ) → mine k ≡ true → (t s : ℕ) → filter (is_from_sender s) (filter (is_at t) (window_copies k)) ≡ filter (is_at t) (filter (is_within k from until) (copies_seen (system_of n) mine motes taken s)))
      → (called : Vec ℕ Global) → RunsWindow n owners worker from until motes taken (record share { called = called }) outgoing
  all_rest rest share outgoing none state given_to called = record {
    next = state.now;
    runs = λ k h. record { given = window_copies k; is_given = given_to k h; alone = state.alone k h (ap (is_one_of k) none) };
    others = state.others;
    keeps = record {
      is_worker = s.is_worker;
      places = s.places;
      numbers = λ k h. s.numbers k (present k h);
      rests = λ k h. s.rests k (present k h);
      elsewhere = s.elsewhere;
      wakes = λ k h. s.wakes k (present k h);
      quiet = λ k h. s.quiet k (present k h);
      turned_before = λ k h. s.turned_before k (present k h);
      log = s.log;
      fates = s.fates;
      agenda = s.agenda;
    };
    out = state.sent;
    late = state.late;
  }
    where
      s : IsShare n owners worker (λ j. mine j && not (is_one_of j rest)) until state.now taken share
      s = state.in_state

      present : (k : ℕ) → mine k ≡ true → (mine k && not (is_one_of k rest)) ≡ true
      present k h = ap (λ ks. mine k && not (is_one_of k ks)) none ∙ (and-true (mine k) ∙ h)

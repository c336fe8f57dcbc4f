-- The result of a mote in its window, as part of the net.
use Rattle.std.proofs.Common.{◌≡◌, ℕ, ◌+◌, ◌<◌, ◌≤◌, Bool, true, false, List, [], ◌∷◌, ◌++◌, length, map, drop, refl, sym, ap, ◌∙◌, subst, arith, append-nil, Option, Some, None, option_map}
use Rattle.std.specs.List.{flat_map, AllByRecursion}
use Rattle.std.specs.Prelude.{MatchOption}
use Rattle.mote_laws.proofs.Stamps.{turns_stamp}
use Rattle.mote_net.specs.Net.{NetModel}
use Rattle.mote_node.proofs.WakeLaws.{wakes_later}
use Rattle.mote_node.specs.Public.{node_in}
use Rattle.mote_node.specs.Turn.{Node, is_past, wake_of}
use Rattle.net_agenda.specs.Buckets.{arrival_of}
use Rattle.net_agenda.specs.NetSystem.{tree_at, system_of, node_turn}
use Rattle.radio_medium.proofs.Copies.{copies_later}
use Rattle.radio_medium.specs.Medium.{copies, lookahead}
use Rattle.radio_packet.specs.declared.copy.RadioCopy.{RadioCopy}
use Rattle.radio_packet.specs.declared.sent.Sent.{Sent}
use Rattle.trace_lines.specs.declared.line.Line.{Line}
use Rattle.window_laws.proofs.Lists.{every_append, every_weaker, every_flat_map}
use Rattle.window_laws.specs.Forward.{IsLater}
use Rattle.window_laws.specs.NetStep.{stamped}
use Rattle.window_laws.specs.Windows.{LoneMote, NoneBefore, lone_turn, IsQuiet, Alone}
use Rattle.worker_window.specs.Laws.{IsAhead}
use Rattle.worker_window.specs.MoteWindow.{Window, lone_node, node_number}
use Rattle.worker_window.specs.Out.{Gives}
use Rattle.worker_window.specs.Own.{window_in, course_in, window_over, GivesNoMore}
use Rattle.worker_window.specs.Share.{Motes, HoldsMote}
use Rattle.worker_window.specs.Turns.{MayGive, CanGoOn}
use Rattle.worker_window.specs.declared.out.WindowOut.{WindowOut}
use Rattle.worker_window.specs.declared.own.OwnWindow.{OwnWindow}
use Rattle.net_agenda.proofs.Systems.{turn_wakes}
use Rattle.worker_window.proofs.NoTurnIsPast.{turn_before}
use Rattle.worker_window.proofs.Lone.{in_front, alone_in_front, alone_alike, alone_keeps, rests_quiet, IsAlike}

-- a packet that this mote sent in the window
pub record IsSentIn (k from until : ℕ) (sent : Sent) : Type 0 where
  pub sender : sent.sender ≡ k
  pub later : from ≤ sent.at
  pub soon : sent.at < until

-- a mote that has returned from its window, in which it ran by itself
pub record IsBack (n : NetModel) (own : ℕ → Bool) (from until : ℕ) (motes : Motes) (window_copies : ℕ → List RadioCopy) (k : ℕ) (out : WindowOut) : Type 0 where
  pub mine : own k ≡ true
  pub there : k < length n.motes
  pub last : LoneMote Node Line
  pub alone : Alone (system_of n) k until (window_copies k) (motes k) last
  pub node : node_in (tree_at n k) out.mote ≡ Some last.state
  pub wake : out.wake ≡ last.wake
  pub lines : last.lines ≡ out.lines.items
  pub sends : last.sends ≡ (motes k).sends ++ out.sends.items
  pub number_is : node_number last.state ≡ k
  pub wakes : last.wake ≡ wake_of last.state
  pub quiet : NoneBefore until last.wake
  pub turned_before : is_past until last.state.last ≡ false
  pub sent : AllByRecursion (IsSentIn k from until) out.sends.items

-- the mote in the result of a window
pub record IsFirstFault (o : Option Node) (out : WindowOut) (last : LoneMote Node Line) : Type 0 where
  pub node : o ≡ Some last.state
  pub wake : out.wake ≡ last.wake
  pub lines : out.lines.items ≡ last.lines
  pub sends : out.sends.items ≡ last.sends

pub reported_equals : (o : Option Node) (out : WindowOut) (last : LoneMote Node Line)
    → option_map (λ (x : Node). record { state = x; wake = out.wake; lines = out.lines.items; sends = out.sends.items }) o ≡ Some last → IsFirstFault o out last
reported_equals None out last e = cc
reported_equals (Some x) out last e =
    let f : record { state = x; wake = out.wake; lines = out.lines.items; sends = out.sends.items } ≡ last = cc in record {
      node = ap (λ (m : LoneMote Node Line). Some m.state) f;
      wake = ap (λ (m : LoneMote Node Line). m.wake) f;
      lines = ap (λ (m : LoneMote Node Line). m.lines) f;
      sends = ap (λ (m : LoneMote Node Line). m.sends) f;
    }

-- the window that a mote has before its first turn in it
abbrev pub begun : NetModel → (until k : ℕ) → LoneMote Node Line → List RadioCopy → Window
begun n until k mote given = record { program = tree_at n k; until = until; copies = given; mote = lone_node mote.lines mote.state }

window_is : (n : NetModel) (until k : ℕ) (mote : LoneMote Node Line) (own : OwnWindow) → mote.wake ≡ wake_of mote.state → HoldsMote (tree_at n k) mote own
    → window_in (tree_at n k) until own ≡ Some (begun n until k mote own.copies.items)
unfolding window_in
window_is n until k mote own wakes holds =
    ap (λ (o : Option Node). option_map (window_over (tree_at n k) until (drop own.next own.copies.items) own.wake own.lines.items own.sends.items) o) holds.node
    ∙ (ap (λ i. Some (window_over (tree_at n k) until (drop i own.copies.items) own.wake own.lines.items own.sends.items mote.state)) holds.next
    ∙ (ap (λ w. Some (window_over (tree_at n k) until own.copies.items w own.lines.items own.sends.items mote.state)) (holds.wake ∙ wakes)
    ∙ (ap (λ l. Some (window_over (tree_at n k) until own.copies.items (wake_of mote.state) l own.sends.items mote.state)) holds.lines
    ∙ ap (λ s. Some (window_over (tree_at n k) until own.copies.items (wake_of mote.state) mote.lines s mote.state)) holds.sends)))

-- the result of a window of a mote of the net
pub gives_open : (n : NetModel) (until k : ℕ) (mote : LoneMote Node Line) (own : OwnWindow) (out : WindowOut) → mote.wake ≡ wake_of mote.state → HoldsMote (tree_at n k) mote own
    → MayGive (tree_at n k) until (Some own) out → Gives (begun n until k mote own.copies.items) out
gives_open n until k mote own out wakes holds gives =
    subst (λ (o : Option Window). MatchOption o (GivesNoMore (course_in (tree_at n k) until own) out) (λ w. Gives w out)) (window_is n until k mote own wakes holds) gives

-- the events of the mote are after its last turn
pub goes_open : (n : NetModel) (until k : ℕ) (mote : LoneMote Node Line) (own : OwnWindow) → mote.wake ≡ wake_of mote.state → HoldsMote (tree_at n k) mote own
    → IsAhead (begun n until k mote own.copies.items) → CanGoOn (window_in (tree_at n k) until own)
goes_open n until k mote own wakes holds ahead = subst CanGoOn (sym (window_is n until k mote own wakes holds)) ahead

module _ (n : NetModel) (from until : ℕ) where
  later : (mote : ℕ) (state : Node) (moment : ℕ) (given : List RadioCopy) → IsLater moment ((system_of n).turn mote state moment given).wake
  unfolding system_of
  later mote state moment given = wakes_later moment (map arrival_of given) state

  turn_is : (system_of n).turn ≡ node_turn
  unfolding system_of
  turn_is = refl

  number_kept : (k t : ℕ) (mote : LoneMote Node Line) (given : List RadioCopy) → node_number mote.state ≡ k → node_number (lone_turn (system_of n) t k mote given).state ≡ k
  unfolding system_of
  number_kept k t mote given e = (turns_stamp t (map arrival_of given) mote.state).mote ∙ e

  wake_kept : (k t : ℕ) (mote : LoneMote Node Line) (given : List RadioCopy) → (lone_turn (system_of n) t k mote given).wake ≡ wake_of (lone_turn (system_of n) t k mote given).state
  unfolding system_of
  wake_kept k t mote given = turn_wakes k mote.state t given

  stamps : (k t : ℕ) → from ≤ t → t < until → (sends : List Sent) → AllByRecursion (IsSentIn k from until) (map (stamped t k) sends)
  stamps k t h l [] = tt
  stamps k t h l (x ∷ sends) = (record { sender = refl; later = h; soon = l }, stamps k t h l sends)

  -- the result of a mote's window is a mote that has returned from its window
  module _ (own : ℕ → Bool) (motes : Motes) (window_copies : ℕ → List RadioCopy) (k : ℕ) (mine : own k ≡ true) (there : k < length n.motes) (numbered : node_number (motes k).state ≡ k)
      (wakes : (motes k).wake ≡ wake_of (motes k).state) (wakes_from : NoneBefore from (motes k).wake) (window_copies_from : AllByRecursion (λ c. from ≤ c.at) (window_copies k)) (before : is_past until (motes k).state.last ≡ false) where
    front_is : in_front [] (motes k).sends (lone_node (motes k).lines (motes k).state) ≡ motes k
    front_is =
        ap (λ (l : List Sent). record { state = (motes k).state; wake = wake_of (motes k).state; lines = (motes k).lines; sends = l }) (append-nil (motes k).sends)
        ∙ ap (λ (w : Option ℕ). record { state = (motes k).state; wake = w; lines = (motes k).lines; sends = (motes k).sends }) (sym wakes)

    module _ (given : List RadioCopy) (alike : IsAlike (system_of n) k until given (window_copies k)) (out : WindowOut) where
      quiet : IsQuiet from (lone_node (motes k).lines (motes k).state).wake (window_copies k)
      quiet = record { no_wake = subst (NoneBefore from) wakes wakes_from; no_copies = window_copies_from }

      pub back : Gives (record { program = tree_at n k; until = until; copies = given; mote = lone_node (motes k).lines (motes k).state }) out → IsBack n own from until motes window_copies k out
      back gives = record {
        mine = mine;
        there = there;
        last = in_front [] (motes k).sends gives.last;
        alone = subst (λ m. Alone (system_of n) k until (window_copies k) m (in_front [] (motes k).sends gives.last)) front_is (alone_in_front (system_of n) k until [] (motes k).sends alone);
        node = matches.node;
        wake = matches.wake;
        lines = sym matches.lines;
        sends = ap (λ l. (motes k).sends ++ l) (sym matches.sends);
        number_is = alone_keeps (system_of n) k until later from (λ m. node_number m.state ≡ k) (λ t m g h l e. number_kept k t m g e) quiet numbered alone;
        wakes = alone_keeps (system_of n) k until later from (λ m. m.wake ≡ wake_of m.state) (λ t m g h l e. wake_kept k t m g) quiet refl alone;
        quiet = rests_quiet (system_of n) k until alone;
        turned_before = alone_keeps (system_of n) k until later from (λ m. is_past until m.state.last ≡ false) (λ t m g h l e. turn_before n k t until m g l) quiet before alone;
        sent = subst (AllByRecursion (IsSentIn k from until)) (sym matches.sends)
            (alone_keeps (system_of n) k until later from (λ m. AllByRecursion (IsSentIn k from until) m.sends)
            (λ t m g h l e. every_append (IsSentIn k from until) m.sends _ e (stamps k t h l _)) quiet tt alone);
      }
        where
          matches : IsFirstFault (node_in (tree_at n k) out.mote) out gives.last
          matches = reported_equals (node_in (tree_at n k) out.mote) out gives.last gives.given

          alone : Alone (system_of n) k until (window_copies k) (lone_node (motes k).lines (motes k).state) gives.last
          alone = alone_alike (system_of n) k until (window_copies k) alike (subst (λ j. Alone (system_of n) j until given (lone_node (motes k).lines (motes k).state) gives.last) numbered (gives.run (system_of n) turn_is))

  -- the copies of the packets that a mote sent in the window arrive after it
  pub record ComesLate (k : ℕ) (copy : RadioCopy) : Type 0 where
    pub sender : copy.sender ≡ k
    pub late : until ≤ copy.at
    pub there : copy.to < length n.motes

  lookahead_is : (system_of n).lookahead ≡ lookahead n.radio n.end
  unfolding system_of
  lookahead_is = refl

  pub come_late : length n.radio.places ≡ length n.motes → until ≤ from + (system_of n).lookahead → (k : ℕ) (sends : List Sent) → AllByRecursion (IsSentIn k from until) sends
      → AllByRecursion (ComesLate k) (flat_map (copies n.radio) sends)
  come_late placed short k sends h =
      every_flat_map (ComesLate k) (copies n.radio) sends
      (every_weaker _ _ (λ sent g. every_weaker _ _ (λ copy i. record {
        sender = i.sender ∙ g.sender;
        late = (let a = i.later n.end in let b = g.later in let c = lookahead_is in omega arith);
        there = (let t = i.there in omega arith);
      }) (copies n.radio sent) (copies_later n.radio sent)) sends h)

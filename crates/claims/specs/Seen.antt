-- What is known of the events of an order once a line of a mote is decided: one event, which stands for all others.
-- No public contract cites this file.
use Rattle.std.specs.Prelude.{⊤, ◌≡◌, ℕ, Bool, true, false, ◌&&◌, ◌||◌, ◌==◌, not, nat_lt, nat_le, ◌+◌, List, [], ◌∷◌, Option, Some, None, if◌then◌else◌}
use Rattle.std.specs.List.{list_any, list_all}
use Rattle.mote_net.specs.Report.{ReportModel}
use Rattle.trace_lines.specs.declared.line.Line.{Line}
use Rattle.claims.specs.declared.trace.Found.{Found}
use Rattle.claims.specs.declared.trace.Watched.{Watched}
use Rattle.claims.specs.declared.order.Order.{Order}
use Rattle.claims.specs.declared.order.Relation.{Relation}
use Rattle.claims.specs.declared.order.Relation.TheVariants.{After, NotBefore, Within, Followed}
use Rattle.claims.specs.declared.seen.Seen.{Seen}
use Rattle.claims.specs.Orders.{is_related}
use Rattle.claims.specs.Traces.{trace_at, lines_of}
use Rattle.claims.specs.PerMote.{any_in}

-- b is a, or a later line of the same mote
abbrev pub is_followed : Found → Found → Bool
is_followed a b = a.mote == b.mote && (nat_le a.line.at b.line.at && nat_le a.place b.place)

-- the last moment of an event to which the line may have the relation
abbrev pub reach : Relation → Found → ℕ
reach After l = l.line.at
reach NotBefore l = l.line.at
reach (Within k) l = l.line.at
reach (Followed k) l = l.line.at + k

-- there is an event, and it passes the test
abbrev pub some_is : (Found → Bool) → Option Found → Bool
some_is q None = false
some_is q (Some e) = q e

-- if there is an event, it passes the test
abbrev pub each_is : (Found → Bool) → Option Found → Bool
each_is q None = true
each_is q (Some e) = q e

-- lines of the mote have the relation to a as long as to b
abbrev pub lasts : ℕ → Found → Found → Bool
lasts m b a = nat_lt b.line.at a.line.at || (b.line.at == a.line.at && (not (a.mote == m) || (b.mote == m && nat_le b.place a.place)))

-- of two events to which the line has the relation, the one that lasts longer
abbrev pub longer_of : ℕ → Found → Found → Found
longer_of m a b = if lasts m a b then b else a

-- the event that is known once the line has been compared with one more event
abbrev pub known_with : Relation → Found → Found → Option Found → Option Found
known_with r l e None = if is_related r l e then Some e else None
known_with r l e (Some k) = if is_related r l e then Some (longer_of l.mote k e) else Some k

-- the event that is known, if the line has the relation to it
abbrev pub still_known : Relation → Found → Option Found → Option Found
still_known r l None = None
still_known r l (Some k) = if is_related r l k then Some k else None

-- the line and a later one have the relation to an event from a moment on
abbrev pub is_shared_from : ℕ → Relation → Found → Found → Found → Bool
is_shared_from n r l b e = nat_le n e.line.at && (is_related r l e && is_related r b e)

-- An event stands for those before a moment: it is one of the events, the line has the relation to it, and each later
-- line has it if it and the line have the relation to some event before the moment.
pub record Stands (o : Order) (r : ReportModel) (l : Found) (p : Found → Bool) (known : Option Found) : Type 0 where
  pub event : (q : Found → Bool) → some_is q known ≡ true → list_any q (lines_of r o.event) ≡ true
  pub related : each_is (is_related o.relation l) known ≡ true
  pub all : (b : Found) → is_followed l b ≡ true → list_any (λ e. p e && (is_related o.relation l e && is_related o.relation b e)) (lines_of r o.event) ≡ true → some_is (is_related o.relation b) known ≡ true

-- one event becomes another by the events of some motes from a moment on
pub record Extends (o : Order) (r : ReportModel) (l : Found) (from : ℕ) (ws : List Watched) (before after : Option Found) : Type 0 where
  pub event : (q : Found → Bool) → some_is q after ≡ true → (some_is q before || list_any (any_in q r o.event) ws) ≡ true
  pub related : each_is (is_related o.relation l) before ≡ true → each_is (is_related o.relation l) after ≡ true
  pub kept : (b : Found) → is_followed l b ≡ true → each_is (is_related o.relation l) before ≡ true → some_is (is_related o.relation b) before ≡ true → some_is (is_related o.relation b) after ≡ true
  pub all : (b : Found) → is_followed l b ≡ true → each_is (is_related o.relation l) before ≡ true → list_any (any_in (is_shared_from from o.relation l b) r o.event) ws ≡ true → some_is (is_related o.relation b) after ≡ true

-- the moments of the lines rise, from one on
abbrev pub rises_from : ℕ → List Line → Bool
rises_from n [] = true
rises_from n (l ∷ ls) = nat_le n l.at && rises_from l.at ls

-- the traces of the motes of the event are sorted by moment
abbrev pub are_sorted : Order → ReportModel → Bool
are_sorted o r = list_all (λ w. rises_from 0 (trace_at r w.mote)) o.event.watches.items

-- the event that is known stands for all once its line is decided
pub record IsSeen (o : Order) (r : ReportModel) (s : Seen) : Type 0 where
  pub sorted : s.is_sorted ≡ true → are_sorted o r ≡ true
  pub stands : (l : Found) → s.line ≡ Some l → Stands o r l (λ e. true) s.event

-- the same, if there is an order
abbrev pub IsSeenBy : Option Order → ReportModel → Seen → Type 0
IsSeenBy None r s = ⊤
IsSeenBy (Some o) r s = IsSeen o r s

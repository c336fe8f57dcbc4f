-- An event that stands for others.
use Rattle.std.proofs.Common.{◌≡◌, ◌∙◌, refl, sym, ap, ℕ, ◌<◌, ◌≤◌, Bool, true, false, ◌&&◌, ◌||◌, not, List, [], ◌∷◌, ◌++◌, Option, Some, None, is_some, ⊎_elim, arith, if◌then◌else◌}
use Rattle.std.specs.Prelude.{nat_le}
use Rattle.std.specs.List.{list_any}
use Rattle.std.proofs.lemmas.Bool.{or_cases, and_parts, and_from}
use Rattle.std.proofs.lemmas.Bool.Decides.{nat_tests}
use Rattle.std.proofs.lemmas.List.Folds.{list_any-append}
use Rattle.mote_net.specs.Report.{ReportModel}
use Rattle.claims.specs.declared.trace.Found.{Found}
use Rattle.claims.specs.declared.trace.Watched.{Watched}
use Rattle.claims.specs.declared.order.Order.{Order}
use Rattle.claims.specs.declared.order.Relation.{Relation}
use Rattle.claims.specs.Orders.{is_related}
use Rattle.claims.specs.Traces.{lines_of}
use Rattle.claims.specs.PerMote.{any_in}
use Rattle.claims.proofs.DeedLaws.{list_any-lines_of}
use Rattle.claims.specs.Seen.{Stands, Extends, is_followed, some_is, each_is, still_known, is_shared_from, reach}
use Rattle.claims.proofs.AnyLaws.{or_left, or_right, any_weaker, any_split}
use Rattle.claims.proofs.SeenLaws.{followed_itself, followed_again, related_early, related_between}

none_of : {A : Type 0} (p : A → Bool) → ((x : A) → p x ≡ true → false ≡ true) → (xs : List A) → list_any p xs ≡ true → false ≡ true
none_of p h [] e = e
none_of p h (x ∷ xs) e = ⊎_elim (λ a. h x a) (λ a. none_of p h xs a) (or_cases (p x) (list_any p xs) e)

not_below_none : (a : Bool) (n : ℕ) → (not (nat_le 0 n) && a) ≡ true → false ≡ true
not_below_none a n h = grind (arith, nat_tests)

-- before any line nothing has been seen
pub stands_at_first : (o : Order) (r : ReportModel) (l : Found) → Stands o r l (λ e. not (nat_le 0 e.line.at)) None
stands_at_first o r l = record {
  event = λ q h. cc;
  related = refl;
  all = λ b f h. none_of (λ e. not (nat_le 0 e.line.at) && (is_related o.relation l e && is_related o.relation b e)) (λ e g. not_below_none (is_related o.relation l e && is_related o.relation b e) e.line.at g) (lines_of r o.event) h;
}

still_event : (v : Bool) (q : Found → Bool) (k : Found) → some_is q (if v then Some k else None) ≡ true → q k ≡ true
still_event true q k h = h
still_event false q k h = cc

still_each : (v : Bool) (q : Found → Bool) (k : Found) → q k ≡ v → each_is q (if v then Some k else None) ≡ true
still_each true q k h = h
still_each false q k h = refl

still_some : (v : Bool) (q : Found → Bool) (k : Found) → v ≡ true → q k ≡ true → some_is q (if v then Some k else None) ≡ true
still_some true q k i h = h
still_some false q k i h = cc

known_event : (r : Relation) (l : Found) (k : Option Found) (q : Found → Bool) → some_is q (still_known r l k) ≡ true → some_is q k ≡ true
known_event r l None q h = h
known_event r l (Some k) q h = still_event (is_related r l k) q k h

known_related : (r : Relation) (l : Found) (k : Option Found) → each_is (is_related r l) (still_known r l k) ≡ true
known_related r l None = refl
known_related r l (Some k) = still_each (is_related r l k) (is_related r l) k refl

known_still : (r : Relation) (a l b : Found) (k : Option Found) → is_followed a l ≡ true → is_followed l b ≡ true → each_is (is_related r a) k ≡ true → some_is (is_related r b) k ≡ true → some_is (is_related r b) (still_known r l k) ≡ true
known_still r a l b None f g i h = cc
known_still r a l b (Some k) f g i h = still_some (is_related r l k) (is_related r b) k (related_between r a l b k f g i h) h

below_reach : (n m : ℕ) (a : Bool) → (not (nat_le n m) && a) ≡ true → m < n
below_reach n m a h = grind (arith, nat_tests)

and_second : (a b : Bool) → (a && b) ≡ true → b ≡ true
and_second a b h = (and_parts a b h).1

early_pair : (r : Relation) (n : ℕ) (a l b e : Found) → n ≤ reach r a → is_followed a l ≡ true → (not (nat_le n e.line.at) && (is_related r l e && is_related r b e)) ≡ true → (true && (is_related r a e && is_related r b e)) ≡ true
early_pair r n a l b e m f h =
    let both = and_parts (is_related r l e) (is_related r b e) (and_second (not (nat_le n e.line.at)) (is_related r l e && is_related r b e) h) in
    let below : e.line.at < n = below_reach n e.line.at (is_related r l e && is_related r b e) h in
    and_from (is_related r a e) (is_related r b e) (related_early r a l e f (omega arith) both.0) both.1

-- the event that is known after a line, if a later line still has the relation to it, stands for all up to the reach of the first
pub stands_still : (o : Order) (r : ReportModel) (n : ℕ) (a l : Found) (k : Option Found) → n ≤ reach o.relation a → is_followed a l ≡ true → Stands o r a (λ e. true) k → Stands o r l (λ e. not (nat_le n e.line.at)) (still_known o.relation l k)
stands_still o r n a l k m f s = record {
  event = λ q h. s.event q (known_event o.relation l k q h);
  related = known_related o.relation l k;
  all = λ b g h. known_still o.relation a l b k f g s.related (s.all b (followed_again a l b f g)
      (any_weaker (λ e. not (nat_le n e.line.at) && (is_related o.relation l e && is_related o.relation b e)) (λ e. true && (is_related o.relation a e && is_related o.relation b e))
      (λ e i. early_pair o.relation n a l b e m f i) (lines_of r o.event) h));
}

or_again : (a b c : Bool) → ((a || b) || c) ≡ true → (a || (b || c)) ≡ true
or_again true b c h = refl
or_again false b c h = h

-- some motes and then others
pub extends_on : (o : Order) (r : ReportModel) (l : Found) (n : ℕ) (us ws : List Watched) (i j k : Option Found) → Extends o r l n us i j → Extends o r l n ws j k → Extends o r l n (us ++ ws) i k
extends_on o r l n us ws i j k s t = record {
  event = λ q h. ap (λ v. some_is q i || v) (list_any-append (any_in q r o.event) us ws)
      ∙ or_again (some_is q i) (list_any (any_in q r o.event) us) (list_any (any_in q r o.event) ws)
      (⊎_elim (λ a. or_left (some_is q i || list_any (any_in q r o.event) us) (list_any (any_in q r o.event) ws) (s.event q a))
      (λ a. or_right (some_is q i || list_any (any_in q r o.event) us) (list_any (any_in q r o.event) ws) a)
      (or_cases (some_is q j) (list_any (any_in q r o.event) ws) (t.event q h)));
  related = λ h. t.related (s.related h);
  kept = λ b f g h. t.kept b f (s.related g) (s.kept b f g h);
  all = λ b f g h. ⊎_elim (λ a. t.kept b f (s.related g) (s.all b f g a)) (λ a. t.all b f (s.related g) a)
      (or_cases (list_any (any_in (is_shared_from n o.relation l b) r o.event) us) (list_any (any_in (is_shared_from n o.relation l b) r o.event) ws)
      (sym (list_any-append (any_in (is_shared_from n o.relation l b) r o.event) us ws) ∙ h));
}

-- all motes
pub stands_then : (o : Order) (r : ReportModel) (l : Found) (n : ℕ) (i k : Option Found) → Stands o r l (λ e. not (nat_le n e.line.at)) i → Extends o r l n o.event.watches.items i k → Stands o r l (λ e. true) k
stands_then o r l n i k s t = record {
  event = λ q h. ⊎_elim (λ a. s.event q a) (λ a. list_any-lines_of q r o.event ∙ a) (or_cases (some_is q i) (list_any (any_in q r o.event) o.event.watches.items) (t.event q h));
  related = t.related s.related;
  all = λ b f h. ⊎_elim
      (λ a. t.all b f s.related (sym (list_any-lines_of (is_shared_from n o.relation l b) r o.event) ∙ a))
      (λ a. t.kept b f s.related (s.all b f a))
      (or_cases (list_any (is_shared_from n o.relation l b) (lines_of r o.event)) (list_any (λ e. not (nat_le n e.line.at) && (is_related o.relation l e && is_related o.relation b e)) (lines_of r o.event))
      (any_split (λ e. nat_le n e.line.at) (λ e. is_related o.relation l e && is_related o.relation b e) (lines_of r o.event) h));
}

there : (q : Found → Bool) (k : Option Found) → some_is q k ≡ true → is_some k ≡ true
there q None h = h
there q (Some k) h = refl

met : (q : Found → Bool) (k : Option Found) → each_is q k ≡ true → is_some k ≡ true → some_is q k ≡ true
met q None g h = h
met q (Some k) g h = g

same_truth : (a b : Bool) → (a ≡ true → b ≡ true) → (b ≡ true → a ≡ true) → a ≡ b
same_truth true b f g = sym (f refl)
same_truth false true f g = g refl
same_truth false false f g = refl

-- an event stands for all exactly if the line has the relation to some of them
pub stands_for_all : (o : Order) (r : ReportModel) (l : Found) (k : Option Found) → Stands o r l (λ e. true) k → is_some k ≡ list_any (is_related o.relation l) (lines_of r o.event)
stands_for_all o r l k s = same_truth (is_some k) (list_any (is_related o.relation l) (lines_of r o.event))
    (λ h. s.event (is_related o.relation l) (met (is_related o.relation l) k s.related h))
    (λ h. there (is_related o.relation l) k (s.all l (followed_itself l)
    (any_weaker (is_related o.relation l) (λ e. true && (is_related o.relation l e && is_related o.relation l e)) (λ e i. and_from (is_related o.relation l e) (is_related o.relation l e) i i) (lines_of r o.event) h)))

-- Laws of the relations of lines that follow one another.
use Rattle.std.proofs.Common.{◌≡◌, arith, ℕ, ◌+◌, ◌<◌, true, false, not}
use Rattle.std.specs.Prelude.{nat_le}
use Rattle.std.proofs.lemmas.Bool.{and_parts, and_from}
use Rattle.std.proofs.lemmas.Bool.Decides.{nat_tests}
use Rattle.claims.specs.declared.trace.Found.{Found}
use Rattle.claims.specs.declared.order.Relation.{Relation}
use Rattle.claims.specs.declared.order.Relation.TheVariants.{After, NotBefore, Within, Followed}
use Rattle.claims.specs.Orders.{is_before, is_beside_or_before, is_related}
use Rattle.claims.specs.Seen.{is_followed, reach, lasts}

pub followed_itself : (a : Found) → is_followed a a ≡ true
followed_itself a = grind (arith, nat_tests)

pub followed_again : (a b c : Found) → is_followed a b ≡ true → is_followed b c ≡ true → is_followed a c ≡ true
followed_again a b c h k = grind (arith, nat_tests)

-- an event before the reach of a line, to which a later line has the relation, is one to which the line has it
pub related_early : (r : Relation) (b l e : Found) → is_followed b l ≡ true → e.line.at < reach r b → is_related r l e ≡ true → is_related r b e ≡ true
related_early After b l e f h q = grind (arith, nat_tests)
related_early x b l e f h q = grind (arith, nat_tests)

-- no line has the relation to an event beyond its reach
pub unrelated_far : (r : Relation) (l e : Found) → reach r l < e.line.at → is_related r l e ≡ false
unrelated_far After l e h = grind (arith, nat_tests)
unrelated_far x l e h = grind (arith, nat_tests)

before_later : (a l e : Found) → is_followed a l ≡ true → is_before e a ≡ true → is_before e l ≡ true
before_later a l e f p = grind (arith, nat_tests)

not_before_later : (a l e : Found) → is_followed a l ≡ true → not (is_before a e) ≡ true → not (is_before l e) ≡ true
not_before_later a l e f p = grind (arith, nat_tests)

beside_later : (a l e : Found) → is_followed a l ≡ true → is_beside_or_before e a ≡ true → is_beside_or_before e l ≡ true
beside_later a l e f p = grind (arith, nat_tests)

beside_earlier : (l b e : Found) → is_followed l b ≡ true → is_beside_or_before b e ≡ true → is_beside_or_before l e ≡ true
beside_earlier l b e f p = grind (arith, nat_tests)

beside_lasting : (l b x y : Found) → is_followed l b ≡ true → lasts l.mote x y ≡ true → is_beside_or_before b x ≡ true → is_beside_or_before b y ≡ true
beside_lasting l b x y f h p = grind (arith, nat_tests)

beside_other : (l b x y : Found) → is_followed l b ≡ true → lasts l.mote x y ≡ false → is_beside_or_before b y ≡ true → is_beside_or_before b x ≡ true
beside_other l b x y f h p = grind (arith, nat_tests)

followed_moment : (a b : Found) → is_followed a b ≡ true → nat_le a.line.at b.line.at ≡ true
followed_moment a b f = grind (arith, nat_tests)

lasting_moment : (m : ℕ) (x y : Found) → lasts m x y ≡ true → nat_le x.line.at y.line.at ≡ true
lasting_moment m x y h = grind (arith, nat_tests)

other_moment : (m : ℕ) (x y : Found) → lasts m x y ≡ false → nat_le y.line.at x.line.at ≡ true
other_moment m x y h = grind (arith, nat_tests)

sooner : (a b n : ℕ) → nat_le a b ≡ true → nat_le b n ≡ true → nat_le a n ≡ true
sooner a b n h p = grind (arith, nat_tests)

farther : (n a b k : ℕ) → nat_le a b ≡ true → nat_le n (a + k) ≡ true → nat_le n (b + k) ≡ true
farther n a b k h p = grind (arith, nat_tests)

-- a line between two that have the relation to an event has it
pub related_between : (r : Relation) (a l b e : Found) → is_followed a l ≡ true → is_followed l b ≡ true → is_related r a e ≡ true → is_related r b e ≡ true → is_related r l e ≡ true
related_between After a l b e f g p q = before_later a l e f p
related_between NotBefore a l b e f g p q = not_before_later a l e f p
related_between (Within k) a l b e f g p q =
    and_from (is_beside_or_before e l) (nat_le l.line.at (e.line.at + k))
    (beside_later a l e f (and_parts (is_beside_or_before e a) (nat_le a.line.at (e.line.at + k)) p).0)
    (sooner l.line.at b.line.at (e.line.at + k) (followed_moment l b g) (and_parts (is_beside_or_before e b) (nat_le b.line.at (e.line.at + k)) q).1)
related_between (Followed k) a l b e f g p q =
    and_from (is_beside_or_before l e) (nat_le e.line.at (l.line.at + k))
    (beside_earlier l b e g (and_parts (is_beside_or_before b e) (nat_le e.line.at (b.line.at + k)) q).0)
    (farther e.line.at a.line.at l.line.at k (followed_moment a l f) (and_parts (is_beside_or_before a e) (nat_le e.line.at (a.line.at + k)) p).1)

-- a later line that has the relation to one of two events has it to the one that lasts longer
pub lasting : (r : Relation) (l b x y : Found) → is_followed l b ≡ true → is_related r l y ≡ true → lasts l.mote x y ≡ true → is_related r b x ≡ true → is_related r b y ≡ true
lasting After l b x y f p h q = before_later l b y f p
lasting NotBefore l b x y f p h q = not_before_later l b y f p
lasting (Within k) l b x y f p h q =
    and_from (is_beside_or_before y b) (nat_le b.line.at (y.line.at + k))
    (beside_later l b y f (and_parts (is_beside_or_before y l) (nat_le l.line.at (y.line.at + k)) p).0)
    (farther b.line.at x.line.at y.line.at k (lasting_moment l.mote x y h) (and_parts (is_beside_or_before x b) (nat_le b.line.at (x.line.at + k)) q).1)
lasting (Followed k) l b x y f p h q =
    and_from (is_beside_or_before b y) (nat_le y.line.at (b.line.at + k))
    (beside_lasting l b x y f h (and_parts (is_beside_or_before b x) (nat_le x.line.at (b.line.at + k)) q).0)
    (farther y.line.at l.line.at b.line.at k (followed_moment l b f) (and_parts (is_beside_or_before l y) (nat_le y.line.at (l.line.at + k)) p).1)

-- if the second event doesn't last as long as the first one, it's the first one that lasts
pub lasts_or : (r : Relation) (l b x y : Found) → is_followed l b ≡ true → is_related r l x ≡ true → lasts l.mote x y ≡ false → is_related r b y ≡ true → is_related r b x ≡ true
lasts_or After l b x y f p h q = before_later l b x f p
lasts_or NotBefore l b x y f p h q = not_before_later l b x f p
lasts_or (Within k) l b x y f p h q =
    and_from (is_beside_or_before x b) (nat_le b.line.at (x.line.at + k))
    (beside_later l b x f (and_parts (is_beside_or_before x l) (nat_le l.line.at (x.line.at + k)) p).0)
    (farther b.line.at y.line.at x.line.at k (other_moment l.mote x y h) (and_parts (is_beside_or_before y b) (nat_le b.line.at (y.line.at + k)) q).1)
lasts_or (Followed k) l b x y f p h q =
    and_from (is_beside_or_before b x) (nat_le x.line.at (b.line.at + k))
    (beside_other l b x y f h (and_parts (is_beside_or_before b y) (nat_le y.line.at (b.line.at + k)) q).0)
    (farther x.line.at l.line.at b.line.at k (followed_moment l b f) (and_parts (is_beside_or_before l x) (nat_le x.line.at (l.line.at + k)) p).1)

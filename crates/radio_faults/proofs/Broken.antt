-- A broken link loses every packet, and each other link what it lost without the faults.
use Rattle.std.proofs.Common.{◌≡◌, ℕ, ◌+◌, ◌%◌, ◌<◌, ◌==◌, nat_lt, Bool, true, false, not, cond, ◌&&◌, ◌||◌, if◌then◌else◌, ⊎_elim, List, [], ◌∷◌, length, map, Option, Some, None, option_map, refl, sym, ap, ap₂, ◌∙◌, arith}
use Rattle.std.specs.List.{AllByRecursion, filter, list_any}
use Rattle.std.proofs.lemmas.Bool.{cases_Bool, and_parts, eq-eqb, eqb-true, ltb-true}
use Rattle.std.proofs.lemmas.Bool.Decides.{nat_tests}
use Rattle.std.proofs.lemmas.Map.Views.{any-filter_same}
use Rattle.radio_packet.specs.declared.sent.Sent.{Sent}
use Rattle.radio_packet.specs.declared.fate.Fate.{Fate}
use Rattle.radio_medium.specs.declared.losses.Loss.{Loss}
use Rattle.radio_medium.specs.Medium.{Radio, is_for_pair, every_of, is_lost, loses, hears, delay, receivers, motes, fate, fates}
use Rattle.radio_faults.specs.declared.fault.Fault.{Fault}
use Rattle.radio_faults.specs.declared.fault.Fault.TheVariants.{Link, Silent}
use Rattle.std.specs.Option.{option_and_then}
use Rattle.radio_faults.specs.LossTables.{IsOfLinks, breaks, is_broken, links, broken_links, losing_all, radio_with}
use Rattle.radio_faults.specs.Faults.{fate_after, fates_with}
use Rattle.radio_faults.specs.Laws.{LossTablesAgree}
use Rattle.radio_faults.proofs.AnyOf.{any-map, any-flat_map, any-filter, any_in_range, find-filter, map-filter_same, map-map}

-- the link from mote s to mote r
abbrev pub is_link : (s r : ℕ) → ℕ × ℕ → Bool
is_link s r link = (link.0 == s) && (link.1 == r)

other_pair : (a b s r x y : ℕ) → ((a == s) && (b == r)) ≡ false → ((x == s) && (y == r)) ≡ true → not ((x == a) && (y == b)) ≡ true
other_pair a b s r x y other is = grind (arith, nat_tests)

every_losing : (links : List (ℕ × ℕ)) (losses : List Loss) (s r : ℕ) → every_of (losing_all links losses) s r ≡ cond (list_any (is_link s r) links) (Some 1) (every_of losses s r)
every_losing [] losses s r = refl
every_losing (link ∷ links) losses s r =
    let rest : every_of (losing_all links losses) s r ≡ cond (list_any (is_link s r) links) (Some 1) (every_of losses s r) = every_losing links losses s r in
    ⊎_elim
    (λ here. rw here refl)
    (λ other. rw other (ap (option_map (λ (l : Loss). l.every)) (find-filter (is_for_pair s r) (λ l. not (is_for_pair link.0 link.1 l)) (λ l is. other_pair link.0 link.1 s r l.sender l.to other is) (losing_all links losses)) ∙ rest))
    (cases_Bool (is_link s r link))

-- who hears whom is a mote, as well as who is heard
record AreMotes (radio : Radio) (r s : ℕ) : Type 0 where
  receiver : r < length radio.places
  sender : s < length radio.places

are_motes : (radio : Radio) (r s : ℕ) → hears radio r s ≡ true → AreMotes radio r s
unfolding hears
are_motes radio r s h =
    let first = and_parts (nat_lt r (length radio.places)) _ h in
    let second = and_parts (nat_lt s (length radio.places)) _ first.1 in
    record { receiver = ltb-true _ _ first.0; sender = ltb-true _ _ second.0 }

same_pair : (s r : ℕ) → ((s == s) && (r == r)) ≡ true
same_pair s r = let e : (s == s) ≡ true = eq-eqb s s refl in let f : (r == r) ≡ true = eq-eqb r r refl in rw (e, f) refl

has_link : (radio : Radio) (s r : ℕ) → hears radio r s ≡ true → list_any (is_link s r) (links radio) ≡ true
unfolding receivers
has_link radio s r h =
    let n : ℕ = length radio.places in
    let there = are_motes radio r s h in
    let sender : s < 0 + n = omega (arith, there.sender) in
    let receiver : r < 0 + n = omega (arith, there.receiver) in
    any-flat_map (is_link s r) (λ from. map (λ to. (from, to)) (receivers radio from)) (motes radio)
    ∙ any_in_range (λ from. list_any (is_link s r) (map (λ to. (from, to)) (receivers radio from))) 0 n s (omega arith) sender
    (any-map (is_link s r) (λ to. (s, to)) (receivers radio s)
    ∙ (any-filter (λ to. is_link s r (s, to)) (λ to. hears radio to s) (motes radio)
    ∙ any_in_range (λ to. hears radio to s && is_link s r (s, to)) 0 n r (omega arith) receiver (let same = same_pair s r in rw h same)))

is_pair : (x s : ℕ) (y r : ℕ) → ((x == s) && (y == r)) ≡ true → (x ≡ s) × (y ≡ r)
is_pair x s y r e = let parts = and_parts (x == s) (y == r) e in (eqb-true x s parts.0, eqb-true y r parts.1)

has_broken : (faults : List Fault) (radio : Radio) (s r : ℕ) → hears radio r s ≡ true → list_any (is_link s r) (broken_links faults radio) ≡ is_broken faults s r
has_broken faults radio s r h =
    any-filter_same (is_link s r) (λ link. is_broken faults link.0 link.1) (is_broken faults s r)
    (λ link is. let pair = is_pair link.0 s link.1 r is in ap (λ x. is_broken faults x link.1) pair.0 ∙ ap (is_broken faults s) pair.1) (links radio)
    ∙ (let there = has_link radio s r h in rw there (and_true (is_broken faults s r)))
  where
    and_true : (b : Bool) → (b && true) ≡ b
    and_true true = refl
    and_true false = refl

pub every_with : (faults : List Fault) (radio : Radio) (s r : ℕ) → hears radio r s ≡ true
    → every_of (radio_with faults radio).losses s r ≡ cond (is_broken faults s r) (Some 1) (every_of radio.losses s r)
every_with faults radio s r h =
    every_losing (broken_links faults radio) radio.losses s r ∙ ap (λ b. cond b (Some 1) (every_of radio.losses s r)) (has_broken faults radio s r h)

each_lost : (n : ℕ) → is_lost n (Some 1) ≡ true
each_lost n = let e : (n + 1) % 1 ≡ 0 = omega arith in rw e refl

lost_if : (n : ℕ) (b : Bool) (every : Option ℕ) → is_lost n (cond b (Some 1) every) ≡ cond b true (is_lost n every)
lost_if n true every = each_lost n
lost_if n false every = refl

-- of the packets from mote s to mote r, which hears s, all are lost if a fault breaks this link, and otherwise those that are
-- lost without the faults
with_losses : (radio : Radio) (faults : List Fault) (s r n : ℕ) → hears radio r s ≡ true → loses (radio_with faults radio) s r n ≡ (if is_broken faults s r then true else loses radio s r n)
unfolding loses
with_losses radio faults s r n h = ap (is_lost n) (every_with faults radio s r h) ∙ lost_if n (is_broken faults s r) (every_of radio.losses s r)

abbrev fate_if : Bool → Fate → Fate
fate_if broken fate = if broken then record { to = fate.to; at = None } else fate

-- the fate of a copy whose link some of the faults break
abbrev lost_by : List Fault → Sent → Fate → Fate
lost_by faults sent fate = fate_if (is_broken faults sent.sender fate.to) fate

at_lost : (b lost : Bool) (to at : ℕ) → record { to = to; at = if cond b true lost then None else Some at } ≡ fate_if b (record { to = to; at = if lost then None else Some at })
at_lost true lost to at = refl
at_lost false lost to at = refl

fate_is : (radio : Radio) (faults : List Fault) (sent : Sent) (r : ℕ) → hears radio r sent.sender ≡ true → fate (radio_with faults radio) sent r ≡ lost_by faults sent (fate radio sent r)
unfolding fate delay
fate_is radio faults sent r h =
    ap (λ (lost : Bool). record { to = r; at = if lost then None else Some (sent.at + delay radio sent.sender r) }) (with_losses radio faults sent.sender r sent.number h)
    ∙ at_lost (is_broken faults sent.sender r) (loses radio sent.sender r sent.number) r (sent.at + delay radio sent.sender r)

receivers_are : (radio : Radio) (faults : List Fault) (s : ℕ) → receivers (radio_with faults radio) s ≡ receivers radio s
unfolding receivers hears
receivers_are radio faults s = refl

fates_are : (radio : Radio) (faults : List Fault) (sent : Sent) → map (lost_by faults sent) (fates radio sent) ≡ fates (radio_with faults radio) sent
unfolding fates receivers fate
fates_are radio faults sent =
    map-map (lost_by faults sent) (fate radio sent) (receivers radio sent.sender)
    ∙ (sym (heard (motes radio)) ∙ ap (map (fate (radio_with faults radio) sent)) (sym (receivers_are radio faults sent.sender)))
  where
    heard : (rs : List ℕ) → map (fate (radio_with faults radio) sent) (filter (λ r. hears radio r sent.sender) rs) ≡ map (λ r. lost_by faults sent (fate radio sent r)) (filter (λ r. hears radio r sent.sender) rs)
    heard = map-filter_same (fate (radio_with faults radio) sent) (λ r. lost_by faults sent (fate radio sent r)) (λ r. hears radio r sent.sender) (fate_is radio faults sent)

-- one fault of links after others, for a test of the links that it breaks
named_is_lost : (named : Bool) (to : ℕ) (at : Option ℕ) → record { to = to; at = option_and_then (λ (at : ℕ). if named then None else Some at) at } ≡ fate_if named (record { to = to; at = at })
named_is_lost true to None = refl
named_is_lost true to (Some at) = refl
named_is_lost false to None = refl
named_is_lost false to (Some at) = refl

lost_or : (named : Bool) (fate : Fate) → record { to = fate.to; at = None } ≡ fate_if (named || true) fate
lost_or true fate = refl
lost_or false fate = refl

or_no : (named : Bool) → named ≡ (named || false)
or_no true = refl
or_no false = refl

after_test : (test : ℕ → Bool) (broken : Bool) (fate : Fate)
    → record { to = (fate_if broken fate).to; at = option_and_then (λ (at : ℕ). if test (fate_if broken fate).to then None else Some at) (fate_if broken fate).at } ≡ fate_if (test fate.to || broken) fate
after_test test true fate = lost_or (test fate.to) fate
after_test test false fate = named_is_lost (test fate.to) fate.to fate.at ∙ ap (λ b. fate_if b fate) (or_no (test fate.to))

after_link : (fault : Fault) → IsOfLinks fault → (sent : Sent) (broken : Bool) (fate : Fate) → fate_after fault sent (fate_if broken fate) ≡ fate_if (breaks fault sent.sender fate.to || broken) fate
after_link (Link from to) is sent broken fate = after_test (λ r. (from == sent.sender) && (to == r)) broken fate
after_link (Silent mote) is sent broken fate = after_test (λ r. mote == sent.sender) broken fate
after_link x is sent broken fate = absurd is

-- the fates after all of them
untouched : (sent : Sent) (fates : List Fate) → fates ≡ map (lost_by [] sent) fates
untouched sent [] = refl
untouched sent (fate ∷ fates) = ap (λ l. fate ∷ l) (untouched sent fates)

map_after : (fault : Fault) → IsOfLinks fault → (faults : List Fault) (sent : Sent) (fates : List Fate) → map (fate_after fault sent) (map (lost_by faults sent) fates) ≡ map (lost_by (fault ∷ faults) sent) fates
map_after fault is faults sent [] = refl
map_after fault is faults sent (fate ∷ fates) = ap₂ (λ f l. f ∷ l) (after_link fault is sent (is_broken faults sent.sender fate.to) fate) (map_after fault is faults sent fates)

all_lost : (faults : List Fault) → AllByRecursion IsOfLinks faults → (sent : Sent) (fates : List Fate) → fates_with faults sent fates ≡ map (lost_by faults sent) fates
all_lost [] are sent fates = untouched sent fates
all_lost (fault ∷ faults) are sent fates = ap (map (fate_after fault sent)) (all_lost faults are.1 sent fates) ∙ map_after fault are.0 faults sent fates

pub loss_tables_agree : LossTablesAgree
loss_tables_agree radio faults are sent = all_lost faults are sent (fates radio sent) ∙ fates_are radio faults sent

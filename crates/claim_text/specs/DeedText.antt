-- The text of deeds: patterns, and the motes and periods of their lines.
use Rattle.std.specs.Prelude.{ℕ, ◌==◌, if◌then◌else◌, Option, Some, None, List, [], ◌∷◌, ◌++◌, codes, map}
use Rattle.claims.specs.declared.set.Span.{Span}
use Rattle.claims.specs.declared.trace.Watched.{Watched}
use Rattle.claims.specs.declared.trace.Deed.{Deed}
use Rattle.claim_text.specs.Lists.{list_text}
use Rattle.claim_text.specs.Numbers.{period_text}
use Rattle.claim_text.specs.Groups.{Entry, entries_text}
use Rattle.claim_text.specs.PatternText.{pattern_text}

-- a mote and its period
abbrev pub entry_of : Watched → Entry
entry_of w = record { mote = Some w.mote; body = period_text w.when }

-- the period of the only watch, if its mote is that of the case
abbrev pub own_period : (own : Option ℕ) → List Watched → Option Span
own_period None ws = None
own_period (Some own) [] = None
own_period (Some own) (w ∷ []) = if w.mote == own then Some w.when else None
own_period (Some own) (w ∷ v ∷ ws) = None

-- neighbours with the same period have it once
abbrev pub groups_text : List Watched → List ℕ
groups_text ws = entries_text (codes " and of ") (codes " together") None (map entry_of ws)

abbrev pub watches_text : List Watched → List ℕ
watches_text [] = codes " of no mote"
watches_text (w ∷ ws) = codes " of " ++ groups_text (w ∷ ws)

abbrev pub period_or_watches : Option Span → List Watched → List ℕ
period_or_watches None ws = watches_text ws
period_or_watches (Some when) ws = period_text when

-- the motes of a deed's lines, and their periods; the mote of the case isn't named
abbrev pub watched_text : (own : Option ℕ) → List Watched → List ℕ
watched_text own ws = period_or_watches (own_period own ws) ws

abbrev pub deed_text : (names : List (List ℕ)) → (own : Option ℕ) → Deed → List ℕ
deed_text names own d =
    list_text (codes "of no kind") [] (codes " or ") (map (pattern_text names) d.patterns.items)
    ++ watched_text own d.watches.items

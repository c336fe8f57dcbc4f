-- Steps of a kernel as runs of the delivery machine, at any point of a walk.
use Rattle.std.proofs.Common.{ℕ, ◌≡◌, ◌+◌, ◌<◌, Bool, false, List, [], ◌∷◌, ◌++◌, inl, inr, refl, map}
use Rattle.std.specs.List.{All}
use Rattle.kernel_laws.specs.HandedOn.{Line, Target, ToOne, ToAll, Start, Leave, Post, Halt, Other, Incarnation, has_incarnation, is_on, without, HandedOn}
use Rattle.kernel_laws.specs.StartsAndHalts.{HaltIsLast, StartsTheUnlisted}
use Rattle.kernel_laws.specs.Delivery.{Waiting, take_or_drop, DeliveryRuns, stays, Halts, starts, leaves, posts, gives_one, begins_walk, walks_on, writes, renumbers}
use Rattle.kernel_laws.specs.View.{View, machine_at, GoesWithView, HasHalted}
use Rattle.kernel_laws.proofs.Joined.{one_step, runs_joined, halts_joined}
use Rattle.kernel_laws.proofs.Ends.{delivery_hands_on}
use Rattle.kernel_laws.proofs.StartsAndHalts.{halt_is_last, starts_the_unlisted}

-- with these lines a kernel moves from one view to another, whatever walk is in progress
abbrev pub Moves : View → List Line → View → Type 0
Moves v lines w = (walked : ℕ) (coming : List Incarnation) → DeliveryRuns (machine_at v walked coming) lines (machine_at w walked coming)

-- with these lines the kernel moves to a halt
abbrev pub Stops : View → List Line → Type 0
Stops v lines = (walked : ℕ) (coming : List Incarnation) → Halts (machine_at v walked coming) lines

pub in_state_still : (v : View) → Moves v [] v
in_state_still v walked coming = stays

pub moves_joined : (u v w : View) (ls more : List Line) → Moves u ls v → Moves v more w → Moves u (ls ++ more) w
moves_joined u v w ls more h i walked coming = runs_joined _ _ (machine_at v walked coming) _ _ (h walked coming) (i walked coming)

pub stops_joined : (u v : View) (ls more : List Line) → Moves u ls v → Stops v more → Stops u (ls ++ more)
stops_joined u v ls more h i walked coming = halts_joined _ _ (machine_at v walked coming) _ (h walked coming) (i walked coming)

pub other_moves : (v : View) → Moves v (Other ∷ []) v
other_moves v walked coming = one_step _ _ _ (writes (machine_at v walked coming))

pub start_moves : (v : View) (p : ℕ) → has_incarnation v.list p ≡ false → Moves v (Start p ∷ []) (record v { list = record { process = p; number = v.numbered } ∷ v.list; numbered = v.numbered + 1 })
start_moves v p u walked coming = one_step _ _ _ (starts (machine_at v walked coming) p u)

pub leave_moves : (v : View) (p : ℕ) (list : List Incarnation) → list ≡ without v.list p → Moves v (Leave p ∷ []) (record v { list = list })
leave_moves v p list e walked coming = rw e (one_step _ _ _ (leaves (machine_at v walked coming) p))

pub post_moves : (v : View) (g : Target) (queue : List Waiting) → queue ≡ v.queue ++ record { serial = v.accepted; target = g } ∷ [] → Moves v (Post v.accepted g ∷ []) (record v { queue = queue; accepted = v.accepted + 1 })
post_moves v g queue e walked coming = rw e (one_step _ _ _ (posts (machine_at v walked coming) g))

pub halt_stops : (v : View) → Stops v (Halt ∷ [])
halt_stops v walked coming = record { before = []; last = _; runs = stays; ends = refl }

-- the steps of the machine that belong only to the delivery

pub gives : (v : View) (walked s p : ℕ) (there : Bool) (queue : List Waiting) → v.queue ≡ record { serial = s; target = ToOne p } ∷ queue → there ≡ has_incarnation v.list p → DeliveryRuns (machine_at v walked []) (take_or_drop there s p ∷ []) (machine_at (record v { queue = queue }) walked [])
gives v walked s p there queue q e = rw e (one_step _ _ _ (gives_one (machine_at v walked []) s p queue refl q))

pub begins : (v : View) (walked s : ℕ) (queue : List Waiting) → v.queue ≡ record { serial = s; target = ToAll } ∷ queue → (v.list ≡ [] → ⊥) → DeliveryRuns (machine_at v walked []) [] (machine_at (record v { queue = queue }) s v.list)
begins v walked s queue q f = one_step _ _ _ (begins_walk (machine_at v walked []) s queue refl q f)

pub walks : (v : View) (walked : ℕ) (i : Incarnation) (coming : List Incarnation) (there : Bool) → there ≡ is_on v.list i → DeliveryRuns (machine_at v walked (i ∷ coming)) (take_or_drop there walked i.process ∷ []) (machine_at v walked coming)
walks v walked i coming there e = rw e (one_step _ _ _ (walks_on (machine_at v walked (i ∷ coming)) i coming refl))

pub numbers : (v : View) (walked : ℕ) (list : List Incarnation) (n : ℕ) → map (λ i. i.process) list ≡ map (λ i. i.process) v.list → All (λ i. i.number < n) list → DeliveryRuns (machine_at v walked []) [] (machine_at (record v { list = list; numbered = n }) walked [])
numbers v walked list n e a = one_step _ _ _ (renumbers (machine_at v walked []) list n refl e a)

-- more lines of a kernel whose lines so far agree with its view

pub goes_further : (ls more : List Line) (v w : View) (walked : ℕ) → (g : GoesWithView ls v) → DeliveryRuns (machine_at v g.walked []) more (machine_at w walked []) → GoesWithView (ls ++ more) w
goes_further ls more v w walked g r = record { walked = walked; runs = runs_joined _ _ _ _ _ g.runs r }

pub goes_to_halt : (ls more : List Line) (v : View) → (g : GoesWithView ls v) → Halts (machine_at v g.walked []) more → HasHalted (ls ++ more)
goes_to_halt ls more v g h = halts_joined _ _ _ _ g.runs h

-- if the lines agree with a kernel's view, or end in the halt of the kernel, they are a trace

pub goes_with_hands_on : (lines : List Line) (v : View) → GoesWithView lines v → HandedOn lines
goes_with_hands_on lines v g = delivery_hands_on lines (inl (_, g.runs, refl))

pub halted_hands_on : (lines : List Line) → HasHalted lines → HandedOn lines
halted_hands_on lines h = delivery_hands_on lines (inr h)

pub goes_with_halts_last : (lines : List Line) (v : View) → GoesWithView lines v → HaltIsLast lines
goes_with_halts_last lines v g = halt_is_last lines (inl (_, g.runs, refl))

pub halted_halts_last : (lines : List Line) → HasHalted lines → HaltIsLast lines
halted_halts_last lines h = halt_is_last lines (inr h)

pub goes_with_starts : (lines : List Line) (v : View) → GoesWithView lines v → StartsTheUnlisted lines
goes_with_starts lines v g = starts_the_unlisted lines (inl (_, g.runs, refl))

pub halted_starts : (lines : List Line) → HasHalted lines → StartsTheUnlisted lines
halted_starts lines h = starts_the_unlisted lines (inr h)

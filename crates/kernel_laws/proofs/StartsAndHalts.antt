-- Nothing follows a halt, and only processes that aren't listed start.
use Rattle.std.proofs.Common.{ℕ, ◌≡◌, ◌⊎◌, inl, inr, Bool, true, false, List, [], ◌∷◌, ◌++◌, refl, sym, ap, ◌∙◌, subst, append-nil, arith}
use Rattle.std.specs.List.{Contains}
use Rattle.std.proofs.lemmas.List.Elements.{Contains-append_right, Contains-append_cases}
use Rattle.kernel_laws.specs.HandedOn.{Line, Start, Leave, Post, Halt, Other, is_on, has_incarnation, process_list}
use Rattle.kernel_laws.specs.StartsAndHalts.{HaltIsLast, StartsTheUnlisted}
use Rattle.kernel_laws.specs.Delivery.{DeliveryMachine, initial, take_or_drop, DeliveryStep, starts, leaves, posts, gives_one, begins_walk, walks_on, writes, renumbers, DeliveryRuns, stays, goes_on}
use Rattle.kernel_laws.specs.DeliveryLaws.{DeliveryHaltsLast, DeliveryStartsTheUnlisted}
use Rattle.kernel_laws.specs.DeliveryTraces.{TracesThatBreakTheOthers}
use Rattle.kernel_laws.proofs.Lines.{alone}
use Rattle.kernel_laws.proofs.IsInState.{IsInState, same_listed}
use Rattle.kernel_laws.proofs.Follows.{in_state_runs, in_state_at_first}

-- if a line is appended to a trace, each line is the appended line, or a line of the old trace
record IsFoundIn (t before : List Line) (x : Line) (behind : List Line) (l : Line) : Type 0 where
  rest : List Line
  of_rest : behind ≡ rest ++ l ∷ []
  within : t ≡ before ++ x ∷ rest

is_found_in_more : (y : Line) (t before : List Line) (x : Line) (behind : List Line) (l : Line) → IsFoundIn t before x behind l → IsFoundIn (y ∷ t) (y ∷ before) x behind l
is_found_in_more y t before x behind l s = record { rest = s.rest; of_rest = s.of_rest; within = ap (λ u. y ∷ u) s.within }

record IsLast (t before : List Line) (x : Line) (behind : List Line) (l : Line) : Type 0 where
  nothing : behind ≡ []
  all : before ≡ t
  same : x ≡ l

last_more : (y : Line) (t before : List Line) (x : Line) (behind : List Line) (l : Line) → IsLast t before x behind l → IsLast (y ∷ t) (y ∷ before) x behind l
last_more y t before x behind l s = record { nothing = s.nothing; all = ap (λ u. y ∷ u) s.all; same = s.same }

none_is_some : (bs : List Line) (x : Line) (behind : List Line) → bs ++ x ∷ behind ≡ [] → ⊥
none_is_some [] x behind e = cc
none_is_some (b ∷ bs) x behind e = cc

split_push : (t before : List Line) (x : Line) (behind : List Line) (l : Line) → t ++ l ∷ [] ≡ before ++ x ∷ behind → IsLast t before x behind l ⊎ IsFoundIn t before x behind l
split_push [] [] x behind l e = inl (record { nothing = cc; all = refl; same = cc })
split_push [] (b ∷ before) x behind l e = absurd (none_is_some before x behind (cc))
split_push (y ∷ t) [] x behind l e = inr (record { rest = t; of_rest = cc; within = cc })
split_push (y ∷ t) (b ∷ before) x behind l e = let f : y ≡ b = cc in subst (λ z. IsLast (y ∷ t) (z ∷ before) x behind l ⊎ IsFoundIn (y ∷ t) (z ∷ before) x behind l) f (elim (split_push t before x behind l (cc)) [ inl s ↦ inl (last_more y t before x behind l s) | inr s ↦ inr (is_found_in_more y t before x behind l s) ])

-- nothing follows a halt

abbrev NoHalt : List Line → Type 0
NoHalt t = Contains t Halt → ⊥

no_halt_given : (there : Bool) (s p : ℕ) → take_or_drop there s p ≡ Halt → ⊥
no_halt_given true s p e = cc
no_halt_given false s p e = cc

no_halt_one : (l : Line) → (l ≡ Halt → ⊥) → NoHalt (l ∷ [])
no_halt_one l f c = f (alone l Halt c)

no_halt_step : (m : DeliveryMachine) (more : List Line) (m' : DeliveryMachine) → DeliveryStep m more m' → NoHalt more
no_halt_step m more m' (gives_one n s p waiting c q) = no_halt_one _ (no_halt_given (has_incarnation n.list p) s p)
no_halt_step m more m' (begins_walk n s waiting c q f) = λ c. omega (arith, c.1)
no_halt_step m more m' (walks_on n i rest c) = no_halt_one _ (no_halt_given (is_on n.list i) n.walked i.process)
no_halt_step m more m' (renumbers n list k c e a) = λ c. omega (arith, c.1)
no_halt_step m more m' x = no_halt_one _ (λ e. (cc))

no_halt_runs : (m : DeliveryMachine) (t : List Line) (m' : DeliveryMachine) → DeliveryRuns m t m' → NoHalt t
no_halt_runs m t m' stays c = omega (arith, c.1)
no_halt_runs m t m' (goes_on ls n more n' r s) c = elim (Contains-append_cases ls more Halt c) [ inl d ↦ no_halt_runs m ls n r d | inr d ↦ no_halt_step n more n' s d ]

in_state_there : (before behind : List Line) (x : Line) → Contains (before ++ x ∷ behind) x
in_state_there before behind x = Contains-append_right before (x ∷ behind) x (0, omega arith, refl)

ends_without : (t : List Line) → NoHalt t → HaltIsLast t
ends_without t n before behind e = absurd (n (subst (λ u. Contains u Halt) (sym e) (in_state_there before behind Halt)))

ends_with : (t : List Line) → NoHalt t → HaltIsLast (t ++ Halt ∷ [])
ends_with t n before behind e = elim (split_push t before Halt behind Halt e) [ inl s ↦ s.nothing | inr s ↦ absurd (n (subst (λ u. Contains u Halt) (sym s.within) (in_state_there before s.rest Halt))) ]

pub halt_is_last : DeliveryHaltsLast
halt_is_last t (inl r) = ends_without t (no_halt_runs initial t r.0 r.1)
halt_is_last t (inr h) = rw h.ends (ends_with h.before (no_halt_runs initial h.before h.last h.runs))

-- only processes that aren't listed start

one_more : (t : List Line) (l : Line) → ((p : ℕ) → l ≡ Start p → has_incarnation (process_list t) p ≡ false) → StartsTheUnlisted t → StartsTheUnlisted (t ++ l ∷ [])
one_more t l f h before behind p e = elim (split_push t before (Start p) behind l e) [ inl s ↦ subst (λ u. has_incarnation (process_list u) p ≡ false) (sym s.all) (f p (sym s.same)) | inr s ↦ h before s.rest p s.within ]

no_start_given : (there : Bool) (s p q : ℕ) → take_or_drop there s p ≡ Start q → ⊥
no_start_given true s p q e = cc
no_start_given false s p q e = cc

started : (m : DeliveryMachine) (t : List Line) (p : ℕ) → has_incarnation m.list p ≡ false → IsInState m t → (q : ℕ) → Start p ≡ Start q → has_incarnation (process_list t) q ≡ false
started m t p u h q e = let f : p ≡ q = cc in sym (same_listed m.list (process_list t) q h.lists.same) ∙ subst (λ r. has_incarnation m.list r ≡ false) f u

starts_step : (m : DeliveryMachine) (more : List Line) (m' : DeliveryMachine) (t : List Line) → DeliveryStep m more m' → IsInState m t → StartsTheUnlisted t → StartsTheUnlisted (t ++ more)
starts_step m more m' t (starts n p u) h k = one_more t (Start p) (started n t p u h) k
starts_step m more m' t (leaves n p) h k = one_more t (Leave p) (λ q e. absurd (cc)) k
starts_step m more m' t (posts n g) h k = one_more t (Post n.accepted g) (λ q e. absurd (cc)) k
starts_step m more m' t (gives_one n s p waiting c q) h k = one_more t _ (λ r e. absurd (no_start_given _ s p r e)) k
starts_step m more m' t (begins_walk n s waiting c q f) h k = rw append-nil k
starts_step m more m' t (walks_on n i rest c) h k = one_more t _ (λ r e. absurd (no_start_given _ n.walked i.process r e)) k
starts_step m more m' t (writes n) h k = one_more t Other (λ q e. absurd (cc)) k
starts_step m more m' t (renumbers n list j c e a) h k = rw append-nil k

nothing_starts : StartsTheUnlisted []
nothing_starts before behind p e = absurd (none_is_some before (Start p) behind (sym e))

starts_runs : (t : List Line) (m : DeliveryMachine) → DeliveryRuns initial t m → StartsTheUnlisted t
starts_runs t m stays = nothing_starts
starts_runs t m (goes_on ls n more n' r s) = starts_step n more n' ls s (in_state_runs initial [] ls n r in_state_at_first) (starts_runs ls n r)

pub starts_the_unlisted : DeliveryStartsTheUnlisted
starts_the_unlisted t (inl r) = starts_runs t r.0 r.1
starts_the_unlisted t (inr h) = rw h.ends (one_more h.before Halt (λ q e. absurd (cc)) (starts_runs h.before h.last h.runs))

pub others_broken : TracesThatBreakTheOthers
others_broken = record {
  starts_twice = λ f. let e : true ≡ false = f (Start 5 ∷ []) (Leave 6 ∷ []) 5 refl in absurd (cc);
  goes_on_after_a_halt = λ f. let e : Start 5 ∷ [] ≡ [] = f [] (Start 5 ∷ []) refl in absurd (cc);
}

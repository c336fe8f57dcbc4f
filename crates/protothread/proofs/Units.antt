-- The dependence of a step on the units of work, and the places at which the step gives up control.
use Rattle.std.proofs.Common.{◌≡◌, ℕ, zero, suc, ◌+◌, ◌-◌, ◌<◌, ◌≤◌, ◌⊎◌, inl, inr, Bool, true, false, if◌then◌else◌, List, refl, ap, sym, ◌∙◌, arith, subst}
use Rattle.std.specs.Prelude.{nat_lt}
use Rattle.std.proofs.lemmas.Bool.Decides.{nat_tests}
use Rattle.program_tree.specs.declared.event.Event.{Event}
use Rattle.program_tree.specs.Code.{Code}
use Rattle.protothread.specs.declared.part.Part.{Part}
use Rattle.protothread.specs.declared.thread.LastAction.{LastAction}
use Rattle.protothread.specs.declared.thread.LastAction.TheVariants.{AtRest, UnderWay, Pausing, RunAway}
use Rattle.protothread.specs.declared.step.Step.{Step}
use Rattle.protothread.specs.declared.step.Step.TheVariants as step
use Rattle.protothread.specs.declared.answer.PtState.TheVariants.{Ended}
use Rattle.protothread.specs.Looks.{Looks}
use Rattle.protothread.specs.Remainder.{Place, ended, at, within, settled, Remainder, fresh_of, whole_of}
use Rattle.protothread.specs.Step.{Advanced, Reached, goes_on, operates, answers, reached, continued, passed, advanced_of, PaysFor}
use Rattle.protothread.specs.Laws.{MoreUnitsChangeNothing, RunAwayIsForGood, OperationsCostWork}

one_more : (s : Step) (units left : ℕ) → PaysFor s units left → PaysFor s (suc units) left
one_more (step.Op o) units left h = omega arith
one_more (step.Done a) units left h = omega arith
one_more step.Runaway units left h = omega arith

-- an advance with more units left
abbrev with_more : Advanced → ℕ → Advanced
with_more a n = record a { units = a.units + n }

module _ (code : Code) (part : Part) (event : Event) (looks : Looks) where
  abbrev pub follows : (vars : List ℕ) (units : ℕ) → Reached → Advanced
  follows vars units r =
      elim r [
        | goes_on changed p ↦ continued code part event looks p changed units
        | operates o last_action p ↦ record { step = step.Op o; remainder = record { part = part; last_action = last_action; place = p }; variables = vars; units = units }
        | answers a p ↦ record { step = step.Done a; remainder = record { part = part; last_action = AtRest; place = p }; variables = vars; units = units }
      ]

  abbrev pub stepped : (vars : List ℕ) (units : ℕ) → Place → Advanced
  stepped vars zero q =
      elim q [
        | ended ↦ record { step = step.Done Ended; remainder = fresh_of code part; variables = vars; units = 0 }
        | p ↦ record { step = step.Runaway; remainder = record { part = part; last_action = RunAway; place = p }; variables = vars; units = 0 }
      ]
  stepped vars (suc units) q =
      elim q [
        | ended ↦ record { step = step.Done Ended; remainder = fresh_of code part; variables = vars; units = suc units }
        | p ↦ follows vars units (reached code (whole_of code part) vars event looks p)
      ]

  pub settles : (p : Place) (vars : List ℕ) (units : ℕ) → continued code part event looks p vars units ≡ stepped vars units (settled p)
  settles p vars zero = refl
  settles p vars (suc units) = refl

  finish : (vars : List ℕ) (units : ℕ) → stepped vars units ended ≡ record { step = step.Done Ended; remainder = fresh_of code part; variables = vars; units = units }
  finish vars zero = refl
  finish vars (suc units) = refl

  -- with more units, a step that didn't run away is the same
  abbrev Same : (few many : Advanced) → ℕ → Type 0
  Same few many n = (few.step ≡ step.Runaway → ⊥) → many ≡ with_more few n

  none_more : (q : Place) (vars : List ℕ) (n : ℕ) → Same (stepped vars 0 q) (stepped vars (0 + n) q) n
  none_more ended vars n h = finish vars (0 + n)
  none_more (at y s rest) vars n h = absurd (h refl)
  none_more (within t p rest) vars n h = absurd (h refl)

  more : (units : ℕ) (p : Place) (vars : List ℕ) (n : ℕ) → Same (continued code part event looks p vars units) (continued code part event looks p vars (units + n)) n
  more zero p vars n h =
      let P : Advanced → Type 0 = λ a. a.step ≡ step.Runaway → ⊥ in
      settles p vars (0 + n) ∙ none_more (settled p) vars n (subst P (settles p vars 0) h) ∙ ap (λ a. with_more a n) (sym (settles p vars 0))
  more (suc units) p vars n h =
      let P : Advanced → Type 0 = λ a. a.step ≡ step.Runaway → ⊥ in
      let added : suc units + n ≡ suc (units + n) = omega arith in
      let after : (r : Reached) → Same (follows vars units r) (follows vars (units + n) r) n =
      λ r. elim r as (λ r. Same (follows vars units r) (follows vars (units + n) r) n) [
        | goes_on changed q ↦ λ k. more units q changed n k
        | operates o last_action q ↦ λ k. refl
        | answers a q ↦ λ k. refl
      ] in
      let there : (q : Place) → Same (stepped vars (suc units) q) (stepped vars (suc (units + n)) q) n =
      λ q. elim q as (λ q. Same (stepped vars (suc units) q) (stepped vars (suc (units + n)) q) n) [
        | ended ↦ λ k. ap (λ u. record { step = step.Done Ended; remainder = fresh_of code part; variables = vars; units = u }) (sym added)
        | at y s rest ↦ λ k. after (reached code (whole_of code part) vars event looks (at y s rest)) k
        | within t p' rest ↦ λ k. after (reached code (whole_of code part) vars event looks (within t p' rest)) k
      ] in
      ap (λ u. continued code part event looks p vars u) added
      ∙ settles p vars (suc (units + n)) ∙ there (settled p) (subst P (settles p vars (suc units)) h) ∙ ap (λ a. with_more a n) (sym (settles p vars (suc units)))

  -- a step that ran away leaves the last action of a thread that has run away
  away : (units : ℕ) (p : Place) (vars : List ℕ) → (continued code part event looks p vars units).step ≡ step.Runaway
      → (continued code part event looks p vars units).remainder.last_action ≡ RunAway
  away zero p vars =
      elim (settled p) as (λ q. (stepped vars 0 q).step ≡ step.Runaway → (stepped vars 0 q).remainder.last_action ≡ RunAway) [
        | ended ↦ λ h. cc
        | at y s rest ↦ λ h. refl
        | within t p' rest ↦ λ h. refl
      ]
  away (suc units) p vars =
      let after : (r : Reached) → (follows vars units r).step ≡ step.Runaway → (follows vars units r).remainder.last_action ≡ RunAway =
      λ r. elim r as (λ r. (follows vars units r).step ≡ step.Runaway → (follows vars units r).remainder.last_action ≡ RunAway) [
        | goes_on changed q ↦ λ k. away units q changed k
        | operates o last_action q ↦ λ k. cc
        | answers a q ↦ λ k. cc
      ] in
      elim (settled p) as (λ q. (stepped vars (suc units) q).step ≡ step.Runaway → (stepped vars (suc units) q).remainder.last_action ≡ RunAway) [
        | ended ↦ λ h. cc
        | at y s rest ↦ after (reached code (whole_of code part) vars event looks (at y s rest))
        | within t p' rest ↦ after (reached code (whole_of code part) vars event looks (within t p' rest))
      ]

  -- the units that a step pays
  pays : (units : ℕ) (p : Place) (vars : List ℕ)
      → PaysFor (continued code part event looks p vars units).step units (continued code part event looks p vars units).units
  pays zero p vars =
      elim (settled p) as (λ q. PaysFor (stepped vars 0 q).step 0 (stepped vars 0 q).units) [
        | ended ↦ omega arith
        | at y s rest ↦ omega arith
        | within t p' rest ↦ omega arith
      ]
  pays (suc units) p vars =
      let after : (r : Reached) → PaysFor (follows vars units r).step (suc units) (follows vars units r).units =
      λ r. elim r as (λ r. PaysFor (follows vars units r).step (suc units) (follows vars units r).units) [
        | goes_on changed q ↦ one_more (continued code part event looks q changed units).step units (continued code part event looks q changed units).units (pays units q changed)
        | operates o last_action q ↦ omega arith
        | answers a q ↦ omega arith
      ] in
      elim (settled p) as (λ q. PaysFor (stepped vars (suc units) q).step (suc units) (stepped vars (suc units) q).units) [
        | ended ↦ omega arith
        | at y s rest ↦ after (reached code (whole_of code part) vars event looks (at y s rest))
        | within t p' rest ↦ after (reached code (whole_of code part) vars event looks (within t p' rest))
      ]

not_less : (a b : ℕ) → b ≤ a → nat_lt a b ≡ false
not_less a b h = grind (arith, nat_tests)

by_test : (a b : ℕ) → ((nat_lt a b ≡ true) × (a < b)) ⊎ ((nat_lt a b ≡ false) × (b ≤ a))
by_test a b = grind (arith, nat_tests)

more_from : (m : LastAction) (code : Code) (event : Event) (looks : Looks) (r : Remainder) (vars : List ℕ) (units n : ℕ)
    → Same code r.part event looks (advanced_of code event looks (record r { last_action = m }) vars units) (advanced_of code event looks (record r { last_action = m }) vars (units + n)) n
unfolding advanced_of
more_from AtRest code event looks r vars units n h =
    let k : ℕ = passed r.place in
    let few : Bool → Advanced = λ b. if b then record { step = step.Runaway; remainder = record r { last_action = RunAway }; variables = vars; units = 0 } else continued code r.part event looks r.place vars (units - k) in
    let many : Bool → Advanced = λ b. if b then record { step = step.Runaway; remainder = record r { last_action = RunAway }; variables = vars; units = 0 } else continued code r.part event looks r.place vars (units + n - k) in
    let P : Advanced → Type 0 = λ a. a.step ≡ step.Runaway → ⊥ in
    elim (by_test units k) [
      | inl short ↦ absurd (subst P (ap few short.0) h refl)
      | inr enough ↦
          let left : units + n - k ≡ units - k + n = omega (arith, enough.1) in
          ap many (not_less (units + n) k (omega (arith, enough.1)))
          ∙ ap (λ u. continued code r.part event looks r.place vars u) left
          ∙ more code r.part event looks (units - k) r.place vars n (subst P (ap few enough.0) h)
          ∙ ap (λ a. with_more a n) (sym (ap few enough.0))
    ]
more_from (UnderWay into) code event looks r vars units n h = more code r.part event looks units r.place vars n h
more_from Pausing code event looks r vars units n h = refl
more_from RunAway code event looks r vars units n h = absurd (h refl)

pub more_units : MoreUnitsChangeNothing
more_units code event looks r vars units n h = more_from r.last_action code event looks r vars units n h

-- a call of a thread at rest, depending on whether it has enough units for the spawns that it passes
abbrev pub called : Code → Event → Looks → Remainder → (vars : List ℕ) (units : ℕ) → Bool → Advanced
called code event looks r vars units b =
    if b then record { step = step.Runaway; remainder = record r { last_action = RunAway }; variables = vars; units = 0 } else continued code r.part event looks r.place vars (units - passed r.place)

away_from : (m : LastAction) (code : Code) (event : Event) (looks : Looks) (r : Remainder) (vars : List ℕ) (units : ℕ)
    → (advanced_of code event looks (record r { last_action = m }) vars units).step ≡ step.Runaway → (advanced_of code event looks (record r { last_action = m }) vars units).remainder.last_action ≡ RunAway
unfolding advanced_of
away_from AtRest code event looks r vars units h =
    (elim (nat_lt units (passed r.place)) as (λ b. (called code event looks r vars units b).step ≡ step.Runaway → (called code event looks r vars units b).remainder.last_action ≡ RunAway) [
      | true ↦ λ h. refl
      | false ↦ λ k. away code r.part event looks (units - passed r.place) r.place vars k
    ]) h
away_from (UnderWay into) code event looks r vars units h = away code r.part event looks units r.place vars h
away_from Pausing code event looks r vars units h = absurd (cc)
away_from RunAway code event looks r vars units h = refl

stays_away : (r : Remainder) → r.last_action ≡ RunAway → (code : Code) (event : Event) (looks : Looks) (vars : List ℕ) (units : ℕ)
    → advanced_of code event looks r vars units ≡ record { step = step.Runaway; remainder = r; variables = vars; units = units }
unfolding advanced_of
stays_away r is code event looks vars units =
    ap (λ m. advanced_of code event looks (record r { last_action = m }) vars units) is
    ∙ ap (λ m. record { step = step.Runaway; remainder = record r { last_action = m }; variables = vars; units = units }) (sym is)

pub run_away : RunAwayIsForGood
run_away code event looks r vars units h = λ next seen changed more.
    stays_away (advanced_of code event looks r vars units).remainder (away_from r.last_action code event looks r vars units h) code next seen changed more

less_first : (s : Step) (units k left : ℕ) → PaysFor s (units - k) left → PaysFor s units left
less_first (step.Op o) units k left h = omega arith
less_first (step.Done a) units k left h = omega arith
less_first step.Runaway units k left h = omega arith

pays_from : (m : LastAction) (code : Code) (event : Event) (looks : Looks) (r : Remainder) (vars : List ℕ) (units : ℕ)
    → PaysFor (advanced_of code event looks (record r { last_action = m }) vars units).step units (advanced_of code event looks (record r { last_action = m }) vars units).units
unfolding advanced_of
pays_from AtRest code event looks r vars units =
    elim (nat_lt units (passed r.place)) as (λ b. PaysFor (called code event looks r vars units b).step units (called code event looks r vars units b).units) [
      | true ↦ omega arith
      | false ↦ less_first (continued code r.part event looks r.place vars (units - passed r.place)).step units (passed r.place) (continued code r.part event looks r.place vars (units - passed r.place)).units (pays code r.part event looks (units - passed r.place) r.place vars)
    ]
pays_from (UnderWay into) code event looks r vars units = pays code r.part event looks units r.place vars
pays_from Pausing code event looks r vars units = omega arith
pays_from RunAway code event looks r vars units = omega arith

pub costs : OperationsCostWork
costs code event looks r vars units = pays_from r.last_action code event looks r vars units

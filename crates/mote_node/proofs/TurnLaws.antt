-- Laws of turns.
use Rattle.std.proofs.Common.{ℕ, zero, suc, ◌≡◌, ◌+◌, ◌<◌, nat_le, Bool, true, false, not, ◌&&◌, List, [], ◌∷◌, length, map, Option, Some, None, refl, sym, subst, ap, ◌∙◌, arith, add-one, if◌then◌else◌}
use Rattle.std.proofs.lemmas.Bool.Decides.{nat_tests}
use Rattle.std.specs.List.Sorted.{IsStrictlyIncreasing}
use Rattle.radio_packet.specs.declared.arrival.Arrival.{Arrival}
use Rattle.trace_lines.specs.declared.line.Line.{Line}
use Rattle.process_kernel.specs.KernelModel.{boot_given, Underway, underway_after}
use Rattle.mote_node.specs.Turn.{Node, is_past, turn_goes_on, is_collision, boot_due, work_of, mote_turn, net_turn, node_after, turned_to, turn_of, wake_after}
use Rattle.mote_node.proofs.StepLemmas.{if_true, if_false}
use Rattle.mote_node.specs.Laws.{TurnInput, Turns, Rests, Takes, TurnsRise, HaltedTurnDoesNothing}

increasing_one : (m : ℕ) → IsStrictlyIncreasing (m ∷ [])
increasing_one m k h = absurd (omega arith)

increasing_cons : (m n : ℕ) (ns : List ℕ) → m < n → IsStrictlyIncreasing (n ∷ ns) → IsStrictlyIncreasing (m ∷ n ∷ ns)
increasing_cons m n ns less rest zero h = less
increasing_cons m n ns less rest (suc k) h =
    let here : k + 1 < length (n ∷ ns) = omega arith in rw add-one (rw add-one at (rest k here))

above : (moment : ℕ) (last : Option ℕ) (m : ℕ) → last ≡ Some m → is_past moment last ≡ false → m < moment
above moment None m is past = cc
above moment (Some l) m is past = let same : l ≡ m = cc in grind (arith, nat_tests)

rises_from : (given : List TurnInput) (n last : Node) (m : ℕ) (lines : List Line) → n.last ≡ Some m → Turns n given lines last → IsStrictlyIncreasing (m ∷ map (λ g. g.moment) given)
unfolding turn_of
rises_from [] n last m lines is Rests = increasing_one m
rises_from (g ∷ later) n last m lines is (Takes past rest) =
    increasing_cons m g.moment (map (λ x. x.moment) later) (above g.moment n.last m is past) (rises_from later _ last g.moment _ refl rest)

pub turns_rise : TurnsRise
unfolding turn_of
turns_rise n last [] lines Rests = λ k h. absurd (omega arith)
turns_rise n last (g ∷ later) lines (Takes past rest) = rises_from later _ last g.moment _ refl rest

and_false : (b c : Bool) → c ≡ false → (b && c) ≡ false
and_false true c h = h
and_false false c h = refl

not_and : (halted two : Bool) → true ≡ halted → (not halted && two) ≡ false
not_and true two h = refl
not_and false two h = cc

either : (b : Bool) (u v : Underway) → v ≡ u → (if b then u else v) ≡ u
either true u v h = refl
either false u v h = h

boot_halted : (moment : ℕ) (u : Underway) → true ≡ u.mote.halted → boot_due moment u ≡ u
unfolding boot_due boot_given
boot_halted moment u h = either u.mote.booted u _ (ap underway_after (if_true u.mote.halted _ _ h))

turn_halted : (moment : ℕ) (arrivals : List Arrival) (u : Underway) → true ≡ u.mote.halted → mote_turn moment arrivals u ≡ u
unfolding mote_turn
turn_halted moment arrivals u h =
    let P : Underway → Type 0 = λ v. turn_goes_on v (work_of moment arrivals v) ≡ u in
    subst P (sym (boot_halted moment u h)) (if_true u.mote.halted u (work_of moment arrivals u) h)

net_halted : (collides : Bool) (moment : ℕ) (arrivals : List Arrival) (u : Underway) → true ≡ u.mote.halted → net_turn collides moment arrivals u ≡ u
unfolding net_turn
net_halted collides moment arrivals u h =
    if_false _ _ _ (sym (and_false collides (is_collision u.mote arrivals) (not_and u.mote.halted (nat_le 2 (length arrivals)) h)))
    ∙ turn_halted moment arrivals u h

pub halted_turn_does_nothing : HaltedTurnDoesNothing
unfolding turn_of
halted_turn_does_nothing moment arrivals n h =
    ap (turned_to n moment) (net_halted n.collides moment arrivals (record { mote = n.mote; lines = []; sends = [] }) (sym h))
    ∙ ap (λ w. record { node = node_after n moment n.mote; lines = []; sends = []; wake = w }) (if_true n.mote.halted None (wake_after moment n.mote) (sym h))

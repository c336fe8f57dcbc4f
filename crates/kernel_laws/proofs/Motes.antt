-- After each call of a kernel, the mote's lines still agree with the mote.
use Rattle.std.proofs.Common.{ℕ, ◌≡◌, ◌+◌, Bool, true, false, if◌then◌else◌, List, [], ◌∷◌, ◌++◌, refl, sym, ◌∙◌, subst, append-nil}
use Rattle.std.proofs.lemmas.List.{map-append}
use Rattle.kernel_laws.specs.HandedOn as handed
use Rattle.kernel_laws.specs.View as view
use Rattle.kernel_laws.proofs.Views.{goes_further, goes_to_halt, other_moves, goes_with_hands_on, halted_hands_on, goes_with_halts_last, halted_halts_last, goes_with_starts, halted_starts}
use Rattle.program_tree.specs.declared.event.Proc.{Proc}
use Rattle.trace_lines.specs.declared.line.Line.{Line}
use Rattle.trace_lines.specs.declared.line.What.{What}
use Rattle.trace_lines.specs.declared.line.What.TheVariants as what
use Rattle.process_kernel.specs.ProcessList.{is_alive, process_state, with_needs_poll}
use Rattle.radio_packet.specs.declared.sent.Sent.{Sent}
use Rattle.radio_packet.specs.declared.arrival.Arrival.{Arrival}
use Rattle.process_kernel.specs.State.{KernelState, Outcome, Ends, Goes}
use Rattle.process_kernel.specs.KernelModel.{KernelModel, with_packet, with_poll, begun_of, most_units, Given, given, begun, boot_given, run_given}
use Rattle.process_kernel.specs.Operations.{calls_of}
use Rattle.process_kernel.specs.Process.{process_run, boot_of}
use Rattle.process_kernel.specs.Posts.{process_poll}
use Rattle.kernel_laws.specs.Seen.{seen_what, seen_lines, view_of}
use Rattle.kernel_laws.specs.Going.{SystemStays, IsBlank, GoesWithAs, GoesWith, AppendsLines, IsNote, IsInOrder}
use Rattle.kernel_laws.proofs.Steps.{IsQuiet, quiet, view_quiet, poll_quiet, calls_run}
use Rattle.kernel_laws.proofs.Delivers.{machine_of, RestsAt, rests_behind, begun_run, begun_lines, begun_sound, boot_run, kernel_run}

-- more lines of a mote whose lines so far agree with it
traced_more : (lines : List Line) (s : KernelState) (before : List Line) (sends : List Sent) (g : view.GoesWithView (seen_lines lines) (view_of s)) (o : Outcome ℕ) →
    RestsAt (machine_of s g.walked []) (record s { lines = before; sends = sends }) o → AppendsLines lines before (given o)
traced_more lines s before sends g (Ends t) r = record {
  added = r.added;
  wrote = r.wrote;
  goes = rw map-append (goes_to_halt (seen_lines lines) (seen_lines r.added) (view_of s) g r.halts);
}
traced_more lines s before sends g (Goes a t) r = record {
  added = r.added;
  wrote = r.wrote;
  goes = record {
    matches = rw map-append (goes_further (seen_lines lines) (seen_lines r.added) (view_of s) (view_of t) r.walked g r.runs);
    sound = record { stays = r.sound.stays; fits = r.sound.fits };
  };
}

pub run_rests : (m : KernelModel) (moment : ℕ) (before : List Line) (sends : List Sent) (walked : ℕ) → SystemStays m.state → RestsAt (machine_of m.state walked []) (record (m.state) { lines = before; sends = sends }) (process_run (calls_of (most_units + 1)) (begun m moment before sends))
run_rests m moment before sends walked h =
    let s = record (m.state) { lines = before; sends = sends } in
    let k : SystemStays s = record { stays = h.stays; fits = h.fits } in
    rests_behind ℕ (machine_of s walked []) s (begun_of s moment) (machine_of (begun_of s moment) walked []) _ [] (begun_lines s moment) (begun_run s moment walked) (kernel_run (calls_of (most_units + 1)) (calls_run (most_units + 1)) (begun_of s moment) walked (begun_sound s moment k))

-- nothing is added
adds_none : (lines before : List Line) (g : Given) → g.lines ≡ before → GoesWith lines g.mote → AppendsLines lines before g
adds_none lines before g e h = record { added = []; wrote = e ∙ sym (append-nil before); goes = rw append-nil h }

run_halted : (m : KernelModel) (moment : ℕ) (lines before : List Line) (sends : List Sent) (h : Bool) → m.booted ≡ true → m.halted ≡ h → GoesWithAs true h lines m.state → AppendsLines lines before (run_given moment m before sends)
unfolding run_given
run_halted m moment lines before sends true b h g = rw h (adds_none lines before _ refl (rw b g))
run_halted m moment lines before sends false b h g = rw h (traced_more lines m.state before sends g.matches _ (run_rests m moment before sends g.matches.walked g.sound))

goes_booted : (lines : List Line) (m : KernelModel) → m.booted ≡ true → GoesWith lines m → GoesWithAs true m.halted lines m.state
goes_booted lines m b g = subst (λ x. GoesWithAs x m.halted lines m.state) b g

pub goes_unbooted : (lines : List Line) (m : KernelModel) → m.booted ≡ false → GoesWith lines m → GoesWithAs false m.halted lines m.state
goes_unbooted lines m b g = subst (λ x. GoesWithAs x m.halted lines m.state) b g

-- a kernel run
pub run_adds : (lines : List Line) (m : KernelModel) (moment : ℕ) (before : List Line) (sends : List Sent) → m.booted ≡ true → GoesWith lines m → AppendsLines lines before (run_given moment m before sends)
run_adds lines m moment before sends b g = run_halted m moment lines before sends m.halted b refl (goes_booted lines m b g)

-- boot

pub boot_rests : (m : KernelModel) (moment : ℕ) (before : List Line) (sends : List Sent) (walked : ℕ) → IsBlank m.state → RestsAt (machine_of m.state walked []) (record (m.state) { lines = before; sends = sends }) (boot_of (calls_of (most_units + 1)) (begun m moment before sends))
unfolding begun_of
boot_rests m moment before sends walked k =
    let s = record (m.state) { lines = before; sends = sends } in
    rests_behind ℕ (machine_of s walked []) s (begun_of s moment) (machine_of (begun_of s moment) walked []) _ [] (begun_lines s moment) (begun_run s moment walked) (boot_run (calls_of (most_units + 1)) (calls_run (most_units + 1)) (begun_of s moment) walked (rw (k.members) refl) k.events k.idle k.there)

boot_first : (lines : List Line) (m : KernelModel) (moment : ℕ) (before : List Line) (sends : List Sent) (h : Bool) → m.halted ≡ h → GoesWithAs false h lines m.state → AppendsLines lines before (boot_given moment m before sends)
unfolding boot_given
boot_first lines m moment before sends true h g = absurd g
boot_first lines m moment before sends false h g = rw h (traced_more lines m.state before sends g.matches _ (boot_rests m moment before sends g.matches.walked g.blank))

pub boot_adds : (lines : List Line) (m : KernelModel) (moment : ℕ) (before : List Line) (sends : List Sent) → m.booted ≡ false → GoesWith lines m → AppendsLines lines before (boot_given moment m before sends)
boot_adds lines m moment before sends b g = boot_first lines m moment before sends m.halted refl (goes_unbooted lines m b g)

-- polls and packets

blank_poll : (s : KernelState) (p : Proc) → IsBlank s → IsBlank (process_poll s p)
unfolding process_poll with_needs_poll
blank_poll s p k = elim (is_alive (process_state s p)) as (λ b. IsBlank (if b then record (with_needs_poll s p true) { poll_requested = true } else s)) [ true ↦ record { members = k.members; events = k.events; idle = k.idle; there = k.there } | false ↦ k ]

traced_quiet : (lines : List Line) (s t : KernelState) → IsQuiet s t → view.GoesWithView (seen_lines lines) (view_of s) → view.GoesWithView (seen_lines lines) (view_of t)
traced_quiet lines s t q g = subst (λ v. view.GoesWithView (seen_lines lines) v) (view_quiet s t q) g

goes_quiet : (booted halted : Bool) (lines : List Line) (s t : KernelState) → IsQuiet s t → (IsBlank s → IsBlank t) → GoesWithAs booted halted lines s → GoesWithAs booted halted lines t
goes_quiet false false lines s t q f g = record { matches = traced_quiet lines s t q g.matches; blank = f g.blank }
goes_quiet false true lines s t q f g = absurd g
goes_quiet true false lines s t q f g = record { matches = traced_quiet lines s t q g.matches; sound = (quiet s t q).sound g.sound }
goes_quiet true true lines s t q f g = g

pub poll_keeps : (lines : List Line) (m : KernelModel) (p : Proc) → GoesWith lines m → GoesWith lines (with_poll m p)
unfolding with_poll
poll_keeps lines m p g = goes_quiet m.booted m.halted lines m.state _ (poll_quiet m.state p) (blank_poll m.state p) g

pub packet_keeps : (lines : List Line) (m : KernelModel) (a : Arrival) → GoesWith lines m → GoesWith lines (with_packet m a)
unfolding with_packet
packet_keeps lines m a g =
    goes_quiet m.booted m.halted lines m.state _ (record { lines = refl; members = refl; started = refl; queue = refl }) (λ k. record { members = k.members; events = k.events; idle = k.idle; there = k.there }) g

-- lines of packets that arrive

note_is_other : (w : What) → IsNote w → seen_what w ≡ handed.Other
note_is_other (what.Recv f n v) h = refl
note_is_other (what.Lost f n) h = refl
note_is_other (what.Collide f n) h = refl
note_is_other x h = absurd h

traced_noted : (lines : List Line) (s : KernelState) (l : Line) → IsNote l.what → view.GoesWithView (seen_lines lines) (view_of s) → view.GoesWithView (seen_lines (lines ++ l ∷ [])) (view_of s)
traced_noted lines s l n g = rw (map-append, note_is_other l.what n) (goes_further (seen_lines lines) (handed.Other ∷ []) (view_of s) (view_of s) g.walked g (other_moves (view_of s) g.walked []))

noted : (booted : Bool) (lines : List Line) (s : KernelState) (l : Line) → IsNote l.what → GoesWithAs booted false lines s → GoesWithAs booted false (lines ++ l ∷ []) s
noted false lines s l n g = record { matches = traced_noted lines s l n g.matches; blank = g.blank }
noted true lines s l n g = record { matches = traced_noted lines s l n g.matches; sound = g.sound }

pub note_keeps : (lines : List Line) (m : KernelModel) (l : Line) → m.halted ≡ false → IsNote l.what → GoesWith lines m → GoesWith (lines ++ l ∷ []) m
note_keeps lines m l h n g =
    let k : GoesWithAs m.booted false lines m.state = subst (λ x. GoesWithAs m.booted x lines m.state) h g in rw h (noted m.booted lines m.state l n k)

-- the properties of lines that agree with a mote

traced_in_order : (lines : List Line) (s : KernelState) → view.GoesWithView (seen_lines lines) (view_of s) → IsInOrder lines
traced_in_order lines s g = record { handed_on = goes_with_hands_on _ _ g; halt_is_last = goes_with_halts_last _ _ g; starts = goes_with_starts _ _ g }

in_order_as : (booted halted : Bool) (lines : List Line) (s : KernelState) → GoesWithAs booted halted lines s → IsInOrder lines
in_order_as false false lines s g = traced_in_order lines s g.matches
in_order_as false true lines s g = absurd g
in_order_as true false lines s g = traced_in_order lines s g.matches
in_order_as true true lines s g = record { handed_on = halted_hands_on _ g; halt_is_last = halted_halts_last _ g; starts = halted_starts _ g }

pub in_order : (lines : List Line) (m : KernelModel) → GoesWith lines m → IsInOrder lines
in_order lines m g = in_order_as m.booted m.halted lines m.state g

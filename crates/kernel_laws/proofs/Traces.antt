-- After each call, the trace of a kernel still agrees with its mote.
use Rattle.std.proofs.Common.{ℕ, ◌≡◌, ◌+◌, nat_lt, Bool, true, false, if◌then◌else◌, List, [], ◌∷◌, ◌++◌, length, unwrap_or, slice_get, refl, ◌∙◌, arith}
use Rattle.std.proofs.Math.ListN.{replicate}
use Rattle.std.proofs.lemmas.List.{get_or-replicate, length-replicate}
use Rattle.std.proofs.lemmas.Option.{unwrap_or-slice_get}
use Rattle.std.proofs.lemmas.Bool.Decides.{nat_tests}
use Rattle.kernel_laws.specs.Delivery.{stays}
use Rattle.program_tree.specs.Code.{Tree}
use Rattle.process_kernel.specs.declared.process.ProcessState.TheVariants.{Off}
use Rattle.trace_lines.specs.declared.line.Line.{Line}
use Rattle.radio_packet.specs.declared.sent.Sent.{Sent}
use Rattle.process_kernel.specs.State.{KernelState, Outcome, Ends, Goes}
use Rattle.process_kernel.specs.KernelModel.{KernelModel, unbooted, with_poll, with_packet, Given, given, boot_given, run_given}
use Rattle.kernel_laws.specs.Going.{GoesWithAs, GoesWith, AppendsLines, IsNote}
use Rattle.kernel_laws.specs.Traces.{KernelCall, RunAt, PollOf, Accepts, Notes, Traced, with_given, traced_after_call, traced_after_calls, booted_at}
use Rattle.kernel_laws.specs.Laws.{KernelsHandOn, NoLinesGoFirst}
use Rattle.kernel_laws.proofs.Motes.{goes_unbooted, run_adds, boot_adds, poll_keeps, packet_keeps, note_keeps, in_order}

is_off : (n : ℕ) → unwrap_or (slice_get (replicate (n + 3) Off) 0) Off ≡ Off
is_off n = unwrap_or-slice_get (replicate (n + 3) Off) 0 Off ∙ get_or-replicate (n + 3) 0 Off Off (omega arith)

is_unset : (n : ℕ) → unwrap_or (slice_get (replicate (n + 3) false) 0) false ≡ false
is_unset n = unwrap_or-slice_get (replicate (n + 3) false) 0 false ∙ get_or-replicate (n + 3) 0 false false (omega arith)

is_there : (n : ℕ) → nat_lt 0 (length (replicate (n + 3) Off)) ≡ true
is_there n = let e = length-replicate (n + 3) Off in rw e (grind (arith, nat_tests))

pub no_lines_first : NoLinesGoFirst
unfolding unbooted
no_lines_first program mote queue =
    let n = length program.processes in record { matches = record { walked = 0; runs = stays }; blank = record { members = refl; events = refl; idle = rw (is_off n, is_unset n) refl; there = is_there n } }

-- a call without earlier lines adds all the lines that it returns
given_adds : (t : Traced) (g : Given) → AppendsLines t.lines [] g → GoesWith (with_given t g).lines (with_given t g).mote
given_adds t g h = rw (h.wrote) h.goes

-- a booted mote and lines that agree with it
record IsTraced (t : Traced) : Type 0 where
  booted : t.mote.booted ≡ true
  goes : GoesWith t.lines t.mote

given_booted : (o : Outcome ℕ) → (given o).mote.booted ≡ true
given_booted (Ends s) = refl
given_booted (Goes a s) = refl

unless_booted : (h : Bool) (f g : Given) → f.mote.booted ≡ true → g.mote.booted ≡ true → (if h then f else g).mote.booted ≡ true
unless_booted true f g a b = a
unless_booted false f g a b = b

pub run_booted : (m : KernelModel) (moment : ℕ) (before : List Line) (sends : List Sent) → m.booted ≡ true → (run_given moment m before sends).mote.booted ≡ true
unfolding run_given
run_booted m moment before sends b = unless_booted m.halted _ _ b (given_booted _)

-- a mote that was not booted, and whose lines agree with it, has not halted
open_first : (halted : Bool) (lines : List Line) (s : KernelState) → GoesWithAs false halted lines s → halted ≡ false
open_first true lines s g = absurd g
open_first false lines s g = refl

pub boot_booted : (lines : List Line) (m : KernelModel) (moment : ℕ) (before : List Line) (sends : List Sent) → m.booted ≡ false → GoesWith lines m → (boot_given moment m before sends).mote.booted ≡ true
unfolding boot_given
boot_booted lines m moment before sends b g =
    let h : m.halted ≡ false = open_first m.halted lines m.state (goes_unbooted lines m b g) in rw h (given_booted _)

noted : (t : Traced) (l : Line) → IsNote l.what → (h : Bool) → t.mote.halted ≡ h → IsTraced t → IsTraced (if h then t else record t { lines = t.lines ++ l ∷ [] })
noted t l n true e i = i
noted t l n false e i = record { booted = i.booted; goes = note_keeps t.lines t.mote l e n i.goes }

call_traced : (t : Traced) (c : KernelCall) → IsTraced t → IsTraced (traced_after_call t c)
unfolding with_poll with_packet
call_traced t (RunAt moment) i = record {
  booted = run_booted t.mote moment [] [] i.booted;
  goes = given_adds t _ (run_adds t.lines t.mote moment [] [] i.booted i.goes);
}
call_traced t (PollOf p) i = record { booted = i.booted; goes = poll_keeps t.lines t.mote p i.goes }
call_traced t (Accepts a) i = record { booted = i.booted; goes = packet_keeps t.lines t.mote a i.goes }
call_traced t (Notes l n) i = noted t l n t.mote.halted refl i

calls_traced : (cs : List KernelCall) (t : Traced) → IsTraced t → IsTraced (traced_after_calls t cs)
calls_traced [] t i = i
calls_traced (c ∷ cs) t i = calls_traced cs (traced_after_call t c) (call_traced t c i)

boot_traced : (program : Tree) (mote queue moment : ℕ) → IsTraced (booted_at program mote queue moment)
unfolding boot_given unbooted
boot_traced program mote queue moment =
    let m = unbooted program mote queue in
    let t : Traced = record { mote = m; lines = [] } in
    record {
      booted = given_booted _;
      goes = given_adds t _ (boot_adds [] m moment [] [] refl (no_lines_first program mote queue));
    }

pub kernels_hand_on : KernelsHandOn
kernels_hand_on program mote queue moment calls =
    let i = calls_traced calls _ (boot_traced program mote queue moment) in in_order _ _ i.goes

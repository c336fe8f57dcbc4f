-- After each boot, kernel run and call of a kernel, the lines about a process are still those of its lives.
use Rattle.std.proofs.Common.{ℕ, ◌≡◌, ◌+◌, Bool, true, false, nat_lt, if◌then◌else◌, List, [], ◌∷◌, ◌++◌, inl, inr, Some, length, slice_get, refl, sym, ap, ◌∙◌, subst, append-nil}
use Rattle.std.specs.Prelude.{option_map}
use Rattle.std.proofs.lemmas.List.{length-replicate}
use Rattle.std.proofs.lemmas.List.Elements.{filter-append}
use Rattle.std.proofs.lemmas.Option.{slice_get-map}
use Rattle.program_tree.specs.declared.event.Proc.TheVariants.{Own}
use Rattle.program_tree.specs.Code.{Code, Tree}
use Rattle.protothread.specs.declared.part.Part.TheVariants.{Body}
use Rattle.protothread.specs.Remainder.{fresh_of}
use Rattle.trace_lines.specs.declared.line.Line.{Line}
use Rattle.radio_packet.specs.declared.sent.Sent.{Sent}
use Rattle.trace_lines.specs.declared.line.What.{What}
use Rattle.trace_lines.specs.declared.line.What.TheVariants as what
use Rattle.process_kernel.specs.declared.process.ProcessState.{ProcessState}
use Rattle.process_kernel.specs.declared.process.ProcessState.TheVariants.{Off, Running, Called}
use Rattle.process_kernel.specs.ProcessList.{place_of}
use Rattle.process_kernel.specs.State.{KernelState, Outcome, Ends, Goes, Calls}
use Rattle.process_kernel.specs.Operations.{calls_of}
use Rattle.process_kernel.specs.KernelModel.{begun_of, most_units, KernelModel, unbooted, with_poll, with_packet, given, begun, boot_given, run_given}
use Rattle.process_kernel.specs.Process.{process_run, boot_of}
use Rattle.kernel_laws.specs.Going.{IsNote}
use Rattle.kernel_laws.specs.InStep.{AreInStep, state_at_place, exiting_at, listed_in}
use Rattle.kernel_laws.specs.Traces.{KernelCall, RunAt, PollOf, Accepts, Notes, Traced, traced_after_call, traced_after_calls, booted_at}
use Rattle.kernel_laws.specs.Printed.{IsQuietApart, starts_or_prints, starts_and_prints, Unborn, LivesSoFar, OnRecord, PrintsAreTheReading, PrintsSoFarAreTheReading}
use Rattle.kernel_laws.specs.Telling.{ProcessInMote, process_in_mote, RestsAsTraced, TellsSoFar, IsProcess, TellingIsOfLives, TellingIsOfLivesSoFar, NoLinesTellFirst, BootTells, RunTells, PollTells, PacketTells, NoteTells}
use Rattle.kernel_laws.proofs.Resting.{numbered_listed, first_rests}
use Rattle.kernel_laws.proofs.ProcessInMote.{IsQuiet, traced_more, line_quiet, needs_poll_quiet, poll_quiet}
use Rattle.kernel_laws.proofs.EachStep.{Lead, AreRunSteps, kernel_led, boot_led, unless_halts}
use Rattle.kernel_laws.proofs.BodyCalls.{Keeps, Stops, chain, quiet_keeps, Leads, AreTraced, start_led, all_calls_traced}

module _ (program : Tree) (mote p : ℕ) (code : Code) (is_code : slice_get program.codes p ≡ Some code) (apart : IsQuietApart code) where
  -- boots and kernel runs
  module _ (earlier : List Line) (calls : Calls) (are : AreTraced program mote p code earlier calls) where
    abbrev K : KernelState → KernelState → Type 0
    K s t = Keeps program mote p code earlier s t

    abbrev S : KernelState → KernelState → Type 0
    S s t = Stops program mote p code earlier s t

    quietly : (s t : KernelState) → IsQuiet p s t → K s t
    quietly s t e = quiet_keeps program mote p code earlier s t e

    run_steps : AreRunSteps K S (chain program mote p code earlier)
    run_steps = record {
      unrequested = λ s. quietly s _ refl;
      cleared = λ s q. quietly s _ (needs_poll_quiet p s q false);
      front = λ s. quietly s _ refl;
      takes = λ s n q. quietly s _ (line_quiet p s (what.Take n q) refl);
      drops = λ s n q. quietly s _ (line_quiet p s (what.Drop n q) refl);
    }

    run_leads : (s : KernelState) → Lead K S ℕ s (process_run calls s)
    run_leads s = kernel_led K S (chain program mote p code earlier) calls run_steps are.call s

    boot_leads : (s : KernelState) → Lead K S ℕ s (boot_of calls s)
    boot_leads s = boot_led K S (chain program mote p code earlier) calls (start_led program mote p code earlier is_code apart calls are) s

-- between the calls of a kernel

module _ (program : Tree) (mote p : ℕ) (code : Code) where
  traced_twice : (xs ys : List Line) → starts_and_prints (Own p) (xs ++ ys) ≡ starts_and_prints (Own p) xs ++ starts_and_prints (Own p) ys
  traced_twice xs ys = filter-append (λ l. starts_or_prints (Own p) l.what) xs ys

  -- the same, whatever the lines of the current run are
  traced_again : (lines_so_far : List Line) (v : ProcessInMote) (moment : ℕ) (now : List Line) → RestsAsTraced program mote p code lines_so_far v → RestsAsTraced program mote p code lines_so_far (record v { moment = moment; lines_so_far = now })
  traced_again lines_so_far v moment now h = record {
    of_program = h.of_program;
    of_mote = h.of_mote;
    tables = h.tables;
    free = h.free;
    still = h.still;
    rest = h.rest;
    left = h.left;
    vars = h.vars;
    lived = h.lived;
    where_it_is = elim h.where_it_is [ inl out ↦ inl (record { state = out.state; listed = out.listed }) | inr here ↦ inr (record { has = here.has; state = here.state; listed = here.listed; comes = here.comes }) ];
  }

  begun_in_state : (m : KernelModel) (moment : ℕ) (before : List Line) (sends : List Sent) → process_in_mote p (begun m moment before sends) ≡ record (process_in_mote p m.state) { moment = moment; lines_so_far = starts_and_prints (Own p) before }
  unfolding begun_of
  begun_in_state m moment before sends = ap (λ b. record (process_in_mote p m.state) { moment = moment; listed = b; lines_so_far = starts_and_prints (Own p) before }) (numbered_listed 0 m.state.members (place_of (Own p)))

  begins : (earlier : List Line) (m : KernelModel) (moment : ℕ) (before : List Line) (sends : List Sent) → RestsAsTraced program mote p code (starts_and_prints (Own p) (earlier ++ before)) (process_in_mote p m.state)
      → let s = begun m moment before sends in RestsAsTraced program mote p code (starts_and_prints (Own p) earlier ++ (process_in_mote p s).lines_so_far) (process_in_mote p s)
  begins earlier m moment before sends h =
      subst (λ v. RestsAsTraced program mote p code (starts_and_prints (Own p) earlier ++ v.lines_so_far) v) (sym (begun_in_state m moment before sends))
      (subst (λ l. RestsAsTraced program mote p code l (record (process_in_mote p m.state) { moment = moment; lines_so_far = starts_and_prints (Own p) before })) (traced_twice earlier before) (traced_again _ (process_in_mote p m.state) moment _ h))

  -- the lines that a boot or a run adds if it continues
  given_traced : (earlier : List Line) (m : KernelModel) (moment : ℕ) (before : List Line) (sends : List Sent) (o : Outcome ℕ) → RestsAsTraced program mote p code (starts_and_prints (Own p) (earlier ++ before)) (process_in_mote p m.state)
      → Leads program mote p code (starts_and_prints (Own p) earlier) ℕ (begun m moment before sends) o → TellsSoFar program mote p code (earlier ++ (given o).lines) (given o).mote
  given_traced earlier m moment before sends (Ends t) h leads = record {
    going = λ on. absurd (cc);
    halted = λ off. subst (λ l. LivesSoFar code (Own p) mote code.starts l) (sym (traced_twice earlier t.lines)) (leads.leads.in_state (begins earlier m moment before sends h));
  }
  given_traced earlier m moment before sends (Goes a t) h leads = record {
    going = λ on. subst (λ l. RestsAsTraced program mote p code l (record (process_in_mote p t) { lines_so_far = [] })) (sym (traced_twice earlier t.lines)) (traced_again _ (process_in_mote p t) t.moment [] (leads.leads.in_state (begins earlier m moment before sends h)));
    halted = λ off. absurd (cc);
  }

pub run_tells : RunTells
unfolding run_given
run_tells program mote p code earlier m moment before sends is h =
    let lines_so_far = starts_and_prints (Own p) earlier in
    unless_halts (λ g. TellsSoFar program mote p code (earlier ++ g.lines) g.mote) m before sends _ (λ off. h) (λ on. given_traced program mote p code earlier m moment before sends _ (h.going on) (run_leads program mote p code is.is_code is.quiet lines_so_far (calls_of (most_units + 1)) (all_calls_traced program mote p code lines_so_far is.is_code is.quiet (most_units + 1)) (begun m moment before sends)))

pub boot_tells : BootTells
unfolding boot_given
boot_tells program mote p code earlier m moment before sends is h =
    let lines_so_far = starts_and_prints (Own p) earlier in
    unless_halts (λ g. TellsSoFar program mote p code (earlier ++ g.lines) g.mote) m before sends _ (λ off. h) (λ on. given_traced program mote p code earlier m moment before sends _ (h.going on) (boot_leads program mote p code is.is_code is.quiet lines_so_far (calls_of (most_units + 1)) (all_calls_traced program mote p code lines_so_far is.is_code is.quiet (most_units + 1)) (begun m moment before sends)))

pub poll_tells : PollTells
unfolding with_poll
poll_tells program mote p code lines m q h = record {
  going = λ on. subst (λ v. RestsAsTraced program mote p code (starts_and_prints (Own p) lines) v) (sym (poll_quiet p m.state q)) (h.going on);
  halted = h.halted;
}

pub packet_tells : PacketTells
unfolding with_packet
packet_tells program mote p code lines m a h = record { going = h.going; halted = h.halted }

note_apart : (p : ℕ) (w : What) → IsNote w → starts_or_prints (Own p) w ≡ false
note_apart p (what.Recv f n v) h = refl
note_apart p (what.Lost f n) h = refl
note_apart p (what.Collide f n) h = refl
note_apart p x h = absurd h

note_silent : (p : ℕ) (lines : List Line) (l : Line) → IsNote l.what → starts_and_prints (Own p) (lines ++ l ∷ []) ≡ starts_and_prints (Own p) lines
note_silent p lines l n = traced_more (Own p) lines l ∙ ap (λ b. starts_and_prints (Own p) lines ++ (if b then l ∷ [] else [])) (note_apart p l.what n) ∙ append-nil _

pub note_tells : NoteTells
note_tells program mote p code lines m l n h = record {
  going = λ on. subst (λ lines_so_far. RestsAsTraced program mote p code lines_so_far (process_in_mote p m.state)) (sym (note_silent p lines l n)) (h.going on);
  halted = λ off. subst (λ lines_so_far. LivesSoFar code (Own p) mote code.starts lines_so_far) (sym (note_silent p lines l n)) (h.halted off);
}

-- before the boot

is_off : (x : ProcessState) (e l : Bool) → AreInStep x e l → l ≡ false → x ≡ Off
is_off Off e l h q = refl
is_off Running e l h q = absurd (let f : true ≡ false = sym h.1 ∙ q in cc)
is_off Called e l h q = absurd (let f : true ≡ false = sym h.1 ∙ q in cc)

first_in_state : (program : Tree) (mote p : ℕ) (code : Code) (queue : ℕ) → IsProcess program p code → RestsAsTraced program mote p code [] (process_in_mote p (unbooted program mote queue).state)
unfolding unbooted
first_in_state program mote p code queue is =
    let s = (unbooted program mote queue).state in
    let n = length program.processes + 3 in
    let r = first_rests program mote queue in
    let k = place_of (Own p) in record {
      of_program = refl;
      of_mote = refl;
      tables = ap (nat_lt k) (length-replicate n false ∙ sym (length-replicate n Off));
      free = r.idle.exiting k;
      still = fresh_of code Body;
      rest = slice_get-map (λ c. fresh_of c Body) program.codes p ∙ ap (λ o. option_map (λ c. fresh_of c Body) o) is.is_code;
      left = code.starts;
      vars = slice_get-map (λ c. c.starts) program.codes p ∙ ap (λ o. option_map (λ c. c.starts) o) is.is_code;
      lived = Unborn;
      where_it_is = inl (record { state = is_off (state_at_place s k) (exiting_at s k) (listed_in s.members k) (r.step.each k) refl; listed = refl });
    }

pub no_lines_tell_first : NoLinesTellFirst
unfolding unbooted
no_lines_tell_first program mote p code queue is = record { going = λ on. first_in_state program mote p code queue is; halted = λ off. absurd (cc) }

pub telling_is_of_lives : TellingIsOfLives
telling_is_of_lives program mote p code lines m h on = let k = h.going on in (k.left, k.vars, k.lived)

pub telling_is_of_lives_so_far : TellingIsOfLivesSoFar
telling_is_of_lives_so_far program mote p code lines m h = by m.halted refl
  where
    by : (b : Bool) → m.halted ≡ b → LivesSoFar code (Own p) mote code.starts (starts_and_prints (Own p) lines)
    by true e = h.halted e
    by false e = OnRecord (h.going e).lived

-- any calls of a kernel

module _ (program : Tree) (mote p : ℕ) (code : Code) (is : IsProcess program p code) where
  abbrev Tells : Traced → Type 0
  Tells t = TellsSoFar program mote p code t.lines t.mote

  call_tells : (t : Traced) (c : KernelCall) → Tells t → Tells (traced_after_call t c)
  call_tells t (RunAt moment) h = run_tells program mote p code t.lines t.mote moment [] [] is (subst (λ l. TellsSoFar program mote p code l t.mote) (sym (append-nil t.lines)) h)
  call_tells t (PollOf q) h = poll_tells program mote p code t.lines t.mote q h
  call_tells t (Accepts a) h = packet_tells program mote p code t.lines t.mote a h
  call_tells t (Notes l n) h = noted t.mote.halted
    where
      noted : (b : Bool) → Tells (if b then t else record t { lines = t.lines ++ l ∷ [] })
      noted true = h
      noted false = note_tells program mote p code t.lines t.mote l n h

  calls_tell : (cs : List KernelCall) (t : Traced) → Tells t → Tells (traced_after_calls t cs)
  calls_tell [] t h = h
  calls_tell (c ∷ cs) t h = calls_tell cs (traced_after_call t c) (call_tells t c h)

  booted_tells : (queue moment : ℕ) → Tells (booted_at program mote queue moment)
  booted_tells queue moment = boot_tells program mote p code [] (unbooted program mote queue) moment [] [] is (no_lines_tell_first program mote p code queue is)

pub prints_are_the_reading : PrintsAreTheReading
prints_are_the_reading program p code mote queue moment calls is_code quiet on =
    let is : IsProcess program p code = record { is_code = is_code; quiet = quiet } in
    let first = booted_at program mote queue moment in
    let t = traced_after_calls first calls in
    telling_is_of_lives program mote p code t.lines t.mote (calls_tell program mote p code is calls first (booted_tells program mote p code is queue moment)) on

pub prints_so_far_are_the_reading : PrintsSoFarAreTheReading
prints_so_far_are_the_reading program p code mote queue moment calls is_code quiet =
    let is : IsProcess program p code = record { is_code = is_code; quiet = quiet } in
    let first = booted_at program mote queue moment in
    let t = traced_after_calls first calls in
    telling_is_of_lives_so_far program mote p code t.lines t.mote (calls_tell program mote p code is calls first (booted_tells program mote p code is queue moment))

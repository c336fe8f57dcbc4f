-- Between the calls of a kernel, exactly the processes on the list are running.
use Rattle.std.proofs.Common.{ℕ, suc, ◌≡◌, ◌+◌, ◌≤◌, ◌==◌, ◌||◌, inl, inr, Bool, true, false, if◌then◌else◌, List, [], ◌∷◌, ◌++◌, length, unwrap_or, slice_get, refl, sym, ap, ◌∙◌, subst, arith}
use Rattle.std.proofs.Math.ListN.{replicate}
use Rattle.std.proofs.lemmas.List.{get_or-replicate, length-replicate}
use Rattle.std.proofs.lemmas.Option.{unwrap_or-slice_get, slice_get_past}
use Rattle.program_tree.specs.declared.event.Proc.{Proc}
use Rattle.program_tree.specs.declared.event.Event.{Event}
use Rattle.program_tree.specs.Code.{Tree}
use Rattle.process_kernel.specs.declared.process.ProcessState.{ProcessState}
use Rattle.process_kernel.specs.declared.process.ProcessState.TheVariants.{Off, Running, Called}
use Rattle.process_kernel.specs.declared.process.Member.{Member}
use Rattle.process_kernel.specs.ProcessList.{place_of, is_running, is_running_state, is_called_state, numbered_from}
use Rattle.process_kernel.specs.State.{KernelState, Outcome, Went, Ends, Goes, Calls}
use Rattle.process_kernel.specs.Process.{call_process}
use Rattle.process_kernel.specs.Operations.{calls_of}
use Rattle.process_kernel.specs.KernelModel.{begun_of, most_units, KernelModel, at_rest, unbooted, with_packet, with_poll, given, begun, boot_given, run_given}
use Rattle.kernel_laws.specs.InStep.{state_at_place, exiting_at, listed_in, AreInStep, IsInStep, IsIdle}
use Rattle.kernel_laws.specs.Traces.{KernelCall, RunAt, PollOf, Accepts, Notes, Traced, traced_after_call, traced_after_calls, booted_at}
use Rattle.kernel_laws.specs.Laws.{OnlyTheRunningAreCalled, CallsKeepStep, ListedAreRunning}
use Rattle.kernel_laws.proofs.EachStep.{Whatever, runs_led, boots_led, unless_halts}
use Rattle.kernel_laws.proofs.InStep.{Keeps, KeepsStep, Kept, IsStill, chain, keeps_still, poll_still, steps, run_steps, calls_kept}
use Rattle.kernel_laws.proofs.Tables.{dichotomy}

-- at rest

pub record Rests (s : KernelState) : Type 0 where
  pub step : IsInStep s
  pub idle : IsIdle s

rests_keeps : (s t : KernelState) → Rests s → Keeps s t → Rests t
rests_keeps s t r k = record {
  step = k.step;
  idle = record { called = λ j. k.busy.called j ∙ r.idle.called j; exiting = λ j. k.busy.exiting j ∙ r.idle.exiting j };
}

rests_still : (s t : KernelState) → IsStill s t → Rests s → Rests t
rests_still s t q r = rests_keeps s t r (keeps_still s t q r.step)

pub numbered_listed : (k : ℕ) (ms : List Member) (j : ℕ) → listed_in (numbered_from k ms) j ≡ listed_in ms j
numbered_listed k [] j = refl
numbered_listed k (m ∷ ms) j = ap (λ b. (j == place_of m.process) || b) (numbered_listed (k + 1) ms j)

pub rests_begun : (s : KernelState) (moment : ℕ) → Rests s → Rests (begun_of s moment)
unfolding begun_of
rests_begun s moment r = record {
  step = record { tables = r.step.tables; each = λ j. rw (numbered_listed 0 s.members j) (r.step.each j) };
  idle = record { called = r.idle.called; exiting = r.idle.exiting };
}

-- a mote that has not halted is at rest
abbrev MoteRests : KernelModel → Type 0
MoteRests m = m.halted ≡ false → Rests m.state

given_rests : (s : KernelState) (o : Outcome ℕ) → Rests s → Kept ℕ s o → MoteRests (given o).mote
given_rests s (Ends t) r k h = absurd (cc)
given_rests s (Goes a t) r k h = rests_still t (at_rest t) (record { states = refl; exiting = refl; members = refl }) (rests_keeps s t r (k.leads.kept r.step))

begun_rests : (m : KernelModel) (moment : ℕ) → Rests m.state → Rests (begun m moment [] [])
begun_rests m moment r = rests_begun _ moment (rests_still m.state _ (record { states = refl; exiting = refl; members = refl }) r)

run_rests : (m : KernelModel) (moment : ℕ) → MoteRests m → MoteRests (run_given moment m [] []).mote
unfolding run_given
run_rests m moment r =
    unless_halts (λ g. MoteRests g.mote) m [] [] _ (λ e. r) (λ e. given_rests (begun m moment [] []) _ (begun_rests m moment (r e)) (runs_led KeepsStep Whatever chain steps run_steps (most_units + 1) _))

call_rests : (t : Traced) (c : KernelCall) → MoteRests t.mote → MoteRests (traced_after_call t c).mote
unfolding with_poll with_packet
call_rests t (RunAt moment) r = run_rests t.mote moment r
call_rests t (PollOf p) r = λ h. rests_still t.mote.state _ (poll_still t.mote.state p) (r h)
call_rests t (Accepts a) r = λ h. rests_still t.mote.state _ (record { states = refl; exiting = refl; members = refl }) (r h)
call_rests t (Notes l n) r = noted t.mote.halted
  where
    noted : (h : Bool) → MoteRests (if h then t else record t { lines = t.lines ++ l ∷ [] }).mote
    noted true = r
    noted false = r

calls_rest : (cs : List KernelCall) (t : Traced) → MoteRests t.mote → MoteRests (traced_after_calls t cs).mote
calls_rest [] t r = r
calls_rest (c ∷ cs) t r = calls_rest cs (traced_after_call t c) (call_rests t c r)

-- an entry of a table whose values are all the same
all_alike : {X : Type 0} (n k : ℕ) (x : X) → unwrap_or (slice_get (replicate n x) k) x ≡ x
all_alike n k x = elim (dichotomy k n) [ inl l ↦ unwrap_or-slice_get (replicate n x) k x ∙ get_or-replicate n k x x l | inr g ↦ (let e = slice_get_past (replicate n x) k (past g) in rw e refl) ]
  where
    past : n ≤ k → length (replicate n x) ≤ k
    past g = let e = length-replicate n x in rw e g

pub first_rests : (program : Tree) (mote queue : ℕ) → Rests (unbooted program mote queue).state
unfolding unbooted
first_rests program mote queue =
    let n = length program.processes + 3 in record {
      step = record {
        tables = length-replicate n false ∙ sym (length-replicate n Off);
        each = λ k. rw (all_alike n k Off, all_alike n k false) refl;
      };
      idle = record { called = λ k. ap is_called_state (all_alike n k Off); exiting = λ k. all_alike n k false };
    }

boot_rests : (program : Tree) (mote queue moment : ℕ) → MoteRests (booted_at program mote queue moment).mote
unfolding boot_given
boot_rests program mote queue moment =
    let m = unbooted program mote queue in
    let r = begun_rests m moment (first_rests program mote queue) in
    unless_halts (λ g. MoteRests g.mote) m [] [] _ (λ e h. first_rests program mote queue) (λ e. given_rests (begun m moment [] []) _ r (boots_led KeepsStep Whatever chain steps run_steps (most_units + 1) _))

idle_listed : (x : ProcessState) (e l : Bool) → AreInStep x e l → is_called_state x ≡ false → e ≡ false → is_running_state x ≡ l
idle_listed Off e l h c q = sym q ∙ h
idle_listed Running e l h c q = sym h.1
idle_listed Called e l h c q = absurd (cc)

pub listed_are_running : ListedAreRunning
listed_are_running program mote queue moment calls h p =
    let r = calls_rest calls _ (boot_rests program mote queue moment) h in
    let s = (traced_after_calls (booted_at program mote queue moment) calls).mote.state in
    idle_listed (state_at_place s (place_of p)) (exiting_at s (place_of p)) (listed_in s.members (place_of p)) (r.step.each (place_of p)) (r.idle.called (place_of p)) (r.idle.exiting (place_of p))

out_of : (s t : KernelState) (o : Went) → o ≡ Goes tt t → Kept (Unit {0}) s o → KeepsStep s t
out_of s t o e k = let l : Kept (Unit {0}) s (Goes tt t) = subst (λ x. Kept (Unit {0}) s x) e k in l.leads

pub calls_keep_step : CallsKeepStep
calls_keep_step depth s t p e i q = let k = (out_of s t _ q ((calls_kept depth).call s p e (λ x. tt))).kept i in (k.step, k.busy)

call_lost : (calls : Calls) (s : KernelState) (p : Proc) (e : Event) → is_running s p ≡ false → call_process calls s p e ≡ Goes tt s
unfolding call_process
call_lost calls s p e r = rw r refl

pub only_the_running : OnlyTheRunningAreCalled
unfolding calls_of
only_the_running depth s p e r = let n : depth + 1 ≡ suc depth = omega arith in rw n (call_lost (calls_of depth) s p e r)

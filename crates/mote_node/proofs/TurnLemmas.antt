-- The steps of a turn, put together.
use Rattle.std.proofs.Common.{ℕ, ◌≡◌, Bool, true, false, List, option_map, Option, Some, None, refl, sym, ap, ◌∙◌, subst, IfSome, IsSome, if◌then◌else◌}
use Rattle.program_tree.specs.Code.{Tree}
use Rattle.process_kernel.specs.declared.kernel.Kernel.{Kernel}
use Rattle.radio_packet.specs.declared.arrival.Arrival.{Arrival}
use Rattle.trace_lines.specs.declared.out.Out.{Out}
use Rattle.process_kernel.specs.KernelModel.{KernelModel, Underway, runs_of, with_sent}
use Rattle.process_kernel.specs.Public.{kernel_in, underway_in, GoesOn}
use Rattle.process_kernel.specs.Views.{kernel_model_of}
use Rattle.mote_node.specs.Turn.{hear_all, wake_after, wake_at, boot_due, poll_due, most_runs, work_of, mote_turn}
use Rattle.mote_node.specs.Public.{node_over, wake_in}
use Rattle.mote_node.proofs.StepLemmas.{underway, if_true, if_false, mote_step}

-- if a kernel tells whether its mote has halted, the same is true of the mote in the turn
pub halted_at : (old : Option KernelModel) (out : Out) (u : Underway) (b : Bool) → IfSome old (λ m. b ≡ m.halted) → underway_in old out ≡ Some u → b ≡ u.mote.halted
halted_at None out u b h is = cc
halted_at (Some m) out u b h is =
    let same : underway m out ≡ u = cc in
    let P : Underway → Type 0 = λ v. b ≡ v.mote.halted in subst P same h

-- a turn in which the boot halts the mote
pub halted_turn : (moment : ℕ) (packets : List Arrival) (old new : Option KernelModel) (out out' : Out)
    → GoesOn (boot_due moment) old out new out' → IfSome new (λ m. true ≡ m.halted) → GoesOn (mote_turn moment packets) old out new out'
unfolding mote_turn
halted_turn moment packets old new out out' boot halted = record {
  leads = λ u is.
      let booted = boot.leads u is in
      let b : true ≡ (boot_due moment u).mote.halted = halted_at new out' (boot_due moment u) true halted booted in
      booted ∙ ap Some (sym (if_true (boot_due moment u).mote.halted (boot_due moment u) (work_of moment packets (boot_due moment u)) b));
}

-- a whole turn of a mote that doesn't halt in the boot
pub whole_turn : (moment : ℕ) (packets : List Arrival) (m1 m2 m3 m4 m5 : Option KernelModel) (o1 o2 o3 o5 : Out)
    → GoesOn (boot_due moment) m1 o1 m2 o2 → IfSome m2 (λ m. false ≡ m.halted)
    → GoesOn (hear_all moment packets) m2 o2 m3 o3 → m4 ≡ option_map (poll_due moment) m3
    → GoesOn (runs_of most_runs moment) m4 o3 m5 o5 → GoesOn (mote_turn moment packets) m1 o1 m5 o5
unfolding mote_turn work_of
whole_turn moment packets m1 m2 m3 m4 m5 o1 o2 o3 o5 boot going hear poll run = record {
  leads = λ u is.
      let booted = boot.leads u is in
      let heard = hear.leads (boot_due moment u) booted in
      let polled = (mote_step (poll_due moment) m3 m4 o3 poll).leads (hear_all moment packets (boot_due moment u)) heard in
      let b : false ≡ (boot_due moment u).mote.halted = halted_at m2 o2 (boot_due moment u) false going booted in
      run.leads _ polled ∙ ap Some (sym (if_false (boot_due moment u).mote.halted (boot_due moment u) (work_of moment packets (boot_due moment u)) b));
}

some_underway : (new : Option KernelModel) (out : Out) (u : Underway) → underway_in new out ≡ Some u → IsSome new
some_underway None out u h = cc
some_underway (Some m) out u h = refl

-- a mote that continues has not failed
pub some_after : (step : Underway → Underway) (old new : Option KernelModel) (out out' : Out) → GoesOn step old out new out' → IsSome old → IsSome new
some_after step None new out out' goes h = cc
some_after step (Some m) new out out' goes h = some_underway new out' (step (underway m out)) (goes.leads (underway m out) refl)

some_if : {A : Type 0} (failed : Bool) (x y : A) → IsSome (if failed then None else Some x) → IsSome (if failed then None else Some y)
some_if true x y h = h
some_if false x y h = refl

-- the wake that a mote keeps is the next wake of its node
pub kept_wake : (failed : Bool) (m : Option KernelModel) (last wake : Option ℕ) (collides : Bool) → (failed ≡ true → wake ≡ None)
    → (failed ≡ false → IsSome m) → (failed ≡ false → IfSome m (λ k. wake ≡ wake_at last k))
    → wake ≡ wake_in (if failed then None else option_map (node_over last collides) m)
kept_wake true m last wake collides sleeps running wakes = sleeps refl
kept_wake false None last wake collides sleeps running wakes = let none = running refl in cc
kept_wake false (Some m) last wake collides sleeps running wakes = wakes refl

wakes_if : (failed : Bool) (m n : KernelModel) (P : KernelModel → Type 0) → (P m → P n) → IfSome (if failed then None else Some m) P
    → IfSome (if failed then None else Some n) P
wakes_if true m n P f h = tt
wakes_if false m n P f h = f h

-- the first wake of a kernel's mote is the same with any program
pub wakes_anyhow : (t t' : Tree) (k : Kernel) (wake : Option ℕ)
    → IfSome (kernel_in t k) (λ m. wake ≡ wake_at None m) → IfSome (kernel_in t' k) (λ m. wake ≡ wake_at None m)
unfolding kernel_in
wakes_anyhow t t' k wake h =
    wakes_if k.failed (kernel_model_of t k.machine k.booted k.halted) (kernel_model_of t' k.machine k.booted k.halted)
    (λ m. wake ≡ wake_at None m) (λ e. e) h

-- if a kernel has not failed with one program, it has not failed with any other
pub some_anyhow : (t t' : Tree) (k : Kernel) → IsSome (kernel_in t k) → IsSome (kernel_in t' k)
unfolding kernel_in
some_anyhow t t' k h = some_if k.failed _ _ h

-- a kernel whose packets have another next number is still there, and its mote has the same next wake
pub sent_there : (sent : ℕ) (old new : Option KernelModel) → new ≡ option_map (λ m. with_sent m sent) old → IsSome old → IsSome new
sent_there sent None new e h = cc
sent_there sent (Some m) new e h = rw e refl

same_wake : (sent : ℕ) (last : Option ℕ) (m : KernelModel) → wake_at last (with_sent m sent) ≡ wake_at last m
unfolding wake_after
same_wake sent None m = refl
same_wake sent (Some last) m = refl

pub sent_wakes : (sent : ℕ) (old new : Option KernelModel) (wake last : Option ℕ) → new ≡ option_map (λ m. with_sent m sent) old
    → IfSome old (λ m. wake ≡ wake_at last m) → IfSome new (λ m. wake ≡ wake_at last m)
sent_wakes sent None new wake last e h = subst (λ n. IfSome n (λ m. wake ≡ wake_at last m)) (sym e) h
sent_wakes sent (Some m) new wake last e h =
    subst (λ n. IfSome n (λ k. wake ≡ wake_at last k)) (sym e) (h ∙ sym (same_wake sent last m))

-- The remaining work after a boot or a run.
use Rattle.std.proofs.Common.{ℕ, ◌≡◌, ◌+◌, Bool, true, false, ◌||◌, List, length, if◌then◌else◌, refl, ◌∙◌, arith}
use Rattle.std.specs.Prelude.{nat_lt}
use Rattle.std.proofs.lemmas.Bool.{cond_both}
use Rattle.std.proofs.lemmas.Bool.Decides.{nat_tests}
use Rattle.trace_lines.specs.declared.line.Line.{Line}
use Rattle.radio_packet.specs.declared.sent.Sent.{Sent}
use Rattle.process_kernel.specs.declared.kernel.Ran.TheVariants.{Left, Halted}
use Rattle.process_kernel.specs.State.{KernelState, Outcome, Went, Ends, Goes, ◌>>=◌, Calls}
use Rattle.process_kernel.specs.KernelModel.{KernelModel, Given, given, unless_halted, boot_given, run_given}
use Rattle.process_kernel.specs.Process.{process_nevents, process_run, do_event, do_poll_if_requested, boot_of}
use Rattle.process_kernel.specs.Laws.{TellsLeft, PendingIsLeft, StaysHalted}

last : (o : Went) (n : ℕ) (s : KernelState) → (o >>= λ _ s1. Goes (process_nevents s1) s1) ≡ Goes n s → n ≡ process_nevents s
last (Ends t) n s is = cc
last (Goes a t) n s is = cc

last_of_two : (o : Went) (d : KernelState → Went) (n : ℕ) (s : KernelState)
    → (o >>= λ _ s1. d s1 >>= λ _ s2. Goes (process_nevents s2) s2) ≡ Goes n s → n ≡ process_nevents s
last_of_two (Ends t) d n s is = cc
last_of_two (Goes a t) d n s is = last (d t) n s is

kernel_left : (calls : Calls) (s : KernelState) (n : ℕ) (s1 : KernelState) → process_run calls s ≡ Goes n s1 → n ≡ process_nevents s1
unfolding process_run
kernel_left calls s n s1 is = last_of_two (do_poll_if_requested calls s) (λ t. do_event calls t.queue.events t) n s1 is

boot_left : (calls : Calls) (s : KernelState) (n : ℕ) (s1 : KernelState) → boot_of calls s ≡ Goes n s1 → n ≡ process_nevents s1
unfolding boot_of
boot_left calls s n s1 is = last _ n s1 is

given_left : (o : Outcome ℕ) (n : ℕ) → ((k : ℕ) (s : KernelState) → o ≡ Goes k s → k ≡ process_nevents s) → (given o).ran ≡ Left n
    → n ≡ process_nevents (given o).mote.state
given_left (Ends s) n tells is = cc
given_left (Goes k s) n tells is = let same : n ≡ k = cc in same ∙ tells k s refl

unless_left : (m : KernelModel) (ls : List Line) (ss : List Sent) (g : Given) (n : ℕ)
    → (g.ran ≡ Left n → n ≡ process_nevents g.mote.state)
    → (unless_halted m ls ss g).ran ≡ Left n → n ≡ process_nevents (unless_halted m ls ss g).mote.state
unless_left m ls ss g n tells is =
    cond_both m.halted (record { ran = Halted; mote = m; lines = ls; sends = ss }) g
    (λ (x : Given). x.ran ≡ Left n → n ≡ process_nevents x.mote.state) (λ _ h. cc) (λ _ h. tells h) is

pub run_tells : TellsLeft run_given
unfolding run_given
run_tells moment m ls ss n is = unless_left m ls ss _ n (given_left _ n (kernel_left _ _)) is

pub boot_tells : TellsLeft boot_given
unfolding boot_given
boot_tells moment m ls ss n is = unless_left m ls ss _ n (given_left _ n (boot_left _ _)) is

some_left : (n : ℕ) (requested : Bool) → (nat_lt 0 n || requested) ≡ nat_lt 0 (n + (if requested then 1 else 0))
some_left n true = grind (arith, nat_tests)
some_left n false = grind (arith, nat_tests)

pub pending_left : PendingIsLeft
pending_left m = some_left (length m.state.queue.events) m.state.poll_requested

pub run_stays : StaysHalted run_given
unfolding run_given
run_stays moment m ls ss is = rw is refl

pub boot_stays : StaysHalted boot_given
unfolding boot_given
boot_stays moment m ls ss is = rw is refl

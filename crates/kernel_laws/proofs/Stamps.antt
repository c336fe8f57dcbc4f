-- Each small step of the kernel writes lines and packets that are stamped with its moment. The same is true of calls,
-- boots and kernel runs.
use Rattle.std.proofs.Common.{ℕ, zero, suc, ◌≡◌, ◌+◌, List, [], ◌∷◌, length, refl, sym, ap, ◌∙◌, subst, arith, ◌++◌, append_assoc, append-nil}
use Rattle.std.proofs.lemmas.List.{map-append, length-append}
use Rattle.program_tree.specs.declared.event.Proc.{Proc}
use Rattle.program_tree.specs.declared.event.Proc.TheVariants.{Own, Etimer}
use Rattle.trace_lines.specs.declared.line.What.{What}
use Rattle.trace_lines.specs.declared.line.What.TheVariants as what
use Rattle.process_kernel.specs.State.{KernelState, Outcome, Ends, Goes, with_line, halted_of, Calls}
use Rattle.process_kernel.specs.ProcessList.{with_state, with_exiting, with_needs_poll, put_remainder, exiting_of, unlisted_of}
use Rattle.process_kernel.specs.Posts.{process_poll}
use Rattle.std.specs.List.{range_with_len}
use Rattle.std.proofs.lemmas.List.Elements.{All-nil, All-cons, All-append}
use Rattle.radio_packet.specs.declared.sent.Sent.{Sent}
use Rattle.trace_lines.specs.declared.line.What.TheVariants.{Halt}
use Rattle.kernel_laws.specs.Stamps.{PacketsBear, AreNumberedFrom, Stamped, state_after, GivesStamped}
use Rattle.kernel_laws.proofs.Steps.{lines_joined}
use Rattle.kernel_laws.proofs.EachStep.{Every, AnyProcess, Lead, AreJoined, AreSteps, AreRunSteps, keeps_set, brackets_of, AreLed, calls_led, runs_led, boots_led, unless_halts, polled_or_not}
use Rattle.process_kernel.specs.Operations.{calls_of}
use Rattle.process_kernel.specs.KernelModel.{begun_of, most_units, KernelModel, given, begun, unless_halted, boot_given, run_given}
use Rattle.trace_lines.specs.declared.line.Line.{Line}
use Rattle.kernel_laws.specs.Laws.{CallsStamp, BootStamps, RunStamps}

-- Everything that is written is stamped with the moment, and the moment doesn't change.
pub record Keeps (s t : KernelState) : Type 0 where
  pub stamped : Stamped s.moment s t
  pub moment : t.moment ≡ s.moment

-- the same for an outcome, whether it continues or ends
abbrev pub Kept : {A : Type 0} → KernelState → Outcome A → Type 0
Kept {A} s o = Lead Keeps Keeps A s o

numbers_joined : (first m n : ℕ) → range_with_len first (m + n) ≡ range_with_len first m ++ range_with_len (first + m) n
numbers_joined first zero n =
    let d : 0 + n ≡ n = omega arith in
    let e : first ≡ first + 0 = omega arith in
    ap (range_with_len first) d ∙ ap (λ k. range_with_len k n) e
numbers_joined first (suc m) n =
    let d : suc m + n ≡ suc (m + n) = omega arith in
    let e : (first + 1) + m ≡ first + suc m = omega arith in
    ap (range_with_len first) d ∙ ap (λ l. first ∷ l) (numbers_joined (first + 1) m n ∙ ap (λ k. range_with_len (first + 1) m ++ range_with_len k n) e)

pub numbered_on : (first : ℕ) (xs ys : List Sent) → AreNumberedFrom first xs → AreNumberedFrom (first + length xs) ys → AreNumberedFrom first (xs ++ ys)
numbered_on first xs ys h i = rw (map-append, h, i, length-append) (sym (numbers_joined first (length xs) (length ys)))

sends_joined : (a b c x y : List Sent) → b ≡ a ++ x → c ≡ b ++ y → c ≡ a ++ (x ++ y)
sends_joined a b c x y e f = f ∙ ap (λ k. k ++ y) e ∙ append_assoc a x y

-- two such steps one after another
pub stamped_twice : (moment : ℕ) (a b c : KernelState) → Stamped moment a b → Stamped moment b c → Stamped moment a c
stamped_twice moment a b c h i = record {
  lines = h.lines ++ i.lines;
  wrote = lines_joined a.lines b.lines c.lines h.lines i.lines h.wrote i.wrote;
  lines_bear = All-append (λ l. l.at ≡ moment) h.lines i.lines h.lines_bear i.lines_bear;
  sends = h.sends ++ i.sends;
  sent_on = sends_joined a.sends b.sends c.sends h.sends i.sends h.sent_on i.sent_on;
  packets_bear = All-append (λ x. (x.at ≡ moment) × (x.sender ≡ a.mote)) h.sends i.sends h.packets_bear (subst (λ k. PacketsBear moment k i.sends) h.mote i.packets_bear);
  numbered = numbered_on a.sent h.sends i.sends h.numbered (subst (λ k. AreNumberedFrom k i.sends) h.counted i.numbered);
  counted = counted_twice a.sent b.sent c.sent (length h.sends) (length i.sends) h.counted i.counted ∙ ap (λ k. a.sent + k) (sym (length-append h.sends i.sends));
  mote = i.mote ∙ h.mote;
  program = i.program ∙ h.program;
}
  where
    counted_twice : (a b c m n : ℕ) → b ≡ a + m → c ≡ b + n → c ≡ a + (m + n)
    counted_twice a b c m n e f = omega arith

keeps_twice : (a b c : KernelState) → Keeps a b → Keeps b c → Keeps a c
keeps_twice a b c h i = record {
  stamped = stamped_twice a.moment a b c h.stamped (subst (λ k. Stamped k b c) h.moment i.stamped);
  moment = i.moment ∙ h.moment;
}

-- nothing is written, and none of these values changes
pub record IsStill (s t : KernelState) : Type 0 where
  pub lines : t.lines ≡ s.lines
  pub sends : t.sends ≡ s.sends
  pub sent : t.sent ≡ s.sent
  pub moment : t.moment ≡ s.moment
  pub mote : t.mote ≡ s.mote
  pub program : t.program ≡ s.program

pub still : (s : KernelState) → IsStill s s
still s = record { lines = refl; sends = refl; sent = refl; moment = refl; mote = refl; program = refl }

-- a state with the same lines, packets, count, mote and program
pub stamped_still : (moment : ℕ) (s t : KernelState) → t.lines ≡ s.lines → t.sends ≡ s.sends → t.sent ≡ s.sent → t.mote ≡ s.mote → t.program ≡ s.program → Stamped moment s t
stamped_still moment s t lines sends sent mote program = record {
  lines = [];
  wrote = lines ∙ sym (append-nil s.lines);
  lines_bear = All-nil (λ l. l.at ≡ moment);
  sends = [];
  sent_on = sends ∙ sym (append-nil s.sends);
  packets_bear = All-nil (λ x. (x.at ≡ moment) × (x.sender ≡ s.mote));
  numbered = refl;
  counted = sent ∙ omega arith;
  mote = mote;
  program = program;
}

keeps_still : (s t : KernelState) → IsStill s t → Keeps s t
keeps_still s t q = record { stamped = stamped_still s.moment s t q.lines q.sends q.sent q.mote q.program; moment = q.moment }

-- chains of steps

pub chain : AreJoined Keeps Keeps
chain = record { same = λ s. keeps_still s s (still s); joined = keeps_twice; ended = keeps_twice }

-- lines

keeps_line : (s : KernelState) (w : What) → Keeps s (with_line s w)
keeps_line s w = record {
  stamped = record {
    lines = record { at = s.moment; what = w } ∷ [];
    wrote = refl;
    lines_bear = All-cons (λ l. l.at ≡ s.moment) (record { at = s.moment; what = w }) [] refl (All-nil (λ l. l.at ≡ s.moment));
    sends = [];
    sent_on = sym (append-nil s.sends);
    packets_bear = All-nil (λ x. (x.at ≡ s.moment) × (x.sender ≡ s.mote));
    numbered = refl;
    counted = omega arith;
    mote = refl;
    program = refl;
  };
  moment = refl;
}

-- a line is written after another change
keeps_written : (s u : KernelState) (w : What) → IsStill s u → Keeps s (with_line u w)
keeps_written s u w q = keeps_twice s u _ (keeps_still s u q) (keeps_line u w)

-- steps without output

pub poll_still : (s : KernelState) (p : Proc) → IsStill s (process_poll s p)
unfolding with_needs_poll
poll_still s p = polled_or_not (IsStill s) s p (record { lines = refl; sends = refl; sent = refl; moment = refl; mote = refl; program = refl }) (still s)

-- packets

keeps_packet : (s : KernelState) (v : ℕ) → Keeps s (record s { sends = s.sends ++ record { at = s.moment; sender = s.mote; number = s.sent; value = v } ∷ []; sent = s.sent + 1 })
keeps_packet s v = record {
  stamped = record {
    lines = [];
    wrote = sym (append-nil s.lines);
    lines_bear = All-nil (λ l. l.at ≡ s.moment);
    sends = record { at = s.moment; sender = s.mote; number = s.sent; value = v } ∷ [];
    sent_on = refl;
    packets_bear = All-cons (λ x. (x.at ≡ s.moment) × (x.sender ≡ s.mote)) (record { at = s.moment; sender = s.mote; number = s.sent; value = v }) [] (refl, refl) (All-nil (λ x. (x.at ≡ s.moment) × (x.sender ≡ s.mote)));
    numbered = refl;
    counted = refl;
    mote = refl;
    program = refl;
  };
  moment = refl;
}

-- all small steps

pub steps : AreSteps Keeps Keeps chain AnyProcess Every
unfolding put_remainder halted_of with_state exiting_of with_exiting unlisted_of
steps = record {
  own = λ p own. tt;
  brackets = brackets_of Keeps Keeps chain AnyProcess Every (λ s p o. keeps_still s _ (record { lines = refl; sends = refl; sent = refl; moment = refl; mote = refl; program = refl })) (λ s p o. keeps_still s _ (record { lines = refl; sends = refl; sent = refl; moment = refl; mote = refl; program = refl }))
      (λ s p o l. keeps_still s _ (record { lines = refl; sends = refl; sent = refl; moment = refl; mote = refl; program = refl })) (λ s p o l. keeps_written s _ (what.Leave p) (record { lines = refl; sends = refl; sent = refl; moment = refl; mote = refl; program = refl }));
  halts = λ s. keeps_line s Halt;
  units = λ s n l. keeps_still s _ (record { lines = refl; sends = refl; sent = refl; moment = refl; mote = refl; program = refl });
  busy = λ s p. keeps_line s (what.Busy p);
  prints = λ s p v o. keeps_line s (what.Print (Own p) v);
  polled = λ s p. keeps_still s _ (poll_still s p);
  remainder = λ s p r o. keeps_still s _ (record { lines = refl; sends = refl; sent = refl; moment = refl; mote = refl; program = refl });
  fresh = λ s p o. keeps_still s _ (record { lines = refl; sends = refl; sent = refl; moment = refl; mote = refl; program = refl });
  variables = λ s p vs n o l. keeps_still s _ (record { lines = refl; sends = refl; sent = refl; moment = refl; mote = refl; program = refl });
  sets = λ s t start interval owner there. keeps_set Keeps Keeps chain s _ t (λ callbacks. keeps_still s _ (record { lines = refl; sends = refl; sent = refl; moment = refl; mote = refl; program = refl })) (λ u. keeps_still u _ (poll_still u Etimer));
  stops = λ s t. keeps_still s _ (record { lines = refl; sends = refl; sent = refl; moment = refl; mote = refl; program = refl });
  purges = λ s p. keeps_still s _ (record { lines = refl; sends = refl; sent = refl; moment = refl; mote = refl; program = refl });
  callbacks = λ s ts. keeps_still s _ (record { lines = refl; sends = refl; sent = refl; moment = refl; mote = refl; program = refl });
  semaphores = λ s ns. keeps_still s _ (record { lines = refl; sends = refl; sent = refl; moment = refl; mote = refl; program = refl });
  full = λ s t e. keeps_line s (what.Full t e.number e.word);
  posts = λ s t e f. keeps_written s _ _ (record { lines = refl; sends = refl; sent = refl; moment = refl; mote = refl; program = refl });
  sends = λ s v. keeps_twice s _ _ (keeps_packet s v) (keeps_line _ _);
  starts = λ s p o b h l. keeps_written s _ (what.Start p) (record { lines = refl; sends = refl; sent = refl; moment = refl; mote = refl; program = refl });
  ring = record {
    accepted = λ s a later p i r. keeps_written s _ _ (record { lines = refl; sends = refl; sent = refl; moment = refl; mote = refl; program = refl });
    refused = λ s a later p i r. keeps_written s _ _ (record { lines = refl; sends = refl; sent = refl; moment = refl; mote = refl; program = refl });
    deaf = λ s a later i r. keeps_written s _ _ (record { lines = refl; sends = refl; sent = refl; moment = refl; mote = refl; program = refl });
    halts = λ s later. keeps_written s _ Halt (record { lines = refl; sends = refl; sent = refl; moment = refl; mote = refl; program = refl });
  };
}

pub run_steps : AreRunSteps Keeps Keeps chain
unfolding with_needs_poll
run_steps = record {
  unrequested = λ s. keeps_still s _ (record { lines = refl; sends = refl; sent = refl; moment = refl; mote = refl; program = refl });
  cleared = λ s p. keeps_still s _ (record { lines = refl; sends = refl; sent = refl; moment = refl; mote = refl; program = refl });
  front = λ s. keeps_still s _ (record { lines = refl; sends = refl; sent = refl; moment = refl; mote = refl; program = refl });
  takes = λ s n p. keeps_line s (what.Take n p);
  drops = λ s n p. keeps_line s (what.Drop n p);
}

-- calls, boots and kernel runs

left_by : (A : Type 0) (s : KernelState) (o : Outcome A) → Kept s o → Keeps s (state_after o)
left_by A s (Ends t) h = h.leads
left_by A s (Goes a t) h = h.leads

abbrev pub AreKept : Calls → Type 0
AreKept calls = AreLed Keeps Keeps chain AnyProcess Every calls

pub calls_kept : (k : ℕ) → AreKept (calls_of k)
calls_kept k = calls_led Keeps Keeps chain AnyProcess steps k

-- a boot or a run, whether the mote continues or halts
given_stamped : (moment : ℕ) (m : KernelModel) (lines : List Line) (sends : List Sent) (o : Outcome ℕ) → Keeps (begun m moment lines sends) (state_after o) → GivesStamped moment m lines sends (given o)
unfolding begun_of
given_stamped moment m lines sends (Ends t) k = let h = k.stamped in record {
  lines = h.lines;
  wrote = h.wrote;
  lines_bear = h.lines_bear;
  sends = h.sends;
  sent_on = h.sent_on;
  packets_bear = h.packets_bear;
  numbered = h.numbered;
  counted = h.counted;
  mote = h.mote;
  program = h.program;
}
given_stamped moment m lines sends (Goes a t) k = let h = k.stamped in record {
  lines = h.lines;
  wrote = h.wrote;
  lines_bear = h.lines_bear;
  sends = h.sends;
  sent_on = h.sent_on;
  packets_bear = h.packets_bear;
  numbered = h.numbered;
  counted = h.counted;
  mote = h.mote;
  program = h.program;
}

unless_stamped : (moment : ℕ) (m : KernelModel) (lines : List Line) (sends : List Sent) (o : Outcome ℕ) → Kept (begun m moment lines sends) o → GivesStamped moment m lines sends (unless_halted m lines sends (given o))
unless_stamped moment m lines sends o k =
    unless_halts (GivesStamped moment m lines sends) m lines sends (given o) (λ e. stamped_still moment _ _ refl refl refl refl refl) (λ e. given_stamped moment m lines sends o (left_by ℕ _ o k))

pub calls_stamp : CallsStamp
calls_stamp depth s p e = let k = left_by (Unit {0}) s _ ((calls_kept depth).call s p e (λ q. tt)) in (k.stamped, k.moment)

pub boot_stamps : BootStamps
unfolding boot_given
boot_stamps moment m lines sends = unless_stamped moment m lines sends _ (boots_led Keeps Keeps chain steps run_steps (most_units + 1) (begun m moment lines sends))

pub run_stamps : RunStamps
unfolding run_given
run_stamps moment m lines sends = unless_stamped moment m lines sends _ (runs_led Keeps Keeps chain steps run_steps (most_units + 1) (begun m moment lines sends))

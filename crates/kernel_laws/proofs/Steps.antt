-- Each small step of the kernel is a run of the delivery machine, at any point of a walk.
use Rattle.std.proofs.Common.{ℕ, ◌≡◌, ◌||◌, ◌==◌, not, Bool, true, false, cond, List, [], ◌∷◌, ◌++◌, refl, sym, ap, subst, ◌∙◌, append_assoc, append-nil, arith, map}
use Rattle.std.proofs.lemmas.List.{map-append}
use Rattle.std.specs.List.{filter}
use Rattle.std.proofs.lemmas.List.Elements.{All-nil, All-push}
use Rattle.std.proofs.lemmas.Bool.Decides.{nat_tests}
use Rattle.kernel_laws.specs.HandedOn as handed
use Rattle.kernel_laws.specs.HandedOn.{without}
use Rattle.kernel_laws.proofs.Views as views
use Rattle.kernel_laws.proofs.Views.{Moves, in_state_still, moves_joined, stops_joined, other_moves, start_moves, leave_moves, post_moves, halt_stops}
use Rattle.program_tree.specs.declared.event.Proc.{Proc}
use Rattle.program_tree.specs.declared.event.Proc.TheVariants.{Own, Etimer}
use Rattle.program_tree.specs.declared.event.Target.{Target}
use Rattle.program_tree.specs.declared.event.Target.TheVariants.{One}
use Rattle.program_tree.specs.declared.event.Event.{Event}
use Rattle.program_tree.specs.declared.event.SystemEvent.TheVariants.{Exit, Packet}
use Rattle.program_tree.specs.Events.{system_number}
use Rattle.event_queue.specs.Queue.{with_posted}
use Rattle.trace_lines.specs.declared.line.Line.{Line}
use Rattle.trace_lines.specs.declared.line.What.{What}
use Rattle.trace_lines.specs.declared.line.What.TheVariants as what
use Rattle.process_kernel.specs.declared.process.Member.{Member}
use Rattle.process_kernel.specs.ProcessList.{place_of, is_same, is_found_in, is_listed, with_state, with_exiting, with_needs_poll, put_remainder, enlist_of, exiting_of, unlisted_of}
use Rattle.process_kernel.specs.State.{KernelState, Outcome, Goes, with_line, halted_of, Calls}
use Rattle.process_kernel.specs.Posts.{process_poll}
use Rattle.process_kernel.specs.Operations.{calls_of}
use Rattle.kernel_laws.specs.Own.{IsOwnProcess, FitsTarget}
use Rattle.kernel_laws.specs.Seen.{seen_what, seen_lines, seen_target, seen_member, seen_posted, view_of}
use Rattle.kernel_laws.specs.Going.{SystemStays}
use Rattle.kernel_laws.proofs.EachStep.{Every, Leads, Lead, AreJoined, AreSteps, AreLed, with_event, with_started, without_process, enlist_is, keeps_set, brackets_of, fits_no_exit, calls_led, polled_or_not}

-- the lines from one state to the later one are a run of the machine, whatever walk is in progress
pub record GoesOn (s t : KernelState) : Type 0 where
  pub added : List Line
  pub wrote : t.lines ≡ s.lines ++ added
  pub moves : Moves (view_of s) (seen_lines added) (view_of t)
  pub sound : SystemStays s → SystemStays t

-- the same lines, and then a halt
pub record Stops (s t : KernelState) : Type 0 where
  pub added : List Line
  pub wrote : t.lines ≡ s.lines ++ added
  pub halts : views.Stops (view_of s) (seen_lines added)

abbrev pub Reaches : {A : Type 0} → KernelState → Outcome A → Type 0
Reaches s o = Leads GoesOn Stops s o

-- an outcome that continues or ends
abbrev pub Reach : (A : Type 0) → KernelState → Outcome A → Type 0
Reach A s o = Lead GoesOn Stops A s o

-- nothing changes that the delivery of events sees
pub record IsQuiet (s t : KernelState) : Type 0 where
  pub lines : t.lines ≡ s.lines
  pub members : t.members ≡ s.members
  pub started : t.started ≡ s.started
  pub queue : t.queue ≡ s.queue

pub quiet_same : (s : KernelState) → IsQuiet s s
quiet_same s = record { lines = refl; members = refl; started = refl; queue = refl }

pub view_quiet : (s t : KernelState) → IsQuiet s t → view_of s ≡ view_of t
view_quiet s t q = rw (q.members, q.started, q.queue) refl

pub quiet : (s t : KernelState) → IsQuiet s t → GoesOn s t
quiet s t q = record {
  added = [];
  wrote = q.lines ∙ sym (append-nil s.lines);
  moves = rw (q.members, q.started, q.queue) (in_state_still (view_of s));
  sound = λ h. record { stays = rw (q.members) h.stays; fits = rw (q.queue) h.fits };
}

pub lines_joined : (a b c x y : List Line) → b ≡ a ++ x → c ≡ b ++ y → c ≡ a ++ (x ++ y)
lines_joined a b c x y e f = f ∙ ap (λ k. k ++ y) e ∙ append_assoc a x y

pub joined : (a b c : KernelState) → GoesOn a b → GoesOn b c → GoesOn a c
joined a b c h i = record {
  added = h.added ++ i.added;
  wrote = lines_joined a.lines b.lines c.lines h.added i.added h.wrote i.wrote;
  moves = rw map-append (moves_joined (view_of a) (view_of b) (view_of c) _ _ h.moves i.moves);
  sound = λ k. i.sound (h.sound k);
}

ended : (a b c : KernelState) → GoesOn a b → Stops b c → Stops a c
ended a b c h i = record {
  added = h.added ++ i.added;
  wrote = lines_joined a.lines b.lines c.lines h.added i.added h.wrote i.wrote;
  halts = rw map-append (stops_joined (view_of a) (view_of b) _ _ h.moves i.halts);
}

pub chain : AreJoined GoesOn Stops
chain = record { same = λ s. quiet s s (quiet_same s); joined = joined; ended = ended }

-- lines

-- one more line, which a step of the machine writes
one_line : (s u : KernelState) (w : What) → u.lines ≡ s.lines → Moves (view_of s) (seen_what w ∷ []) (view_of u) → (SystemStays s → SystemStays u) → GoesOn s (with_line u w)
one_line s u w e m f = record {
  added = record { at = u.moment; what = w } ∷ [];
  wrote = ap (λ l. l ++ record { at = u.moment; what = w } ∷ []) e;
  moves = m;
  sound = λ h. let k = f h in record { stays = k.stays; fits = k.fits };
}

-- a line about no process and no event
pub line_aside : (s : KernelState) (w : What) → seen_what w ≡ handed.Other → GoesOn s (with_line s w)
line_aside s w e = one_line s s w refl (rw e (other_moves (view_of s))) (λ h. h)

pub halts : (s : KernelState) → Stops s (halted_of s)
unfolding halted_of
halts s = record { added = record { at = s.moment; what = what.Halt } ∷ []; wrote = refl; halts = halt_stops (view_of s) }

-- steps without a change that the delivery of events sees

pub poll_quiet : (s : KernelState) (p : Proc) → IsQuiet s (process_poll s p)
unfolding with_needs_poll
poll_quiet s p = polled_or_not (IsQuiet s) s p (record { lines = refl; members = refl; started = refl; queue = refl }) (quiet_same s)

-- the process list

pub listed_alike : (ms : List Member) (p : Proc) → is_found_in ms p ≡ handed.has_incarnation (map seen_member ms) (place_of p)
listed_alike [] p = refl
listed_alike (m ∷ ms) p = grind (arith, nat_tests, listed_alike ms p)

pub any_or : (b c : Bool) → c ≡ true → (b || c) ≡ true
any_or true c e = refl
any_or false c e = e

starts : (s : KernelState) (p : Proc) → is_listed s p ≡ false → GoesOn s (with_started s p)
unfolding with_state
starts s p n =
    one_line s _ (what.Start p) refl (start_moves (view_of s) (place_of p) (sym (listed_alike s.members p) ∙ n)) (λ h. record { stays = any_or (is_same Etimer p) (is_listed s Etimer) h.stays; fits = h.fits })

-- the state is sound after the etimer process started, if no event is queued
pub first_sound : (s : KernelState) (a : Unit {0}) (t : KernelState) → s.queue.events ≡ [] → enlist_of s Etimer ≡ Goes a t → SystemStays t
unfolding with_state
first_sound s a t f e =
    let u = with_started s Etimer in
    let q : u ≡ t = cc (enlist_is s Etimer) in
    let h : SystemStays u = record { stays = refl; fits = rw f (All-nil _) } in
    subst SystemStays q h

-- a process leaves the list of members, and so also the list of the machine
left_members : (ms : List Member) (p : Proc) → map seen_member (filter (λ m. not (is_same m.process p)) ms) ≡ without (map seen_member ms) (place_of p)
left_members [] p = refl
left_members (m ∷ ms) p = left_first (not (is_same m.process p)) m ms p (left_members ms p)
  where
    left_first : (b : Bool) (m : Member) (ms : List Member) (p : Proc) → map seen_member (filter (λ m. not (is_same m.process p)) ms) ≡ without (map seen_member ms) (place_of p) →
        map seen_member (cond b (m ∷ filter (λ m. not (is_same m.process p)) ms) (filter (λ m. not (is_same m.process p)) ms)) ≡ cond b (seen_member m ∷ without (map seen_member ms) (place_of p)) (without (map seen_member ms) (place_of p))
    left_first true m ms p e = ap (λ x. seen_member m ∷ x) e
    left_first false m ms p e = e

pub others_stay : (ms : List Member) (p q : Proc) → (place_of q == place_of p) ≡ false → is_found_in (filter (λ m. not (is_same m.process p)) ms) q ≡ is_found_in ms q
others_stay [] p q e = refl
others_stay (m ∷ ms) p q e = grind (arith, nat_tests, others_stay ms p q e)

pub etimer_is_not_own : (p : Proc) → IsOwnProcess p → (place_of Etimer == place_of p) ≡ false
etimer_is_not_own (Own p) own = grind (arith, nat_tests)
etimer_is_not_own x own = absurd own

leaves_list : (s : KernelState) (p : Proc) → IsOwnProcess p → GoesOn s (without_process s p)
unfolding unlisted_of with_exiting
leaves_list s p own =
    one_line s (unlisted_of (with_exiting s p false) p) (what.Leave p) refl (leave_moves (view_of s) (place_of p) _ (left_members s.members p)) (λ h. record { stays = others_stay s.members p Etimer (etimer_is_not_own p own) ∙ h.stays; fits = h.fits })

-- the queue

posts_at : (s u : KernelState) (t : Target) (e : Event) → IsQuiet s u → FitsTarget t e.number → GoesOn s (with_event u t e)
posts_at s u t e q f =
    joined s u _ (quiet s u q) (one_line u (record u { queue = with_posted u.queue t e }) (what.Post u.queue.accepted t e.number e.word) refl (post_moves (view_of u) (seen_target t) _ (map-append seen_posted u.queue.events _))
    (λ h. record { stays = h.stays; fits = All-push (λ x. FitsTarget x.target x.event.number) u.queue.events _ h.fits f }))

-- all small steps

pub steps : AreSteps GoesOn Stops chain IsOwnProcess Every
unfolding put_remainder with_state exiting_of with_exiting
steps = record {
  own = λ p own. own;
  brackets = brackets_of GoesOn Stops chain IsOwnProcess Every (λ s p o. quiet s _ (record { lines = refl; members = refl; started = refl; queue = refl })) (λ s p o. quiet s _ (record { lines = refl; members = refl; started = refl; queue = refl })) (λ s p o l. quiet s _ (record { lines = refl; members = refl; started = refl; queue = refl })) (λ s p o l. leaves_list s p l);
  halts = halts;
  units = λ s n l. quiet s _ (record { lines = refl; members = refl; started = refl; queue = refl });
  busy = λ s p. line_aside s (what.Busy p) refl;
  prints = λ s p v o. line_aside s (what.Print (Own p) v) refl;
  polled = λ s p. quiet s _ (poll_quiet s p);
  remainder = λ s p r o. quiet s _ (record { lines = refl; members = refl; started = refl; queue = refl });
  fresh = λ s p o. quiet s _ (record { lines = refl; members = refl; started = refl; queue = refl });
  variables = λ s p vs n o l. quiet s _ (record { lines = refl; members = refl; started = refl; queue = refl });
  sets = λ s t start interval owner there. keeps_set GoesOn Stops chain s _ t (λ callbacks. quiet s _ (record { lines = refl; members = refl; started = refl; queue = refl })) (λ u. quiet u _ (poll_quiet u Etimer));
  stops = λ s t. quiet s _ (record { lines = refl; members = refl; started = refl; queue = refl });
  purges = λ s p. quiet s _ (record { lines = refl; members = refl; started = refl; queue = refl });
  callbacks = λ s ts. quiet s _ (record { lines = refl; members = refl; started = refl; queue = refl });
  semaphores = λ s ns. quiet s _ (record { lines = refl; members = refl; started = refl; queue = refl });
  full = λ s t e. line_aside s (what.Full t e.number e.word) refl;
  posts = λ s t e f. posts_at s s t e (quiet_same s) f;
  sends = λ s v. joined s _ _ (quiet s _ (record { lines = refl; members = refl; started = refl; queue = refl })) (line_aside _ (what.Send s.sent v) refl);
  starts = λ s p o b h l. starts s p l;
  ring = record {
    accepted = λ s a later p i r. posts_at s _ _ _ (record { lines = refl; members = refl; started = refl; queue = refl }) (λ q. absurd (grind (arith, nat_tests)));
    refused = λ s a later p i r. joined s _ _ (quiet s _ (record { lines = refl; members = refl; started = refl; queue = refl })) (line_aside _ (what.Full (One (Own p)) (system_number Packet) a.value) refl);
    deaf = λ s a later i r. joined s _ _ (quiet s _ (record { lines = refl; members = refl; started = refl; queue = refl })) (line_aside _ (what.Deaf a.sender a.number) refl);
    halts = λ s later. ended s _ _ (quiet s _ (record { lines = refl; members = refl; started = refl; queue = refl })) (halts _);
  };
}

pub fits_other : (p : Proc) (number : ℕ) → (number == system_number Exit) ≡ false → FitsTarget (One p) number
fits_other p number e = fits_no_exit GoesOn Stops chain IsOwnProcess Every p number e

-- the calls of a process, and the runs of a thread
abbrev pub AreRuns : Calls → Type 0
AreRuns calls = AreLed GoesOn Stops chain IsOwnProcess Every calls

pub calls_run : (k : ℕ) → AreRuns (calls_of k)
calls_run k = calls_led GoesOn Stops chain IsOwnProcess steps k

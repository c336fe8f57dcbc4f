-- The position of a process of the program, and the small steps that don't change it: all steps of other processes.
use Rattle.std.proofs.Common.{ℕ, zero, suc, ◌≡◌, ◌+◌, ◌^◌, ◌⊎◌, inl, inr, Bool, true, false, nat_lt, nat_le, if◌then◌else◌, List, [], ◌∷◌, ◌++◌, Some, None, length, slice_get, slice_set, refl, sym, ap, ◌∙◌, arith, append-nil}
use Rattle.std.proofs.lemmas.List.{length-set}
use Rattle.std.proofs.lemmas.List.Elements.{filter-append}
use Rattle.std.proofs.lemmas.Bool.Decides.{nat_tests}
use Rattle.program_tree.specs.declared.event.Proc.{Proc}
use Rattle.program_tree.specs.declared.event.Proc.TheVariants.{Own, Etimer, Ctimer, Radio}
use Rattle.program_tree.specs.declared.event.Target.{Target}
use Rattle.program_tree.specs.declared.event.Event.{Event}
use Rattle.program_tree.specs.Code.{Code}
use Rattle.event_queue.specs.Queue.{with_posted}
use Rattle.protothread.specs.Remainder.{Remainder, fresh_of}
use Rattle.protothread.specs.declared.part.Part.TheVariants.{Body}
use Rattle.trace_lines.specs.declared.line.Line.{Line}
use Rattle.trace_lines.specs.declared.line.What.{What}
use Rattle.trace_lines.specs.declared.line.What.TheVariants as what
use Rattle.process_kernel.specs.declared.process.ProcessState.{ProcessState}
use Rattle.process_kernel.specs.declared.process.ProcessState.TheVariants.{Off, Running}
use Rattle.process_kernel.specs.ProcessList.{place_of, is_same, process_state, at_process, with_state, with_exiting, with_needs_poll, put_remainder, fresh_at, with_fresh_body, with_fresh_process, enlist_of, exiting_of, unlisted_of, leave_of}
use Rattle.process_kernel.specs.State.{KernelState, Outcome, Ends, Goes, with_line, write_of, halted_of}
use Rattle.process_kernel.specs.Posts.{process_post, process_poll}
use Rattle.kernel_laws.specs.Printed.{starts_or_prints, starts_and_prints}
use Rattle.kernel_laws.specs.Telling.{process_in_mote}
use Rattle.kernel_laws.proofs.Steps.{others_stay}
use Rattle.kernel_laws.proofs.Tables.{set_other, is_equal}
use Rattle.kernel_laws.proofs.EachStep.{polled_or_not}

-- tables

pub get_set : {X : Type 0} (xs : List X) (i : ℕ) (x y : X) → slice_get xs i ≡ Some y → slice_get (slice_set xs i x) i ≡ Some x
get_set [] i x y h = absurd (cc)
get_set (z ∷ xs) zero x y h = refl
get_set (z ∷ xs) (suc i) x y h = get_set xs i x y h

pub get_set_other : {X : Type 0} (xs : List X) (i j : ℕ) (x : X) → (j ≡ i → ⊥) → slice_get (slice_set xs i x) j ≡ slice_get xs j
get_set_other [] i j x n = refl
get_set_other (z ∷ xs) zero zero x n = absurd (n refl)
get_set_other (z ∷ xs) zero (suc j) x n = refl
get_set_other (z ∷ xs) (suc i) zero x n = refl
get_set_other (z ∷ xs) (suc i) (suc j) x n = get_set_other xs i j x (λ e. n (ap suc e))

pub fresh_other : (cs : List Code) (rs : List Remainder) (q p : ℕ) → (p ≡ q → ⊥) → slice_get (fresh_at cs rs q) p ≡ slice_get rs p
fresh_other [] rs q p n = refl
fresh_other (c ∷ cs) [] q p n = refl
fresh_other (c ∷ cs) (r ∷ rs) zero zero n = absurd (n refl)
fresh_other (c ∷ cs) (r ∷ rs) zero (suc p) n = refl
fresh_other (c ∷ cs) (r ∷ rs) (suc q) zero n = refl
fresh_other (c ∷ cs) (r ∷ rs) (suc q) (suc p) n = fresh_other cs rs q p (λ e. n (ap suc e))

pub fresh_there : (cs : List Code) (rs : List Remainder) (p : ℕ) (c : Code) (r : Remainder) → slice_get cs p ≡ Some c → slice_get rs p ≡ Some r → slice_get (fresh_at cs rs p) p ≡ Some (fresh_of c Body)
fresh_there [] rs p c r e f = absurd (cc)
fresh_there (d ∷ cs) [] p c r e f = absurd (cc)
fresh_there (d ∷ cs) (x ∷ rs) zero c r e f = ap (λ o. elim o [ None ↦ None | Some k ↦ Some (fresh_of k Body) ]) e
fresh_there (d ∷ cs) (x ∷ rs) (suc p) c r e f = fresh_there cs rs p c r e f

-- lines that are added

pub traced_more : (p : Proc) (lines : List Line) (l : Line) → starts_and_prints p (lines ++ l ∷ []) ≡ starts_and_prints p lines ++ (if starts_or_prints p l.what then l ∷ [] else [])
traced_more p lines l = filter-append (λ k. starts_or_prints p k.what) lines (l ∷ [])

traced_nothing : (p : Proc) (l : Line) → starts_or_prints p l.what ≡ false → (if starts_or_prints p l.what then l ∷ [] else []) ≡ []
traced_nothing p l e = rw e refl

-- all processes except the process of the program with this number
abbrev pub IsOther : ℕ → Proc → Type 0
IsOther p q = place_of (Own p) ≡ place_of q → ⊥

pub own_other : (p q : ℕ) → (q ≡ p → ⊥) → IsOther p (Own q)
own_other p q n e = n (omega (arith, e))

pub other_own : (p q : ℕ) → IsOther p (Own q) → p ≡ q → ⊥
other_own p q n e = n (ap (λ k. k + 3) e)

pub etimer_other : (p : ℕ) → IsOther p Etimer
etimer_other p e = omega arith

pub ctimer_other : (p : ℕ) → IsOther p Ctimer
ctimer_other p e = omega arith

pub radio_other : (p : ℕ) → IsOther p Radio
radio_other p e = omega arith

pub other_differs : (p : ℕ) (q : Proc) → IsOther p q → is_same q (Own p) ≡ false
other_differs p q n = grind (arith, nat_tests, n)

pub which : (p : ℕ) (q : Proc) → (q ≡ Own p) ⊎ IsOther p q
which p (Own q) = elim (is_equal q p) [ inl e ↦ inl (ap Own e) | inr n ↦ inr (own_other p q n) ]
which p Etimer = inr (etimer_other p)
which p Ctimer = inr (ctimer_other p)
which p Radio = inr (radio_other p)

-- a property of the last state, whether the outcome continues or ends
abbrev pub Always : {A : Type 0} → (KernelState → Type 0) → Outcome A → Type 0
Always P (Ends t) = P t
Always P (Goes a t) = P t

pub always_if : {A : Type 0} (P : KernelState → Type 0) (b : Bool) (o q : Outcome A) → Always P o → Always P q → Always P (if b then o else q)
always_if {A} P true o q h i = h
always_if {A} P false o q h i = i

module _ (p : ℕ) where
  -- the process has the same position in both states
  abbrev pub IsQuiet : KernelState → KernelState → Type 0
  IsQuiet s t = process_in_mote p t ≡ process_in_mote p s

  pub line_quiet : (s : KernelState) (w : What) → starts_or_prints (Own p) w ≡ false → IsQuiet s (with_line s w)
  line_quiet s w e =
      ap (λ l. record (process_in_mote p s) { lines_so_far = l }) (traced_more (Own p) s.lines (record { at = s.moment; what = w }) ∙ ap (λ l. starts_and_prints (Own p) s.lines ++ l) (traced_nothing (Own p) (record { at = s.moment; what = w }) e) ∙ append-nil _)

  pub print_quiet : (s : KernelState) (q v : ℕ) → (q ≡ p → ⊥) → IsQuiet s (with_line s (what.Print (Own q) v))
  print_quiet s q v n = line_quiet s _ (other_differs p (Own q) (own_other p q n))

  pub state_quiet : (s : KernelState) (q : Proc) (x : ProcessState) → IsOther p q → IsQuiet s (with_state s q x)
  unfolding with_state
  state_quiet s q x n =
      ap (λ k. record (process_in_mote p s) { has = nat_lt (place_of (Own p)) k; state = process_state (with_state s q x) (Own p) }) (length-set s.states (place_of q) x) ∙ ap (λ k. record (process_in_mote p s) { state = k }) (set_other s.states (place_of q) (place_of (Own p)) x Off n)

  pub exiting_set_quiet : (s : KernelState) (q : Proc) (b : Bool) → IsOther p q → IsQuiet s (with_exiting s q b)
  unfolding with_exiting
  exiting_set_quiet s q b n =
      ap (λ k. record (process_in_mote p s) { room = nat_lt (place_of (Own p)) k; exiting = at_process (slice_set s.exiting (place_of q) b) (Own p) }) (length-set s.exiting (place_of q) b) ∙ ap (λ k. record (process_in_mote p s) { exiting = k }) (set_other s.exiting (place_of q) (place_of (Own p)) b false n)

  pub exiting_quiet : (s : KernelState) (q : Proc) → IsOther p q → IsQuiet s (exiting_of s q)
  unfolding exiting_of
  exiting_quiet s q n = exiting_set_quiet (with_state s q Off) q true n ∙ state_quiet s q Off n

  pub needs_poll_quiet : (s : KernelState) (q : Proc) (b : Bool) → IsQuiet s (with_needs_poll s q b)
  unfolding with_needs_poll
  needs_poll_quiet s q b = refl

  pub poll_quiet : (s : KernelState) (q : Proc) → IsQuiet s (process_poll s q)
  unfolding with_needs_poll
  poll_quiet s q = polled_or_not (λ t. IsQuiet s t) s q refl refl

  pub variables_quiet : (s : KernelState) (q : ℕ) (vs : List ℕ) (n : ℕ) → (q ≡ p → ⊥) → IsQuiet s (record s { variables = slice_set s.variables q vs; units = n })
  variables_quiet s q vs n other = ap (λ k. record (process_in_mote p s) { vars = k }) (get_set_other s.variables q p vs (λ e. other (sym e)))

  pub remainder_quiet : (s : KernelState) (q : ℕ) (r : Remainder) → (q ≡ p → ⊥) → IsQuiet s (put_remainder s q r)
  unfolding put_remainder
  remainder_quiet s q r other = ap (λ k. record (process_in_mote p s) { rest = k }) (get_set_other s.remainders q p r (λ e. other (sym e)))

  pub body_quiet : (s : KernelState) (q : ℕ) → (q ≡ p → ⊥) → IsQuiet s (with_fresh_body s q)
  body_quiet s q other = ap (λ k. record (process_in_mote p s) { rest = k }) (fresh_other s.program.codes s.remainders q p (λ e. other (sym e)))

  pub process_quiet : (s : KernelState) (q : Proc) → IsOther p q → IsQuiet s (with_fresh_process s q)
  process_quiet s (Own q) n = body_quiet s q (λ e. other_own p q n (sym e))
  process_quiet s x n = refl

  member_quiet : (s : KernelState) (q : Proc) (k : ℕ) → IsOther p q → IsQuiet s (record s { members = record { process = q; incarnation = s.started } ∷ s.members; started = k })
  member_quiet s q k n =
      let e : is_same (Own p) q ≡ false = grind (arith, nat_tests, n) in
      rw e refl

  pub enlist_quiet : (s : KernelState) (q : Proc) → IsOther p q → Always (λ t. IsQuiet s t) (enlist_of s q)
  unfolding enlist_of write_of
  enlist_quiet s q n =
      let s1 = record s { members = record { process = q; incarnation = s.started } ∷ s.members; started = s.started + 1 } in
      let s2 = with_state s1 q Running in
      line_quiet (with_fresh_process s2 q) (what.Start q) (other_differs p q n) ∙ process_quiet s2 q n ∙ state_quiet s1 q Running n ∙ member_quiet s q (s.started + 1) n

  unlisted_quiet : (s : KernelState) (q : Proc) → IsOther p q → IsQuiet s (unlisted_of s q)
  unfolding unlisted_of
  unlisted_quiet s q n = ap (λ b. record (process_in_mote p s) { listed = b }) (others_stay s.members q (Own p) (grind (arith, nat_tests, n)))

  pub leave_quiet : (s : KernelState) (q : Proc) → IsOther p q → Always (λ t. IsQuiet s t) (leave_of s q)
  unfolding leave_of write_of
  leave_quiet s q n =
      line_quiet (unlisted_of (with_exiting s q false) q) (what.Leave q) refl ∙ unlisted_quiet (with_exiting s q false) q n ∙ exiting_set_quiet s q false n

  pub halted_quiet : (s : KernelState) → IsQuiet s (halted_of s)
  unfolding halted_of
  halted_quiet s = line_quiet s what.Halt refl

  pub post_quiet : (s : KernelState) (t : Target) (e : Event) → Always (λ u. IsQuiet s u) (process_post s t e)
  unfolding process_post write_of
  post_quiet s t e =
      always_if (λ u. IsQuiet s u) (nat_le (2 ^ 62) s.queue.accepted) _ _ (halted_quiet s)
      (always_if (λ u. IsQuiet s u) (nat_le s.queue.capacity (length s.queue.events)) _ _ (line_quiet s _ refl) (line_quiet (record s { queue = with_posted s.queue t e }) _ refl))

-- The small steps that a process of the program takes itself: it starts, it is called, and it leaves.
use Rattle.std.proofs.Common.{ℕ, ◌≡◌, ◌+◌, ◌||◌, ◌==◌, Bool, true, false, nat_lt, if◌then◌else◌, [], ◌∷◌, ◌++◌, Some, slice_get, slice_set, refl, ap, ◌∙◌, arith}
use Rattle.std.proofs.lemmas.List.{length-set}
use Rattle.std.proofs.lemmas.Bool.Decides.{nat_tests}
use Rattle.program_tree.specs.declared.event.Proc.TheVariants.{Own}
use Rattle.program_tree.specs.Code.{Code}
use Rattle.protothread.specs.declared.part.Part.TheVariants.{Body}
use Rattle.protothread.specs.Remainder.{Remainder, fresh_of}
use Rattle.trace_lines.specs.declared.line.What.TheVariants as what
use Rattle.process_kernel.specs.declared.process.ProcessState.{ProcessState}
use Rattle.process_kernel.specs.declared.process.ProcessState.TheVariants.{Off, Running}
use Rattle.process_kernel.specs.ProcessList.{place_of, is_found_in, with_state, with_exiting, at_process, process_state, put_remainder, with_fresh_body, enlist_of, exiting_of, unlisted_of, leave_of}
use Rattle.process_kernel.specs.State.{KernelState, with_line, write_of}
use Rattle.kernel_laws.specs.Printed.{starts_and_prints}
use Rattle.kernel_laws.specs.Telling.{ProcessInMote, process_in_mote}
use Rattle.kernel_laws.proofs.Tables.{set_same, left_out, below_of}
use Rattle.kernel_laws.proofs.ProcessInMote.{Always, get_set, fresh_there, traced_more, line_quiet}

pub alike : (k : ℕ) → (k == k) ≡ true
alike k = grind (arith, nat_tests)

module _ (p : ℕ) where
  -- states

  pub state_in_mote : (s : KernelState) (x : ProcessState) → (process_in_mote p s).has ≡ true → process_in_mote p (with_state s (Own p) x) ≡ record (process_in_mote p s) { state = x }
  unfolding with_state
  state_in_mote s x h =
      ap (λ k. record (process_in_mote p s) { has = nat_lt (place_of (Own p)) k; state = process_state (with_state s (Own p) x) (Own p) }) (length-set s.states (place_of (Own p)) x)
      ∙ ap (λ k. record (process_in_mote p s) { state = k }) (set_same s.states (place_of (Own p)) x Off (below_of _ _ h))

  exiting_set_in_mote : (s : KernelState) (b : Bool) → (process_in_mote p s).room ≡ true → process_in_mote p (with_exiting s (Own p) b) ≡ record (process_in_mote p s) { exiting = b }
  unfolding with_exiting
  exiting_set_in_mote s b h =
      ap (λ k. record (process_in_mote p s) { room = nat_lt (place_of (Own p)) k; exiting = at_process (slice_set s.exiting (place_of (Own p)) b) (Own p) }) (length-set s.exiting (place_of (Own p)) b)
      ∙ ap (λ k. record (process_in_mote p s) { exiting = k }) (set_same s.exiting (place_of (Own p)) b false (below_of _ _ h))

  pub exiting_in_mote : (s : KernelState) → (process_in_mote p s).has ≡ true → (process_in_mote p s).room ≡ true → process_in_mote p (exiting_of s (Own p)) ≡ record (process_in_mote p s) { state = Off; exiting = true }
  unfolding exiting_of
  exiting_in_mote s h room =
      let e = state_in_mote s Off h in
      exiting_set_in_mote (with_state s (Own p) Off) true (ap (λ v. v.room) e ∙ room) ∙ ap {A = ProcessInMote} (λ v. record v { exiting = true }) e

  unlisted_in_mote : (s : KernelState) → process_in_mote p (unlisted_of s (Own p)) ≡ record (process_in_mote p s) { listed = false }
  unfolding unlisted_of
  unlisted_in_mote s = ap (λ b. record (process_in_mote p s) { listed = b }) (left_out s.members (Own p))

  pub leave_in_mote : (s : KernelState) → (process_in_mote p s).room ≡ true → Always (λ t. process_in_mote p t ≡ record (process_in_mote p s) { exiting = false; listed = false }) (leave_of s (Own p))
  unfolding leave_of write_of
  leave_in_mote s room =
      line_quiet p (unlisted_of (with_exiting s (Own p) false) (Own p)) (what.Leave (Own p)) refl ∙ unlisted_in_mote (with_exiting s (Own p) false) ∙ ap {A = ProcessInMote} (λ v. record v { listed = false }) (exiting_set_in_mote s false room)

  -- remainders

  pub body_is_right : (s : KernelState) (code : Code) (r : Remainder) → slice_get s.program.codes p ≡ Some code → (process_in_mote p s).rest ≡ Some r → process_in_mote p (with_fresh_body s p) ≡ record (process_in_mote p s) { rest = Some (fresh_of code Body) }
  body_is_right s code r is rest = ap (λ o. record (process_in_mote p s) { rest = o }) (fresh_there s.program.codes s.remainders p code r is rest)

  pub put_in_mote : (s : KernelState) (next r : Remainder) → (process_in_mote p s).rest ≡ Some r → process_in_mote p (put_remainder s p next) ≡ record (process_in_mote p s) { rest = Some next }
  unfolding put_remainder
  put_in_mote s next r rest = ap (λ o. record (process_in_mote p s) { rest = o }) (get_set s.remainders p next r rest)

  -- a start

  member_in_mote : (s : KernelState) (k : ℕ) → process_in_mote p (record s { members = record { process = Own p; incarnation = s.started } ∷ s.members; started = k }) ≡ record (process_in_mote p s) { listed = true }
  member_in_mote s k = ap (λ b. record (process_in_mote p s) { listed = b || is_found_in s.members (Own p) }) (alike (place_of (Own p)))

  start_in_mote : (s : KernelState) → process_in_mote p (with_line s (what.Start (Own p))) ≡ record (process_in_mote p s) { lines_so_far = (process_in_mote p s).lines_so_far ++ record { at = s.moment; what = what.Start (Own p) } ∷ [] }
  start_in_mote s =
      ap (λ l. record (process_in_mote p s) { lines_so_far = l }) (traced_more (Own p) s.lines (record { at = s.moment; what = what.Start (Own p) }) ∙ ap (λ b. starts_and_prints (Own p) s.lines ++ (if b then record { at = s.moment; what = what.Start (Own p) } ∷ [] else [])) (alike (place_of (Own p))))

  pub enlist_in_mote : (s : KernelState) (code : Code) (r : Remainder) → slice_get s.program.codes p ≡ Some code → (process_in_mote p s).has ≡ true → (process_in_mote p s).rest ≡ Some r
      → Always (λ t. process_in_mote p t ≡ record (process_in_mote p s) { state = Running; listed = true; rest = Some (fresh_of code Body); lines_so_far = (process_in_mote p s).lines_so_far ++ record { at = s.moment; what = what.Start (Own p) } ∷ [] }) (enlist_of s (Own p))
  unfolding enlist_of write_of with_state
  enlist_in_mote s code r is has rest =
      let s1 = record s { members = record { process = Own p; incarnation = s.started } ∷ s.members; started = s.started + 1 } in
      let e1 = member_in_mote s (s.started + 1) in
      let s2 = with_state s1 (Own p) Running in
      let e2 : process_in_mote p s2 ≡ record (process_in_mote p s) { listed = true; state = Running } = state_in_mote s1 Running has ∙ ap {A = ProcessInMote} (λ v. record v { state = Running }) e1 in
      let s3 = with_fresh_body s2 p in
      let e3 : process_in_mote p s3 ≡ record (process_in_mote p s) { listed = true; state = Running; rest = Some (fresh_of code Body) } = body_is_right s2 code r is rest ∙ ap {A = ProcessInMote} (λ v. record v { rest = Some (fresh_of code Body) }) e2 in
      start_in_mote s3 ∙ ap {A = ProcessInMote} (λ v. record v { lines_so_far = v.lines_so_far ++ record { at = s.moment; what = what.Start (Own p) } ∷ [] }) e3

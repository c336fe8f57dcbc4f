-- The turn of a process in the polls, and the turns before it.
use Rattle.std.proofs.Common.{◌≡◌, ◌||◌, Bool, true, false, if◌then◌else◌, List, [], ◌∷◌, ◌++◌, refl, sym, ap, subst, arith}
use Rattle.std.proofs.lemmas.Bool.Decides.{nat_tests}
use Rattle.program_tree.specs.declared.event.Proc.{Proc}
use Rattle.program_tree.specs.declared.event.Proc.TheVariants.{Own, Etimer, Ctimer, Radio}
use Rattle.program_tree.specs.declared.event.SystemEvent.TheVariants.{Poll}
use Rattle.process_kernel.specs.declared.process.Member.{Member}
use Rattle.process_kernel.specs.ProcessList.{place_of, is_same, is_found_in, holds_member, process_needs_poll, is_on_list, with_needs_poll}
use Rattle.process_kernel.specs.State.{KernelState, Went, Ends, Goes, ◌>>=◌, Calls}
use Rattle.process_kernel.specs.Posts.{own_event}
use Rattle.process_kernel.specs.Process.{walk_polls, do_poll, do_poll_if_requested, poll_turn_of}
use Rattle.kernel_laws.specs.Own.{IsOwnProcess}
use Rattle.kernel_laws.specs.Poll.{members_before}
use Rattle.kernel_laws.proofs.EachStep.{Every, Whatever, Lead, AreLed, fits_no_exit, lead_bind, lead_from, lead_if, lead_still}
use Rattle.kernel_laws.proofs.Watch.{Watches, chain, watches_cleared}
use Rattle.kernel_laws.proofs.Steps.{any_or}

place_is : (q p : Proc) → is_same q p ≡ true → q ≡ p
place_is (Own a) (Own b) e = let same : a ≡ b = grind (arith, nat_tests) in ap Own same
place_is Etimer Etimer e = refl
place_is Ctimer Ctimer e = refl
place_is Radio Radio e = refl
place_is q p e = absurd (grind (arith, nat_tests))

same_back : (q p : Proc) → is_same q p ≡ false → is_same p q ≡ false
same_back q p e = grind (arith, nat_tests)

holds_first : (m : Member) (ms : List Member) → holds_member (m ∷ ms) m ≡ true
holds_first m ms = grind (arith, nat_tests)

walk_joined : (calls : Calls) (xs ys : List Member) (s : KernelState) → walk_polls calls (xs ++ ys) s ≡ (walk_polls calls xs s >>= λ _ t. walk_polls calls ys t)
walk_joined calls [] ys s = refl
walk_joined calls (x ∷ xs) ys s = by (poll_turn_of calls s x) (λ t. walk_joined calls xs ys t)
  where
    by : (o : Went) → ((t : KernelState) → walk_polls calls (xs ++ ys) t ≡ (walk_polls calls xs t >>= λ _ u. walk_polls calls ys u)) → (o >>= λ _ t. walk_polls calls (xs ++ ys) t) ≡ ((o >>= λ _ t. walk_polls calls xs t) >>= λ _ u. walk_polls calls ys u)
    by (Ends t) later = refl
    by (Goes a t) later = later t

-- the polls, if a poll is requested
pub polls_are : (calls : Calls) (s : KernelState) → s.poll_requested ≡ true → do_poll_if_requested calls s ≡ walk_polls calls s.members (record s { poll_requested = false })
unfolding do_poll_if_requested do_poll
polls_are calls s e = rw e refl

module _ (p : Proc) where
  -- the first member of this process on the list, and the members after it
  pub record Splits (ms : List Member) : Type 0 where
    pub member : Member
    pub after : List Member
    pub split : ms ≡ members_before p ms ++ member ∷ after
    pub is_it : member.process ≡ p
    pub holds : holds_member ms member ≡ true

  pub splits : (ms : List Member) → is_found_in ms p ≡ true → Splits ms
  splits [] h = absurd (cc)
  splits (m ∷ ms) h = by (is_same m.process p) refl (splits ms)
    where
      by : (b : Bool) → is_same m.process p ≡ b → (is_found_in ms p ≡ true → Splits ms) → Splits (m ∷ ms)
      by true e later = record { member = m; after = ms; split = rw e refl; is_it = place_is m.process p e; holds = holds_first m ms }
      by false e later =
          let back = same_back m.process p e in
          let k = later (subst (λ b. (b || is_found_in ms p) ≡ true) back h) in
          record { member = k.member; after = k.after; split = rw e (ap (λ l. m ∷ l) k.split); is_it = k.is_it; holds = any_or _ (holds_member ms k.member) k.holds }

  -- the polls of the members before it, of this member, and of the members after it
  pub walk_splits : (calls : Calls) (ms : List Member) (x : Member) (after : List Member) (s : KernelState) → ms ≡ members_before p ms ++ x ∷ after
      → walk_polls calls ms s ≡ (walk_polls calls (members_before p ms) s >>= λ _ t. (poll_turn_of calls t x >>= λ _ u. walk_polls calls after u))
  walk_splits calls ms x after s e = subst (λ l. walk_polls calls l s ≡ (walk_polls calls (members_before p ms) s >>= λ _ t. walk_polls calls (x ∷ after) t)) (sym e) (walk_joined calls (members_before p ms) (x ∷ after) s)

  -- when its turn comes, it is called if it is on the list and needs a poll
  pub turn_calls : (calls : Calls) (u : KernelState) (x : Member) → x.process ≡ p → is_on_list u x ≡ true → process_needs_poll u p ≡ true → poll_turn_of calls u x ≡ calls.call (with_needs_poll u p false) p (own_event Poll 0)
  unfolding poll_turn_of
  turn_calls calls u x e there needs_poll = rw (there, e, needs_poll) refl

  -- before its turn it still needs a poll
  module _ (calls : Calls) (led : AreLed (Watches p) Whatever (chain p) IsOwnProcess Every calls) where
    pub other_led : (s : KernelState) (q : Proc) → (place_of p ≡ place_of q → ⊥) → Lead (Watches p) Whatever (Unit {0}) s (calls.call (with_needs_poll s q false) q (own_event Poll 0))
    other_led s q n =
        lead_from (Watches p) Whatever (chain p) _ s _ _ (watches_cleared p s q n) (led.call _ q (own_event Poll 0) (fits_no_exit (Watches p) Whatever (chain p) IsOwnProcess Every q (own_event Poll 0).number refl))

    turn_led : (s : KernelState) (x : Member) → is_same x.process p ≡ false → Lead (Watches p) Whatever (Unit {0}) s (poll_turn_of calls s x)
    unfolding poll_turn_of
    turn_led s x e = lead_if (Watches p) Whatever (chain p) _ s _ _ _ (other_led s x.process (λ q. grind (arith, nat_tests))) (lead_still (Watches p) Whatever (chain p) _ s tt)

    pub before_led : (ms : List Member) (s : KernelState) → Lead (Watches p) Whatever (Unit {0}) s (walk_polls calls (members_before p ms) s)
    before_led [] s = lead_still (Watches p) Whatever (chain p) _ s tt
    before_led (x ∷ ms) s = by (is_same x.process p) refl (before_led ms)
      where
        by : (b : Bool) → is_same x.process p ≡ b → ((t : KernelState) → Lead (Watches p) Whatever (Unit {0}) t (walk_polls calls (members_before p ms) t)) → Lead (Watches p) Whatever (Unit {0}) s (walk_polls calls (if b then [] else x ∷ members_before p ms) s)
        by true e later = lead_still (Watches p) Whatever (chain p) _ s tt
        by false e later = lead_bind (Watches p) Whatever (chain p) _ _ s _ _ (turn_led s x e) (λ a t. later t)

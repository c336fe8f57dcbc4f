-- A boot forgets no timer, and starts etimer and the radio process.
use Rattle.std.proofs.Common.{ℕ, ◌≡◌, ◌+◌, not, Bool, true, false, nat_lt, length, if◌then◌else◌, List, [], ◌∷◌, refl, sym, ◌∙◌, subst, map}
use Rattle.std.proofs.lemmas.List.{length-set}
use Rattle.program_tree.specs.declared.event.Proc.{Proc}
use Rattle.program_tree.specs.declared.event.Proc.TheVariants.{Own, Etimer, Ctimer, Radio}
use Rattle.program_tree.specs.declared.event.SystemEvent.TheVariants.{Init}
use Rattle.process_kernel.specs.declared.process.ProcessState.{ProcessState}
use Rattle.process_kernel.specs.declared.process.ProcessState.TheVariants.{Off, Running, Called}
use Rattle.trace_lines.specs.declared.line.What.TheVariants as what
use Rattle.process_kernel.specs.State.{KernelState, Went, Ends, Goes, with_line, write_of, Calls}
use Rattle.process_kernel.specs.ProcessList.{is_alive, is_listed, is_busy, has_process, with_state, with_fresh_process, enlist_of}
use Rattle.process_kernel.specs.Posts.{own_event}
use Rattle.process_kernel.specs.Process.{process_start, autostart_start, boot_of}
use Rattle.kernel_laws.specs.Own.{IsOwnProcess}
use Rattle.kernel_laws.specs.InStep.{state_at_place, exiting_at, listed_in, AreInStep, IsInStep, IsIdle}
use Rattle.kernel_laws.specs.Due.{NoneIsDue, ForgetsNone}
use Rattle.kernel_laws.specs.Poll.{CanBePolled}
use Rattle.kernel_laws.proofs.Delivers.{first_start}
use Rattle.kernel_laws.proofs.InStep as tables
use Rattle.kernel_laws.proofs.Tables.{set_same, below_of}
use Rattle.kernel_laws.proofs.Packets.{IfGoes, goes_bind}
use Rattle.kernel_laws.proofs.EachStep.{Every, AnyProcess, Whatever, Lead, fits_no_exit, start_all}
use Rattle.kernel_laws.proofs.Watch.{Watches, chain, steps}
use Rattle.kernel_laws.proofs.WatchedRuns.{Good, good_leads, AreWatched}

-- the process was put on the list
enlisted : KernelState → Proc → KernelState
enlisted s p = with_line (with_fresh_process (with_state (record s { members = record { process = p; incarnation = s.started } ∷ s.members; started = s.started + 1 }) p Running) p) (what.Start p)

enlisted_can : (s : KernelState) → has_process s Etimer ≡ true → nat_lt 0 (length s.needs_poll) ≡ true → CanBePolled Etimer (enlisted s Etimer)
unfolding enlisted with_state
enlisted_can s there needs_poll = record { alive = rw (set_same s.states 0 Running Off (below_of 0 (length s.states) there)) refl; can_need_poll = needs_poll }

enlisted_room : (s : KernelState) → has_process s Radio ≡ true → nat_lt 2 (length s.needs_poll) ≡ true → (has_process (enlisted s Etimer) Radio ≡ true) × (nat_lt 2 (length (enlisted s Etimer).needs_poll) ≡ true)
unfolding enlisted with_state
enlisted_room s there needs_poll = (rw (length-set s.states 0 Running) there, needs_poll)

enlisted_listed : (s : KernelState) → is_listed (enlisted s Etimer) Etimer ≡ true
unfolding enlisted with_state
enlisted_listed s = refl

enlisted_radio : (s : KernelState) → is_listed (enlisted s Radio) Radio ≡ true
unfolding enlisted with_state
enlisted_radio s = refl

enlisted_moment : (s : KernelState) → ((enlisted s Etimer).moment ≡ s.moment) × ((enlisted s Etimer).timers ≡ s.timers)
unfolding enlisted with_state
enlisted_moment s = (refl, refl)

alive_is : (x : ProcessState) (e l : Bool) → AreInStep x e l → e ≡ false → l ≡ true → is_alive x ≡ true
alive_is Off e l h q r = let f : false ≡ true = sym q ∙ h ∙ r in absurd (cc)
alive_is Running e l h q r = refl
alive_is Called e l h q r = refl

-- the beginning of a boot
pub record IsUnstarted (moment : ℕ) (s : KernelState) : Type 0 where
  pub now_is : s.moment ≡ moment
  pub step : IsInStep s
  pub idle : IsIdle s
  pub members : s.members ≡ []
  pub busy : is_busy s Etimer ≡ false
  pub there : has_process s Etimer ≡ true
  pub can_need_poll : nat_lt 0 (length s.needs_poll) ≡ true
  pub radio_state : has_process s Radio ≡ true
  pub radio_can_need_poll : nat_lt 2 (length s.needs_poll) ≡ true
  pub none : NoneIsDue moment s.timers

module _ (calls : Calls) (are : AreWatched calls) where
  start_good : (r : Bool) (moment : ℕ) (s : KernelState) (p : Proc) → Good r moment s → IfGoes (Good r moment) (process_start calls s p)
  start_good r moment s p g = good_leads _ r moment s _ g (start_all (Watches Etimer) Whatever (chain Etimer) IsOwnProcess (steps Etimer) calls are.led s p) (start_all tables.KeepsStep Whatever tables.chain AnyProcess tables.steps calls are.kept s p)

  starts_good : (r : Bool) (moment : ℕ) (ps : List Proc) (s : KernelState) → Good r moment s → IfGoes (Good r moment) (autostart_start calls ps s)
  starts_good r moment [] s g = g
  starts_good r moment (p ∷ ps) s g = goes_bind _ _ (Good r moment) (Good r moment) (process_start calls s p) _ (start_good r moment s p g) (λ a t h. starts_good r moment ps t h)

  -- etimer starts first

  first_goes : (s : KernelState) → is_busy s Etimer ≡ false → has_process s Etimer ≡ true → is_listed s Etimer ≡ false → process_start calls s Etimer ≡ calls.call (enlisted s Etimer) Etimer (own_event Init 0)
  unfolding enlisted enlist_of write_of
  first_goes s b t n = first_start calls are.reach s b t n

  first_by : (moment : ℕ) (s u : KernelState) (o : Went) → IsUnstarted moment s → (u.moment ≡ s.moment) × (u.timers ≡ s.timers) → CanBePolled Etimer u → is_listed u Etimer ≡ true → has_process u Radio ≡ true → nat_lt 2 (length u.needs_poll) ≡ true
      → Lead (Watches Etimer) Whatever (Unit {0}) u o → tables.Kept (Unit {0}) s o → IfGoes (Good false moment) o
  first_by moment s u (Ends t) h same can listed state can_need_poll w k = tt
  first_by moment s u (Goes a t) h same can listed state can_need_poll w k =
      let now : u.moment ≡ moment = same.0 ∙ h.now_is in
      let later : t.moment ≡ moment = w.leads.moment ∙ now in
      let before : NoneIsDue u.moment u.timers = rw (now, same.1) h.none in
      let kept = k.leads.kept h.step in
      record {
        now_is = later;
        in_state = record {
          can = w.leads.etimer.can can;
          step = kept.step;
          idle = record { called = λ j. kept.busy.called j ∙ h.idle.called j; exiting = λ j. kept.busy.exiting j ∙ h.idle.exiting j };
          listed = w.leads.etimer.listed listed;
          radio_state = w.leads.radio.state state;
          radio_can_need_poll = w.leads.radio.can_need_poll can_need_poll;
          radio = λ e. absurd (cc);
        };
        forgets = subst (λ n. ForgetsNone n t) later (w.leads.due refl can before);
      }

  first_good : (moment : ℕ) (s : KernelState) → IsUnstarted moment s → IfGoes (Good false moment) (process_start calls s Etimer)
  first_good moment s h =
      let q = first_goes s h.busy h.there (rw (h.members) refl) in
      let room = enlisted_room s h.radio_state h.radio_can_need_poll in
      let call = are.led.call (enlisted s Etimer) Etimer (own_event Init 0) (fits_no_exit (Watches Etimer) Whatever (chain Etimer) IsOwnProcess Every Etimer (own_event Init 0).number refl) in
      first_by moment s (enlisted s Etimer) _ h (enlisted_moment s) (enlisted_can s h.there h.can_need_poll) (enlisted_listed s) room.0 room.1
      (subst (λ o. Lead (Watches Etimer) Whatever (Unit {0}) (enlisted s Etimer) o) (sym q) call) (start_all tables.KeepsStep Whatever tables.chain AnyProcess tables.steps calls are.kept s Etimer)

  -- the radio process

  still_listed : (u : KernelState) (o : Went) → is_listed u Radio ≡ true → Lead (Watches Etimer) Whatever (Unit {0}) u o → IfGoes (λ t. is_listed t Radio ≡ true) o
  still_listed u (Ends t) h w = tt
  still_listed u (Goes a t) h w = w.leads.radio.listed h

  radio_listed : (s : KernelState) → is_busy s Radio ≡ false → has_process s Radio ≡ true → IfGoes (λ t. is_listed t Radio ≡ true) (process_start calls s Radio)
  unfolding process_start enlist_of write_of enlisted
  radio_listed s busy there = rw (busy, there) (by (is_listed s Radio) refl)
    where
      by : (b : Bool) → is_listed s Radio ≡ b → IfGoes (λ t. is_listed t Radio ≡ true) (if not b then calls.call (enlisted s Radio) Radio (own_event Init 0) else Goes tt s)
      by true e = e
      by false e = still_listed (enlisted s Radio) _ (enlisted_radio s) (are.led.call (enlisted s Radio) Radio (own_event Init 0) (fits_no_exit (Watches Etimer) Whatever (chain Etimer) IsOwnProcess Every Radio (own_event Init 0).number refl))

  now_radio : (moment : ℕ) (o : Went) → IfGoes (Good false moment) o → IfGoes (λ t. is_listed t Radio ≡ true) o → IfGoes (Good true moment) o
  now_radio moment (Ends t) g l = tt
  now_radio moment (Goes a t) g l =
      let h = g.in_state in
      record {
        now_is = g.now_is;
        in_state = record {
          can = h.can;
          step = h.step;
          idle = h.idle;
          listed = h.listed;
          radio_state = h.radio_state;
          radio_can_need_poll = h.radio_can_need_poll;
          radio = λ e. record { can = record { alive = alive_is (state_at_place t 2) (exiting_at t 2) (listed_in t.members 2) (h.step.each 2) (h.idle.exiting 2) l; can_need_poll = h.radio_can_need_poll }; listed = l };
        };
        forgets = g.forgets;
      }

  radio_good : (moment : ℕ) (s : KernelState) → Good false moment s → IfGoes (Good true moment) (process_start calls s Radio)
  radio_good moment s g =
      let h = g.in_state in
      now_radio moment _ (start_good false moment s Radio g) (radio_listed s (rw (h.idle.called 2, h.idle.exiting 2) refl) h.radio_state)

  pub boot_good : (moment : ℕ) (s : KernelState) → IsUnstarted moment s → IfGoes (Good true moment) (boot_of calls s)
  unfolding boot_of
  boot_good moment s h =
      let own = map Own s.program.autostart in
      goes_bind _ _ (Good true moment) (Good true moment) (autostart_start calls (Etimer ∷ Ctimer ∷ Radio ∷ own) s) _
      (goes_bind _ _ (Good false moment) (Good true moment) (process_start calls s Etimer) _ (first_good moment s h) (λ a t g.
      goes_bind _ _ (Good false moment) (Good true moment) (process_start calls t Ctimer) _ (start_good false moment t Ctimer g) (λ b u i.
      goes_bind _ _ (Good true moment) (Good true moment) (process_start calls u Radio) _ (radio_good moment u i) (λ c v j. starts_good true moment own v j))))
      (λ a t g. g)

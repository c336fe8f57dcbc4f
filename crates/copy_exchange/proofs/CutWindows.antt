-- The windows so far, and the copies that are on their way after them.
use Rattle.std.proofs.Common.{[], ◌≡◌, ℕ, suc, ◌+◌, ◌-◌, ◌<◌, ◌≤◌, true, cond, ltb, List, ◌∷◌, map, length, refl, sym, ap, ◌∙◌, subst, arith, inl, inr}
use Rattle.std.proofs.lemmas.Bool.{cases_Bool, ltb-true, ltb-false, not-true}
use Rattle.radio_packet.specs.declared.copy.RadioCopy.{RadioCopy}
use Rattle.radio_packet.specs.declared.sent.Sent.{Sent}
use Rattle.window_laws.proofs.Lists.{filter_filter, every_weaker, every_flat_map, every_filter}
use Rattle.window_laws.specs.Agenda.{up_to}
use Rattle.window_laws.specs.Forward.{RunsForward}
use Rattle.window_laws.specs.System.{System}
use Rattle.window_laws.specs.Windows.{LoneMote, first_mote, Windows, Last, Window, RunsAlone, NoneBefore, copies_by, is_from_sender, IsJoined, as_log}
use Rattle.std.specs.List.{filter, flat_map, AllByRecursion}
use Rattle.window_laws.specs.Pending.{comes_from, IsPending}
use Rattle.window_laws.specs.Report.{IsReport}
use Rattle.window_laws.proofs.Pending.{gap, pending_left}
use Rattle.window_laws.proofs.History.{history}
use Rattle.window_laws.proofs.Alone.{by_windows, own_copies, from_pieces}
use Rattle.window_laws.proofs.Commute.{windows_report}

pub windows_then : {S L : Type 0} {system : System S L} (from bound end : ℕ) (motes next last : ℕ → LoneMote S L)
    → Windows system from bound motes next → Windows system bound end next last → Windows system from end motes last
windows_then from bound end motes next last Last after = after
windows_then from bound end motes next last (Window b n before short each rest) after = Window b n before short each (windows_then b bound end n next last rest after)

module _ {S L : Type 0} (system : System S L) (fine : RunsForward system) where
  -- the windows up to a moment led to this state
  abbrev pub LedTo : (from : ℕ) → (motes : ℕ → LoneMote S L) → Type 0
  LedTo from motes = Windows system 0 from (first_mote system) motes

  pub is_history : (from : ℕ) (motes : ℕ → LoneMote S L) → LedTo from motes → (k : ℕ) → k < system.motes → motes k ≡ history system from k
  unfolding history
  is_history from motes led = by_windows system fine 0 from (first_mote system) motes led (λ k h. refl)

  pub same_copies : (from : ℕ) (motes : ℕ → LoneMote S L) → LedTo from motes → (s : ℕ) → copies_by system motes s ≡ copies_by system (history system from) s
  same_copies from motes led s =
      elim (cases_Bool (ltb s system.motes)) [ inl e ↦ rw e (ap (λ m. flat_map system.copies m.sends) (is_history from motes led s (ltb-true s system.motes e))) | inr e ↦ rw e refl ]

  pub senders : (from : ℕ) (motes : ℕ → LoneMote S L) → LedTo from motes → (s : ℕ) → AllByRecursion (λ copy. copy.sender ≡ s) (copies_by system motes s)
  senders from motes led s = subst (AllByRecursion (λ copy. copy.sender ≡ s)) (sym (same_copies from motes led s)) (own_copies system fine from s)

  pub receivers : (motes : ℕ → LoneMote S L) (s : ℕ) → AllByRecursion (λ copy. copy.to < system.motes) (copies_by system motes s)
  receivers motes s =
      elim (cases_Bool (ltb s system.motes)) [
        | inl e ↦ rw e (every_flat_map _ system.copies (motes s).sends (each (motes s).sends))
        | inr e ↦ rw e tt
      ]
    where
      each : (sends : List Sent) → AllByRecursion (λ sent. AllByRecursion (λ (copy : RadioCopy). copy.to < system.motes) (system.copies sent)) sends
      each [] = tt
      each (sent ∷ sends) = (every_weaker _ _ (λ copy h. h.to) (system.copies sent) (fine.copies_later sent), each sends)

  -- all copies that are still on their way
  abbrev pub coming : (from : ℕ) → (motes : ℕ → LoneMote S L) → List RadioCopy
  coming from motes = filter (comes_from from) (flat_map (copies_by system motes) (up_to system.motes))

  pub coming_pending : (from : ℕ) (motes : ℕ → LoneMote S L) → LedTo from motes → IsPending system from motes (coming from motes)
  coming_pending from motes led s =
      filter_filter (is_from_sender s) (comes_from from) _
      ∙ ap (filter (comes_from from)) (from_pieces (copies_by system motes) (senders from motes led) system.motes s ∙ again)
    where
      again : cond (ltb s system.motes) (copies_by system motes s) [] ≡ copies_by system motes s
      again = elim (cases_Bool (ltb s system.motes)) [ inl e ↦ rw e refl | inr e ↦ rw e refl ]

  -- if no event is pending before a moment, the windows lead to this moment
  pub idle : (from next : ℕ) (motes : ℕ → LoneMote S L) → from ≤ next → LedTo from motes
      → ((k : ℕ) → k < system.motes → NoneBefore next (motes k).wake)
      → ((s : ℕ) → AllByRecursion (λ copy. from ≤ copy.at → next ≤ copy.at) (copies_by system motes s))
      → LedTo next motes
  idle from next motes le led wakes copies =
      windows_then 0 from next (first_mote system) motes motes led
      (gap system fine.some_lookahead next next (next - from) from e motes motes (coming from motes) (coming_pending from motes led) wakes later Last)
    where
      e : from + (next - from) ≡ next
      e = omega arith

      came : (c : RadioCopy) → (from ≤ c.at → next ≤ c.at) → comes_from from c ≡ true → next ≤ c.at
      came c h g = h (ltb-false c.at from (not-true _ g))

      later : AllByRecursion (λ copy. next ≤ copy.at) (coming from motes)
      later = every_filter (λ copy. from ≤ copy.at → next ≤ copy.at) _ (comes_from from) came _ (every_flat_map _ (copies_by system motes) (up_to system.motes) (each (up_to system.motes)))
        where
          each : (ks : List ℕ) → AllByRecursion (λ k. AllByRecursion (λ (copy : RadioCopy). from ≤ copy.at → next ≤ copy.at) (copies_by system motes k)) ks
          each [] = tt
          each (k ∷ ks) = (copies k, each ks)

  pub one_more : (from bound : ℕ) (motes next : ℕ → LoneMote S L) → LedTo from motes → from < bound → bound ≤ from + system.lookahead
      → ((k : ℕ) → k < system.motes → RunsAlone system from bound motes next k) → LedTo bound next
  one_more from bound motes next led before short each = windows_then 0 from bound (first_mote system) motes next led (Window bound next before short each Last)

  -- at the end, the motes' traces and packets are those of the report
  pub at_the_end : (end : ℕ) (motes : ℕ → LoneMote S L) → LedTo (suc end) motes → (joined : List Sent) → IsJoined system motes joined
      → IsReport system end (map (λ number. (motes number).lines) (up_to system.motes)) (as_log joined) (length (coming (suc end) motes))
  at_the_end end motes led joined is =
      windows_report system fine end motes led joined is (coming (suc end) motes) (pending_left system motes (coming (suc end) motes) end (coming_pending (suc end) motes led))

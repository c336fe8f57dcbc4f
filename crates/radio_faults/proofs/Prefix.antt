-- Runs agree up to the moment from which on their faults differ.
use Rattle.std.proofs.Common.{◌≡◌, ℕ, ◌<◌, ◌≤◌, List, [], ◌∷◌, map, subst, inl, inr, arith}
use Rattle.std.specs.List.{AllByRecursion}
use Rattle.radio_packet.specs.declared.sent.Sent.{Sent}
use Rattle.window_laws.specs.System.{System}
use Rattle.window_laws.specs.Agenda.{moment_of, mote_of}
use Rattle.window_laws.specs.NetStep.{NetState, Run, Done, Turn, stamped, turned_at}
use Rattle.window_laws.proofs.Ahead.{no_sooner}
use Rattle.window_laws.proofs.Lists.{every_append, every_both, every_weaker}
use Rattle.window_laws.proofs.Unique.{run_is_one}
use Rattle.radio_faults.specs.WithFaults.{Reboot, with_faults, RunsWith}
use Rattle.radio_faults.specs.NetLaws.{MakeTheSame, PrefixLaw}
use Rattle.radio_faults.proofs.Runs.{begins, copies_decide}
use Rattle.std.proofs.lemmas.Bool.{cases_lt}

module _ {S L : Type 0} (system : System S L) where
  -- a run up to the end passes each earlier moment
  split : (end earlier : ℕ) → earlier ≤ end → {net last : NetState S L} → Run system end net last → (state : NetState S L) × Run system earlier net state × Run system end state last
  split end earlier le {net} (Done late) = (net, Done (every_weaker _ _ (λ item h. omega arith) net.agenda late), Done late)
  split end earlier le {net} {last} (Turn moment mote least by rest) = elim (cases_lt earlier moment) [
    | inr before ↦ let more = split end earlier le rest in (more.0, Turn moment mote least before more.1, more.2)
    | inl after ↦ (net, Done (every_weaker _ _ (λ item h. let k = no_sooner moment mote (moment_of item) (mote_of item) h in omega arith) net.agenda least.is_first), Turn moment mote least by rest)
  ]

  all_stamped : (end moment mote : ℕ) (sends : List Sent) → moment ≤ end → AllByRecursion (λ (sent : Sent). sent.at ≤ end) (map (stamped moment mote) sends)
  all_stamped end moment mote [] le = tt
  all_stamped end moment mote (s ∷ sends) le = (le, all_stamped end moment mote sends le)

  -- no packet is sent after the end
  sent_by_end : (end : ℕ) {net last : NetState S L} → Run system end net last → AllByRecursion (λ (sent : Sent). sent.at ≤ end) net.log → AllByRecursion (λ (sent : Sent). sent.at ≤ end) last.log
  sent_by_end end (Done late) all = all
  sent_by_end end {net} (Turn moment mote least le rest) all =
      sent_by_end end rest (every_append (λ (sent : Sent). sent.at ≤ end) net.log _ all (all_stamped end moment mote (turned_at system moment mote net).sends le))

pub prefix_law : {S L : Type 0} (reboot : Reboot S L) (system : System S L) → PrefixLaw reboot system
prefix_law {S} {L} reboot system some others end moment one other run run' same earlier lt le off =
    let parts = split (with_faults reboot some system) end earlier le run in
    let parts' = split (with_faults reboot others system) end earlier le run' in
    let state = parts.0 in
    let before = begins (with_faults reboot some system) end (λ (sent : Sent). sent.at < moment → MakeTheSame system some others sent) parts.2 same in
    let sent = sent_by_end (with_faults reboot some system) earlier parts.1 tt in
    let same' = every_weaker _ (MakeTheSame system some others) (λ (sent : Sent) h. h.0 (let k = h.1 in omega arith)) state.log (every_both _ _ state.log before sent) in
    let over : RunsWith reboot others system earlier state = copies_decide reboot system some others earlier state parts.1 off same' in
    let is : parts'.0 ≡ state = run_is_one (with_faults reboot others system) earlier over parts'.1 in (
      state,
      record { before = parts.1; after = parts.2 },
      record { before = over; after = subst (λ s. Run (with_faults reboot others system) end s other) is parts'.2 },
    )

-- The copies of the log that arrive after the end stay on the agenda until the end.
use Rattle.std.proofs.Common.{◌≡◌, ℕ, ◌<◌, ◌≤◌, Bool, true, false, ◌&&◌, ltb, eqb, List, [], ◌∷◌, ◌++◌, map, refl, sym, ap, ◌∙◌, inl, inr, arith, Option, Some, None}
use Rattle.std.specs.List.{filter, flat_map, AllByRecursion}
use Rattle.std.proofs.lemmas.Bool.{cases_Bool}
use Rattle.std.proofs.lemmas.Bool.Decides.{nat_tests}
use Rattle.std.proofs.lemmas.List.Elements.{filter-append}
use Rattle.std.proofs.lemmas.Grind.{flat_map-append}
use Rattle.radio_packet.specs.declared.copy.RadioCopy.{RadioCopy}
use Rattle.window_laws.specs.System.{System}
use Rattle.window_laws.specs.Agenda.{Item, Wake, Packet, moment_of, comes_at, is_left, packets, wake_items, up_to}
use Rattle.window_laws.proofs.Agenda.{packets_append, packets_map, packets_wakes}
use Rattle.net_agenda.specs.NetSystem.{system_of}
use Rattle.serial_run.specs.FaultRun.{net_with}
use Rattle.window_laws.specs.NetStep.{NetState, Run, Done, Turn, sends_of, turned_at, turn_at, boot}
use Rattle.serial_run.specs.Counted.{is_after, LateCopiesStay}

-- a turn adds a wake, and the copies of its packets
packets-added : (m : ℕ) (wake : Option ℕ) (cs : List RadioCopy) → packets (wake_items m wake ++ map Packet cs) ≡ cs
packets-added m (Some t) cs = packets_map cs
packets-added m None cs = packets_map cs

not_after : (end t m at to : ℕ) → t ≤ end → (eqb at t && eqb to m) ≡ true → ltb end at ≡ false
not_after end t m at to h e = grind (arith, nat_tests)

after : (end at : ℕ) → end < at → ltb end at ≡ true
after end at h = grind (arith, nat_tests)

-- a turn leaves the copies that pass a test, if none of the due copies passes it
still_there : (p : RadioCopy → Bool) (t m : ℕ) → ((c : RadioCopy) → comes_at t m (Packet c) ≡ true → p c ≡ false) → (items : List Item) → filter p (packets (filter (is_left t m) items)) ≡ filter p (packets items)
still_there p t m none [] = refl
still_there p t m none (Wake u k ∷ items) =
    let ih = still_there p t m none items in
    elim (cases_Bool (is_left t m (Wake u k))) [ inl e ↦ rw e ih | inr e ↦ rw e ih ]
still_there p t m none (Packet c ∷ items) =
    let ih = still_there p t m none items in
    elim (cases_Bool (comes_at t m (Packet c))) [
      | inl e ↦ (let f : p c ≡ false = none c e in rw (e, f) ih)
      | inr e ↦ rw e (elim (cases_Bool (p c)) [ inl f ↦ rw f (ap (λ l. c ∷ l) ih) | inr f ↦ rw f ih ])
    ]

all_late : (end : ℕ) (items : List Item) → AllByRecursion (λ item. end < moment_of item) items → packets items ≡ filter (is_after end) (packets items)
all_late end [] h = refl
all_late end (Wake u k ∷ items) h = all_late end items h.1
all_late end (Packet c ∷ items) h = let f : is_after end c ≡ true = after end c.at h.0 in rw f (ap (λ l. c ∷ l) (all_late end items h.1))

module _ {S L : Type 0} (system : System S L) where
  -- of the copies that pass a test, the agenda has the same as the log
  abbrev pub HasAll : (RadioCopy → Bool) → NetState S L → Type 0
  HasAll p net = filter p (packets net.agenda) ≡ filter p (flat_map system.copies net.log)

  -- the copies of a turn's packets
  abbrev pub more : (t m : ℕ) → NetState S L → List RadioCopy
  more t m net = flat_map system.copies (sends_of t m (turned_at system t m net))

  pub packets-turn : (t m : ℕ) (net : NetState S L) → packets (turn_at system t m net).agenda ≡ packets (filter (is_left t m) net.agenda) ++ more t m net
  packets-turn t m net =
      packets_append (filter (is_left t m) net.agenda) (wake_items m (turned_at system t m net).wake ++ map Packet (more t m net))
      ∙ ap (λ l. packets (filter (is_left t m) net.agenda) ++ l) (packets-added m (turned_at system t m net).wake (more t m net))

  pub log-turn : (t m : ℕ) (net : NetState S L) → flat_map system.copies (turn_at system t m net).log ≡ flat_map system.copies net.log ++ more t m net
  log-turn t m net = flat_map-append system.copies net.log (sends_of t m (turned_at system t m net))

  pub all_turn : (p : RadioCopy → Bool) (t m : ℕ) (net : NetState S L) → ((c : RadioCopy) → comes_at t m (Packet c) ≡ true → p c ≡ false) → HasAll p net → HasAll p (turn_at system t m net)
  all_turn p t m net none has =
      ap (filter p) (packets-turn t m net)
      ∙ (filter-append p (packets (filter (is_left t m) net.agenda)) (more t m net)
      ∙ (ap (λ l. l ++ filter p (more t m net)) (still_there p t m none net.agenda ∙ has)
      ∙ (sym (filter-append p (flat_map system.copies net.log) (more t m net)) ∙ ap (filter p) (sym (log-turn t m net)))))

  pub all_boot : (p : RadioCopy → Bool) → HasAll p (boot system)
  all_boot p = ap (filter p) (packets_wakes (up_to system.motes))

  late_run : (end : ℕ) {net last : NetState S L} → Run system end net last → HasAll (is_after end) net → packets last.agenda ≡ filter (is_after end) (flat_map system.copies last.log)
  late_run end {net} (Done h) has = all_late end net.agenda h ∙ has
  late_run end {net} (Turn t m least le run) has = late_run end run (all_turn (is_after end) t m net (λ c e. not_after end t m c.at c.to le e) has)

pub late_copies_stay : LateCopiesStay
unfolding system_of
late_copies_stay faults n r report = late_run (net_with faults n) n.end report.run (all_boot (net_with faults n) (is_after n.end))

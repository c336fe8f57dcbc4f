-- In a run each mote has at most one wake.
use Rattle.std.proofs.Common.{◌≡◌, ℕ, ◌≤◌, true, false, cond, ◌&&◌, ltb, eqb, List, ◌++◌, length, map, ap, ◌∙◌, inl, inr, arith, Option, Some, None}
use Rattle.std.specs.List.{filter, flat_map, AllByRecursion}
use Rattle.std.proofs.lemmas.Bool.{cases_eq, and_parts}
use Rattle.radio_packet.specs.declared.copy.RadioCopy.{RadioCopy}
use Rattle.window_laws.specs.Agenda.{Item, Wake, Packet, comes_at, is_left, is_wake_of, wake_items}
use Rattle.window_laws.specs.NetStep.{NetState, Run, Done, Turn, boot, turned_at, sends_of}
use Rattle.window_laws.specs.System.{System}
use Rattle.window_laws.proofs.Agenda.{first_wakes, wakes_other, wakes_own}
use Rattle.window_laws.proofs.Lists.{filter_stronger, every_weaker, no_more}
use Rattle.net_agenda.specs.Items.{is_wake_at, WakesDiffer}
use Rattle.serial_run.specs.Laws.{agendas, OneWake, AlwaysOneWake, WakesAlwaysDiffer}
use Rattle.serial_run.specs.FaultRun.{net_with}

at_most_one : (m : ℕ) (wake : Option ℕ) → length (wake_items m wake) ≤ 1
at_most_one m None = omega arith
at_most_one m (Some u) = omega arith

-- so no mote has two wakes at one moment
differ : (items : List Item) → OneWake items → WakesDiffer items
differ items one t m =
    let same = ap length (filter_stronger (is_wake_at t m) (is_wake_of m) of_mote items) in
    let less = no_more (is_wake_at t m) (filter (is_wake_of m) items) in
    let h = one m in
    omega arith
  where
    of_mote : (x : Item) → is_wake_at t m x ≡ true → is_wake_of m x ≡ true
    of_mote (Wake u k) e = (and_parts (eqb u t) (eqb k m) ((and_parts (eqb u t && eqb k m) true e).0)).1
    of_mote (Packet c) e = (and_parts (comes_at t m (Packet c)) false e).1

turned : (t m : ℕ) (wake : Option ℕ) (cs : List RadioCopy) (items : List Item) → OneWake items → OneWake (filter (is_left t m) items ++ (wake_items m wake ++ map Packet cs))
turned t m wake cs items one k =
    elim (cases_eq k m) [
      | inl e ↦ (let own = ap length (ap (λ j. filter (is_wake_of j) (filter (is_left t m) items ++ (wake_items m wake ++ map Packet cs))) e ∙ wakes_own t m wake cs items) in
          let less = at_most_one m wake in
          omega arith)
      | inr ne ↦ (let same = ap length (wakes_other t m wake cs items k ne) in let h = one k in omega arith)
    ]

module _ {S L : Type 0} (system : System S L) (end : ℕ) where
  all_one : {net last : NetState S L} (run : Run system end net last) → OneWake net.agenda → AllByRecursion OneWake (agendas run)
  all_one {net} (Done late) one = (one, tt)
  all_one {net} (Turn t m least le rest) one =
      (one, all_one rest (turned t m (turned_at system t m net).wake (flat_map system.copies (sends_of t m (turned_at system t m net))) net.agenda one))

  at_first : OneWake (boot system).agenda
  at_first k = let same = ap length (first_wakes system.motes k) in let h = at_most_one k (cond (ltb k system.motes) (Some 0) None) in omega arith

pub one_wake : AlwaysOneWake
one_wake faults n r report = all_one (net_with faults n) n.end report.run (at_first (net_with faults n) n.end)

pub wakes_differ : WakesAlwaysDiffer
wakes_differ faults n r report = every_weaker OneWake WakesDiffer differ (agendas report.run) (one_wake faults n r report)

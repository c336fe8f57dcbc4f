-- Reports with other faults.
use Rattle.std.proofs.Common.{◌≡◌, ℕ, ◌&&◌, Bool, true, false, List, [], ◌∷◌, map, Option, Some, None, refl, sym, ap, ap₂, ◌∙◌, length, if◌then◌else◌}
use Rattle.std.specs.List.{AllByRecursion, filter_map, list_any}
use Rattle.std.specs.Option.{option_and_then}
use Rattle.std.proofs.lemmas.Bool.{or_parts}
use Rattle.radio_packet.specs.declared.fate.Fate.{Fate}
use Rattle.radio_packet.specs.declared.sent.Sent.{Sent}
use Rattle.radio_medium.specs.Medium.{copies, copy_of, fates}
use Rattle.radio_faults.specs.declared.fault.Fault.{Fault}
use Rattle.radio_faults.specs.declared.fault.Fault.TheVariants.{Link, Silent, Off}
use Rattle.radio_faults.specs.LossTables.{IsOfLinks, radio_with}
use Rattle.radio_faults.specs.NetLaws.{AreOffTheSame, LeavesOn}
use Rattle.radio_faults.specs.Faults.{names, named_arrival, copies_with, fate_after, fates_with}
use Rattle.radio_faults.proofs.Broken.{loss_tables_agree as of_medium}
use Rattle.radio_faults.proofs.Copies.{fates_tell_copies}
use Rattle.window_laws.specs.Agenda.{packets, up_to}
use Rattle.window_laws.proofs.Lists.{every_weaker}
use Rattle.radio_faults.proofs.Order.{order_means_nothing as of_faults}
use Rattle.radio_faults.proofs.Runs.{TurnsAre, copies_decide, run_with_same, still_on, turns_with_same}
use Rattle.mote_net.specs.Net.{NetModel}
use Rattle.mote_net.specs.Report.{Packet, ReportModel}
use Rattle.net_agenda.specs.NetSystem.{system_of}
use Rattle.serial_run.specs.FaultRun.{net_with, node_reboot, packet_with, IsReportWith}
use Rattle.serial_run.specs.NetRun.{packet_with_fates}
use Rattle.serial_run.specs.FaultLaws.{is_of_motes, is_some, names_copy_of, names_copy_in, net_losing, UnsentIsNothing, OrderMeansNothing, LossTablesAgree, SomeAreUnsent}

same_map : {X Y : Type 0} (f g : X → Y) (xs : List X) → AllByRecursion (λ x. f x ≡ g x) xs → map f xs ≡ map g xs
same_map f g [] same = refl
same_map f g (x ∷ xs) same = ap₂ (λ y ys. y ∷ ys) same.0 (same_map f g xs same.1)

always : {X : Type 0} (P : X → Type 0) → ((x : X) → P x) → (xs : List X) → AllByRecursion P xs
always P h [] = tt
always P h (x ∷ xs) = (h x, always P h xs)

module _ (model : NetModel) where
  -- some faults and others make the same of the fates of this packet
  abbrev SameFates : (some others : List Fault) → Sent → Type 0
  SameFates some others sent = fates_with some sent (fates model.radio sent) ≡ fates_with others sent (fates model.radio sent)

  same_copies : (some others : List Fault) (sent : Sent) → SameFates some others sent → copies_with some (copies model.radio sent) ≡ copies_with others (copies model.radio sent)
  unfolding copies
  same_copies some others sent same =
      sym (fates_tell_copies some sent (fates model.radio sent)) ∙ (ap (filter_map (copy_of sent)) same ∙ fates_tell_copies others sent (fates model.radio sent))

  same_report : (some others : List Fault) → AreOffTheSame some others model.end → (r : ReportModel) (report : IsReportWith some model r) → AllByRecursion (SameFates some others) report.last.log → IsReportWith others model r
  unfolding system_of
  same_report some others off r report same = record {
    last = report.last;
    run = copies_decide node_reboot (system_of model) some others model.end report.last report.run off (every_weaker _ _ (same_copies some others) report.last.log same);
    matches = report.matches
        ∙ ap (λ (log : List Packet). let x : ReportModel = record { traces = map report.last.traces (up_to (length model.motes)); log = log; left = length (packets report.last.agenda) } in x)
        (same_map _ _ report.last.log (every_weaker _ _ (λ sent same. ap (λ (fs : List Fate). let x : Packet = record { sent = sent; fates = fs } in x) same) report.last.log same));
  }

pub order_means_nothing : OrderMeansNothing
order_means_nothing some others model r permuted report =
    same_report model some others (of_faults.of_motes some others permuted model.end) r report (always _ (λ sent. of_faults.of_fates some others permuted sent (fates model.radio sent)) report.last.log)

-- a fault that names no copy of a packet but those that are lost changes none of its fates
untouched : (fault : Fault) (sent : Sent) (fs : List Fate) → list_any (λ (fate : Fate). names fault sent.sender sent.number fate.to && is_some fate.at) fs ≡ false → fs ≡ map (fate_after fault sent) fs
untouched fault sent [] none = refl
untouched fault sent (fate ∷ fs) none =
    let parts = or_parts (names fault sent.sender sent.number fate.to && is_some fate.at) _ none in
    ap₂ (λ (at : Option ℕ) rest. record fate { at = at } ∷ rest) (one (names fault sent.sender sent.number fate.to) fate.at parts.0) (untouched fault sent fs parts.1)
  where
    one : (named : Bool) (at : Option ℕ) → (named && is_some at) ≡ false → at ≡ option_and_then (λ (at : ℕ). if named then named_arrival fault at else Some at) at
    one named None e = refl
    one true (Some at) e = absurd (cc)
    one false (Some at) e = refl

all_untouched : (faults : List Fault) (fault : Fault) (model : NetModel) (log : List Sent) → list_any (names_copy_of fault) (map (packet_with faults model.radio) log) ≡ false → AllByRecursion (SameFates model faults (fault ∷ faults)) log
all_untouched faults fault model [] none = tt
all_untouched faults fault model (sent ∷ log) none =
    let parts = or_parts (names_copy_of fault (packet_with faults model.radio sent)) _ none in
    (untouched fault sent (fates_with faults sent (fates model.radio sent)) parts.0, all_untouched faults fault model log parts.1)

-- a fault of copies leaves all motes on
leaves_on : (fault : Fault) (end : ℕ) → is_of_motes fault ≡ false → LeavesOn fault end
leaves_on (Off k from until) end e = absurd (cc)
leaves_on x end e = record { on = λ mote moment le. refl; no_boot = λ mote. refl }

pub unsent_is_nothing : UnsentIsNothing
unsent_is_nothing faults fault model r report none =
    let parts = or_parts (is_of_motes fault) (names_copy_in fault r) none in
    same_report model faults (fault ∷ faults) (still_on fault faults model.end (leaves_on fault model.end parts.0)) r report
    (all_untouched faults fault model report.last.log (ap (names_copy_in fault) (sym report.matches) ∙ parts.1))

module _ (faults : List Fault) (model : NetModel) where
  -- the fates of a packet are those with the losses
  abbrev AreAsLost : Sent → Type 0
  AreAsLost sent = fates_with faults sent (fates model.radio sent) ≡ fates (radio_with faults model.radio) sent

  as_lost : (sent : Sent) → AreAsLost sent → copies_with faults (copies model.radio sent) ≡ copies (radio_with faults model.radio) sent
  unfolding copies
  as_lost sent same = sym (fates_tell_copies faults sent (fates model.radio sent)) ∙ ap (filter_map (copy_of sent)) same

  same_packet : (sent : Sent) → AreAsLost sent → packet_with faults model.radio sent ≡ packet_with_fates (radio_with faults model.radio) sent
  same_packet sent same = ap (λ (fs : List Fate). let x : Packet = record { sent = sent; fates = fs } in x) same

-- a fault of links isn't one of motes
of_links : (fault : Fault) → IsOfLinks fault → is_of_motes fault ≡ false
of_links (Link from to) is = refl
of_links (Silent k) is = refl
of_links x is = absurd is

-- with faults of links motes are off as without faults
none_off : (faults : List Fault) → AllByRecursion IsOfLinks faults → (end : ℕ) → AreOffTheSame [] faults end
none_off [] are end = record { off = λ mote moment le. refl; boot = λ mote moment le. refl; wakes = λ mote moment le. refl }
none_off (fault ∷ faults) are end =
    let rest = none_off faults are.1 end in
    let more = still_on fault faults end (leaves_on fault end (of_links fault are.0)) in record {
      off = λ mote moment le. rest.off mote moment le ∙ more.off mote moment le;
      boot = λ mote moment le. rest.boot mote moment le ∙ more.boot mote moment le;
      wakes = λ mote moment le. rest.wakes mote moment le ∙ more.wakes mote moment le;
    }

same_turns : (faults : List Fault) → AllByRecursion IsOfLinks faults → (model : NetModel) → TurnsAre (system_of model) model.end (net_with faults model)
same_turns faults are model = turns_with_same node_reboot (system_of model) [] faults model.end (none_off faults are model.end)

pub loss_tables_agree : LossTablesAgree
unfolding system_of
loss_tables_agree = record {
  there = λ faults model r are report.
      let same = always (AreAsLost faults model) (λ sent. of_medium model.radio faults are sent) report.last.log in record {
        last = report.last;
        run = run_with_same (net_with faults model) model.end (system_of (net_losing faults model)) (λ mote state moment given le. sym (same_turns faults are model mote state moment given le)) report.run
            (every_weaker _ _ (as_lost faults model) report.last.log same);
        matches = report.matches
            ∙ ap (λ (log : List Packet). let x : ReportModel = record { traces = map report.last.traces (up_to (length model.motes)); log = log; left = length (packets report.last.agenda) } in x)
            (same_map _ _ report.last.log (every_weaker _ _ (same_packet faults model) report.last.log same));
      };
  back = λ faults model r are report.
      let same = always (AreAsLost faults model) (λ sent. of_medium model.radio faults are sent) report.last.log in record {
        last = report.last;
        run = run_with_same (system_of (net_losing faults model)) model.end (net_with faults model) (λ mote state moment given le. same_turns faults are model mote state moment given le) report.run
            (every_weaker _ _ (λ sent same. sym (as_lost faults model sent same)) report.last.log same);
        matches = report.matches
            ∙ ap (λ (log : List Packet). let x : ReportModel = record { traces = map report.last.traces (up_to (length model.motes)); log = log; left = length (packets report.last.agenda) } in x)
            (same_map _ _ report.last.log (every_weaker _ _ (λ sent same. sym (same_packet faults model sent same)) report.last.log same));
      };
}

pub some_are_unsent : SomeAreUnsent
some_are_unsent = record {
  lost = refl;
  back = refl;
  silent_receiver = refl;
  lost_anyway = refl;
  next_packet = refl;
  link = refl;
  silent_sender = refl;
  lost_copy = refl;
  late_copy = refl;
  lost_packet = refl;
}

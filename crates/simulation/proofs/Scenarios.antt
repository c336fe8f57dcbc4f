-- The net of each scenario's text has a report.
use Rattle.std.proofs.Common.{◌≡◌, codes, [], length, None, sym, ap, ◌∙◌}
use Rattle.std.proofs.lemmas.List.{length-map}
use Rattle.radio_medium.specs.Medium.{medium_fault}
use Rattle.net_scenario.specs.Document.{tables_at}
use Rattle.mote_net.specs.Net.{NetModel}
use Rattle.serial_run.specs.Laws.{ReportIsThere}
use Rattle.simulation.specs.Laws.{ScenarioHasReport}

pub scenario_has_report : ReportIsThere → ScenarioHasReport
scenario_has_report there text n tells =
    let top = tells.0.top in
    let is = tells.1 in
    let fault : medium_fault n.radio ≡ None = ap (λ (x : NetModel). medium_fault x.radio) is.matches ∙ is.medium in
    let motes = tables_at (codes "mote") top in
    let places : length n.radio.places ≡ length n.motes =
    ap (λ (x : NetModel). length x.radio.places) is.matches
    ∙ (length-map motes _ ∙ (sym (length-map motes _) ∙ sym (ap (λ (x : NetModel). length x.motes) is.matches))) in
    there [] n fault places

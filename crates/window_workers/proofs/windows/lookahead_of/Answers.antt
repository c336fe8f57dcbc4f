use Rattle.std.proofs.Common.{◌∙◌, length, ap, sym}
use Rattle.mote_net.specs.Meaning.{net_of}
use Rattle.net_agenda.proofs.Systems.{system_is}
use Rattle.net_agenda.specs.NetSystem.{system_of}
use Rattle.radio_medium.specs.Medium.{Radio, lookahead, medium_fault}
use Rattle.window_workers.proofs.windows.lookahead_of.Goals as goal

pub returns-clause-value : goal.returns-clause-value
unfolding system_of
returns-clause-value c =
    let n = net_of c.args.net.now in
    c.lookahead.ensures.value ∙ (ap (λ (r : Radio). lookahead r c.end.result) c.medium.ensures.value ∙ ap (lookahead n.radio) c.end.ensures.value)

pub returns-clause-sound : goal.returns-clause-sound
returns-clause-sound c =
    (ap medium_fault (sym c.medium.ensures.value) ∙ c.lookahead.ensures.no_fault, ap (λ (r : Radio). length r.places) (sym c.medium.ensures.value) ∙ c.medium.ensures.placed)

pub returns-clause-forward : goal.returns-clause-forward
returns-clause-forward c = let sound = returns-clause-sound c in system_is (net_of c.args.net.now) sound.0 sound.1

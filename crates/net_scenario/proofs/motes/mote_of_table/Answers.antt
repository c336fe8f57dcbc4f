use Rattle.std.proofs.Common.{sym, ◌∙◌}
use Rattle.toml.specs.View.{table_view}
use Rattle.net_scenario.proofs.NetMotes.{is_mote, mote_is, place_within, read_is_found}
use Rattle.net_scenario.proofs.motes.mote_of_table.Goals as goal

pub unwrap-requires : goal.unwrap-requires
unwrap-requires c = rw c.index_of.ensures.position (read_is_found _ (table_view c.args.table.now) _ c.requires.read
    c.text_at-name.ensures.value)

pub returns-clause-value : goal.returns-clause-value
returns-clause-value c = mote_is _ _ (table_view c.args.table.now) _ _ _ c.text_at-name.ensures.value
    (sym c.index_of.ensures.position ∙ c.unwrap.ensures) c.queue_of.ensures.value

pub returns-clause-fits : goal.returns-clause-fits
returns-clause-fits c = is_mote _ _ _ (place_within _ _ _ (sym c.index_of.ensures.position ∙ c.unwrap.ensures))
    c.queue_of.ensures.shortest c.queue_of.ensures.longest

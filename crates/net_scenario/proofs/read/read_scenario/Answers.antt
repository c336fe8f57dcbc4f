use Rattle.std.proofs.Common.{rules}
use Rattle.toml.specs.View.{table_view}
use Rattle.net_scenario.proofs.Reading.{answered, document_is}
use Rattle.net_scenario.proofs.read.read_scenario.Goals as goal

pub returns : goal.returns
returns c = record {
  answers =
      answered _ (table_view c.in_ok-top.top) _ (document_is _ _ (search rules) c.in_ok-top.ensures.parses
      (search rules)) c.net_from.ensures.makes_net;
}

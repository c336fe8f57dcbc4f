use Rattle.std.proofs.Common.{◌≡◌, get_or, rules}
use Rattle.mote_net.proofs.NetMotes.{program_of_mote}
use Rattle.mote_net.proofs.net.Net.program_name.Goals as goal

pub returns : goal.returns
returns c = record {
  name =
      let mote : c.index.result.now ≡ get_or c.args.self.now.motes.items c.args.mote c.index.result.now = search rules in
      rw (program_of_mote _ _ _ _ _ c.args.self.now.fit c.requires.mote_exists mote c.index-2.ensures) search rules;
}

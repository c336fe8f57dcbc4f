use Rattle.program_tree.specs.Program.{code_of}
use Rattle.protothread.specs.Places.{part_body}
use Rattle.protothread.specs.Remainder.{whole_of}
use Rattle.protothread.proofs.Begin.{is_empty_so}
use Rattle.protothread.proofs.CallLaws.{listed-part}
use Rattle.protothread.proofs.part.Part.is_empty.Goals as goal

pub returns : goal.returns
returns c = record {
  decides =
      let code = code_of c.args.text.now in
      is_empty_so (part_body code c.args.self) c.code.result.now (whole_of code c.args.self) c.is_empty.result c.code.ensures.is_flat (listed-part code c.args.self) c.is_empty.ensures;
}

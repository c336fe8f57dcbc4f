use Rattle.program_tree.specs.Program.{code_of}
use Rattle.protothread.proofs.CallLaws.{is_found_in_part, is_found_in_last}
use Rattle.protothread.proofs.thread.Thread.innermost.Goals as goal

pub returns-in-None : goal.returns-in-None
returns-in-None c = record { is_found_in = is_found_in_part (code_of c.args.text.now) c.args.self.now c.code.result.now c.in-None.ensures.is_last c.code.ensures.is_flat }

pub returns-in-Some : goal.returns-in-Some
returns-in-Some c = record {
  is_found_in =
      is_found_in_last (code_of c.args.text.now) c.args.self.now c.thread_code.result.now c.in-Some.ensures.is_last.0 c.in-Some.call c.in-Some.ensures.is_last.1 c.thread_code.ensures.flat c.thread_code.ensures.earlier;
}

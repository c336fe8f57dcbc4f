use Rattle.std.proofs.Common.{◌≡◌, ◌∙◌, ◌≤◌, ap, map, arith}
use Rattle.program_reader.specs.Codes.{all_timers}
use Rattle.program_tree.specs.Program.{code_of}
use Rattle.program_reader.proofs.CodesLaws.{first_empty, second_empty}
use Rattle.program_reader.proofs.ProgramLaws.{head_read, head_goes, no_own_names, is_tree, is_made}
use Rattle.program_reader.proofs.ListLaws.{handed_on}
use Rattle.program_reader.proofs.reader.Reader.parts.Goals as goal

pub last_codes-requires : goal.last_codes-requires
last_codes-requires c = record {
  has_no_own_names =
      let none = no_own_names _ _ _ _ _ _ (head_read _ _ _ _ _ _ _ c.requires.fresh c.in_ok-head.ensures.ok) in
      record {
        variables = none.0;
        etimers = first_empty _ _ none.1;
        ctimers = second_empty _ _ none.1;
        threads = none.2;
      };
}

pub returns-in_err-codes-clause-err : goal.returns-in_err-codes-clause-err
returns-in_err-codes-clause-err c = λ f e.
    head_goes _ _ _ _ _ _ (head_read _ _ _ _ _ _ _ c.requires.fresh c.in_ok-head.ensures.ok)
    ∙ c.in_err-codes.ensures.err f (handed_on c.from_residual-in_err-codes.ensures.1 e)

pub returns-clause-made : goal.returns-clause-made
returns-clause-made c =
    let s = c.last_codes.new.self.scope in
    let timed : c.in_ok-timers.timers.items ≡ all_timers (map code_of c.in_ok-codes.codes.items) =
    c.in_ok-timers.ensures.timers ∙ ap (λ xs. all_timers (map code_of xs)) c.deref.ensures.value in
    let low : s.first_timer ≤ 64 = omega (arith, s.few_timers) in
    is_made _ _ _ _ _ _ _ _ (head_read _ _ _ _ _ _ _ c.requires.fresh c.in_ok-head.ensures.ok)
    c.in_ok-codes.ensures.ok _ timed c.requires.lexed s.few_events s.few_semaphores s.few_processes low

pub returns-clause-tree : goal.returns-clause-tree
returns-clause-tree c =
    let timed : c.in_ok-timers.timers.items ≡ all_timers (map code_of c.in_ok-codes.codes.items) =
    c.in_ok-timers.ensures.timers ∙ ap (λ xs. all_timers (map code_of xs)) c.deref.ensures.value in
    is_tree _ _ _ _ _ _ _ _ (head_read _ _ _ _ _ _ _ c.requires.fresh c.in_ok-head.ensures.ok)
    c.in_ok-codes.ensures.ok _ timed

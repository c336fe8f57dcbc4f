use Rattle.std.proofs.Common.{◌∙◌, refl}
use Rattle.program_reader.specs.Steps.{read_scope}
use Rattle.program_reader.proofs.MadeLaws.{few_none, few_timers_left, scope_left}
use Rattle.program_reader.proofs.scope.Scope.leave.Goals as goal

pub invariant_of-self : goal.invariant_of-self
invariant_of-self c =
    let s = c.args.self.now in
    record {
      few_events = s.few_events;
      few_semaphores = s.few_semaphores;
      few_processes = s.few_processes;
      few_variables = few_none _ _ (c.replace-variables.ensures.after ∙ c.new.ensures.empty);
      few_timers = few_timers_left s.first_timer _ _ s.etimers s.ctimers _ _ _ _ s.few_timers
          c.replace-etimers.ensures.value c.replace-ctimers.ensures.value c.len.ensures.length c.len-2.ensures.length
          (c.replace-etimers.ensures.after ∙ c.new-2.ensures.empty) (c.replace-ctimers.ensures.after ∙ c.new-3.ensures.empty);
      few_threads = few_none _ _ (c.replace-threads.ensures.after ∙ c.new-4.ensures.empty);
      few_statements = s.few_statements;
    }

pub returns-clause-left : goal.returns-clause-left
returns-clause-left c =
    let s = c.args.self.now in
    scope_left (read_scope s) _ _ _ _ s.etimers s.ctimers _ _ _ _ refl c.replace-etimers.ensures.value
    c.replace-ctimers.ensures.value c.len.ensures.length c.len-2.ensures.length (c.replace-variables.ensures.after ∙ c.new.ensures.empty)
    (c.replace-etimers.ensures.after ∙ c.new-2.ensures.empty) (c.replace-ctimers.ensures.after ∙ c.new-3.ensures.empty)
    (c.replace-threads.ensures.after ∙ c.new-4.ensures.empty)

use Rattle.std.proofs.Common.{◌∙◌, sym, ap, map}
use Rattle.std.proofs.lemmas.List.{length-map}
use Rattle.program_reader.specs.Machine.{codes_form}
use Rattle.program_reader.specs.Steps.{read_scope}
use Rattle.program_tree.specs.FlatBlock.{tree_in}
use Rattle.program_reader.proofs.MadeLaws.{same_made, code_read, paired, blocks_paired}
use Rattle.program_reader.proofs.ListLaws.{handed_on}
use Rattle.program_reader.proofs.reader.Reader.code.Goals as goal

pub returns-in_err-content-clause-err : goal.returns-in_err-content-clause-err
returns-in_err-content-clause-err c = λ f e xs more.
    (c.in_ok-opening_of.ensures.ok (read_scope c.args.self.now.scope)).goes_on xs more ∙ c.in_err-content.ensures.err f
    (handed_on c.from_residual-in_err-content.ensures.1 e)
    (codes_form xs more)

pub returns-in_err-last_brace-clause-err : goal.returns-in_err-last_brace-clause-err
returns-in_err-last_brace-clause-err c = λ f e xs more.
    (c.in_ok-opening_of.ensures.ok (read_scope c.args.self.now.scope)).goes_on xs more
    ∙ c.in_ok-content.ensures.ok.goes_on (codes_form xs more)
    ∙ c.in_err-last_brace.ensures.err f (handed_on c.from_residual-in_err-last_brace.ensures.1 e)
    (read_scope c.content.new.self.scope) (codes_form xs more)

pub invariant_of-result : goal.invariant_of-result
invariant_of-result c =
    let r = c.in_ok-content.ensures.ok in
    let own = c.leave-own.ensures in
    record {
      few_variables = c.leave-own.result.few_variables;
      paired = paired c.leave-own.result.variables c.in_ok-content.content.starts.items r.variables
          (own.variables ∙ ap (λ z. z.variables) r.names) r.started;
      few_timers = c.leave-own.result.few_timers;
      each_callback =
          sym (length-map c.in_ok-content.content.callbacks.items tree_in)
          ∙ blocks_paired c.leave-own.result.ctimers (map tree_in c.in_ok-content.content.callbacks.items) r.ctimers
          (own.ctimers ∙ r.last_timers) r.called;
      few_threads = c.leave-own.result.few_threads;
      each_thread =
          sym (length-map c.in_ok-content.content.thread_blocks.items tree_in)
          ∙ blocks_paired c.leave-own.result.threads (map tree_in c.in_ok-content.content.thread_blocks.items)
          r.threads (own.threads ∙ ap (λ z. z.threads) r.names) r.threaded;
      body_within = c.in_ok-content.ensures.body;
      callbacks_within = c.in_ok-content.ensures.callbacks;
      threads_within = c.in_ok-content.ensures.threads;
      on_poll_within = c.in_ok-content.ensures.on_poll;
      on_exit_within = c.in_ok-content.ensures.on_exit;
      spawns_earlier = c.in_ok-content.ensures.earlier;
    }

pub returns-clause-ok : goal.returns-clause-ok
returns-clause-ok c =
    let own = c.leave-own.ensures in
    code_read _ c.args.process _ c.content.new.self.scope.etimers c.content.new.self.scope.ctimers _ _ _ _ _ _
    (read_scope c.args.self.now.scope) (read_scope c.content.new.self.scope) (read_scope c.leave-own.new.self) _ _ _ _
    (c.in_ok-opening_of.ensures.ok (read_scope c.args.self.now.scope)) c.in_ok-content.ensures.ok
    c.in_ok-last_brace.ensures.spelled (λ f. c.in_ok-last_brace.ensures.ok (read_scope c.content.new.self.scope) f)
    own.left
    (same_made own.variables own.first_timer own.etimers own.ctimers own.threads)

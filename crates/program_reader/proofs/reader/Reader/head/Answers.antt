use Rattle.std.proofs.Common.{◌∙◌, ap, sym, subst}
use Rattle.program_reader.specs.Head.{ReadsAutostart, ReadsReceiver}
use Rattle.program_reader.specs.Steps.{read_scope}
use Rattle.program_reader.proofs.ListLaws.{handed_on}
use Rattle.program_reader.proofs.reader.Reader.head.Goals as goal

pub returns-in_err-events-clause-err : goal.returns-in_err-events-clause-err
returns-in_err-events-clause-err c = λ f e more.
    c.in_err-events.ensures.err f (handed_on c.from_residual.ensures.1 e) more

pub returns-in_err-counts-clause-err : goal.returns-in_err-counts-clause-err
returns-in_err-counts-clause-err c = λ f e more.
    c.in_ok-events.ensures.ok.1.goes_on more ∙ c.in_err-counts.ensures.err f
    (handed_on c.from_residual-in_err-counts.ensures.1 e) more

pub returns-in_err-processes-clause-err : goal.returns-in_err-processes-clause-err
returns-in_err-processes-clause-err c = λ f e more.
    c.in_ok-events.ensures.ok.1.goes_on more ∙ c.in_ok-counts.ensures.ok.2.goes_on more
    ∙ c.in_err-processes.ensures.err f (handed_on c.from_residual-in_err-processes.ensures.1 e) more

pub returns-in_err-autostart-clause-err : goal.returns-in_err-autostart-clause-err
returns-in_err-autostart-clause-err c = λ f e more.
    c.in_ok-events.ensures.ok.1.goes_on more ∙ c.in_ok-counts.ensures.ok.2.goes_on more
    ∙ c.in_ok-processes.ensures.ok.goes_on more ∙ c.in_err-autostart.ensures.err f
    (handed_on c.from_residual-in_err-autostart.ensures.1 e)
    c.in_ok-processes.ensures.ok.first c.in_ok-processes.ensures.ok.others more

pub returns-in_err-receiver-clause-err : goal.returns-in_err-receiver-clause-err
returns-in_err-receiver-clause-err c = λ f e more.
    c.in_ok-events.ensures.ok.1.goes_on more ∙ c.in_ok-counts.ensures.ok.2.goes_on more
    ∙ c.in_ok-processes.ensures.ok.goes_on more ∙ c.in_ok-autostart.ensures.ok.goes_on
    c.in_ok-processes.ensures.ok.first c.in_ok-processes.ensures.ok.others more ∙ c.in_err-receiver.ensures.err f
    (handed_on c.from_residual-in_err-receiver.ensures.1 e)
    c.in_ok-processes.ensures.ok.first c.in_ok-processes.ensures.ok.others more

pub returns-clause-ok : goal.returns-clause-ok
returns-clause-ok c =
    let same = ap read_scope (sym c.in_ok-receiver.ensures.same) in
    record {
      s1 = read_scope c.events.new.self.scope;
      s2 = read_scope c.semaphores.new.self.scope;
      s3 = read_scope c.processes.new.self.scope;
      m1 = c.events.new.self.cursor;
      m2 = c.semaphores.new.self.cursor;
      m3 = c.processes.new.self.cursor;
      m4 = c.autostart.new.self.cursor;
      events = c.in_ok-events.ensures.ok;
      semaphores = c.in_ok-counts.ensures.ok;
      processes = c.in_ok-processes.ensures.ok;
      starting = subst (λ z. ReadsAutostart (read_scope c.processes.new.self.scope) z c.in_ok-autostart.autostart.items
          c.processes.new.self.cursor c.autostart.new.self.cursor) same c.in_ok-autostart.ensures.ok;
      receiving = subst (λ z. ReadsReceiver z c.in_ok-receiver.receiver c.autostart.new.self.cursor
          c.receiver.new.self.cursor) same c.in_ok-receiver.ensures.ok;
    }

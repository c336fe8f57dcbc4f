use Rattle.std.proofs.Common.{refl, length, ◌≤◌, ◌+◌, rules}
use Rattle.std.proofs.lemmas.Result.{on_ok_weaker}
use Rattle.program_reader.specs.Steps.{read_scope}
use Rattle.program_reader.proofs.HeadLaws.{event_added, semaphore_added, process_added, variable_added, etimer_added}
use Rattle.program_reader.proofs.HeadLaws.{ctimer_added, thread_added, room, few_more, few_etimers, few_ctimers}
use Rattle.program_reader.specs.declared.declarations.Kind.TheVariants as kind
use Rattle.program_reader.proofs.scope.Scope.declare.Goals as goal

pub returns-in-Event-clause-ok : goal.returns-in-Event-clause-ok
returns-in-Event-clause-ok c = on_ok_weaker c.add.result
    (λ e. event_added (read_scope c.args.self.now) c.args.kind c.args.name.now _ c.in-Event.is e) c.add.ensures.ok

pub returns-in-Semaphore-clause-ok : goal.returns-in-Semaphore-clause-ok
returns-in-Semaphore-clause-ok c = on_ok_weaker c.add-in-Semaphore.result
    (λ e. semaphore_added (read_scope c.args.self.now) c.args.kind c.args.name.now _ c.in-Semaphore.is e)
    c.add-in-Semaphore.ensures.ok

pub returns-in-Process-clause-ok : goal.returns-in-Process-clause-ok
returns-in-Process-clause-ok c = on_ok_weaker c.add-in-Process.result
    (λ e. process_added (read_scope c.args.self.now) c.args.kind c.args.name.now _ c.in-Process.is e)
    c.add-in-Process.ensures.ok

pub returns-in-Variable-clause-ok : goal.returns-in-Variable-clause-ok
returns-in-Variable-clause-ok c = on_ok_weaker c.add-in-Variable.result
    (λ e. variable_added (read_scope c.args.self.now) c.args.kind c.args.name.now _ c.in-Variable.is e)
    c.add-in-Variable.ensures.ok

pub returns-in-Thread-clause-ok : goal.returns-in-Thread-clause-ok
returns-in-Thread-clause-ok c = on_ok_weaker c.add-in-Thread.result
    (λ e. thread_added (read_scope c.args.self.now) c.args.kind c.args.name.now _ c.in-Thread.is e)
    c.add-in-Thread.ensures.ok

pub returns-in-Etimer-clause-ok : goal.returns-in-Etimer-clause-ok
returns-in-Etimer-clause-ok c =
    on_ok_weaker c.add-in-Etimer.result (λ e. etimer_added (read_scope c.args.self.now) c.args.kind c.args.name.now
    c.args.self.now.etimers c.args.self.now.ctimers _ c.in-Etimer.is refl (c.requires.etimer c.in-Etimer.is) e)
    c.add-in-Etimer.ensures.ok

pub returns-in-Ctimer-clause-ok : goal.returns-in-Ctimer-clause-ok
returns-in-Ctimer-clause-ok c =
    on_ok_weaker c.add-in-Ctimer.result (λ e. ctimer_added (read_scope c.args.self.now) c.args.kind c.args.name.now
    c.args.self.now.etimers c.args.self.now.ctimers _ c.in-Ctimer.is refl e) c.add-in-Ctimer.ensures.ok

pub invariant_of-self : goal.invariant_of-self
invariant_of-self c =
    let s = c.args.self.now in
    let a = c.add in
    let few : length a.new.self ≤ 117 = few_more a.result 117 c.args.name.now s.events _
    (room (read_scope s).names c.args.kind kind.Event c.in-Event.is c.requires.room) a.ensures.ok a.ensures.err in
    search rules

pub invariant_of-self-in-Semaphore : goal.invariant_of-self-in-Semaphore
invariant_of-self-in-Semaphore c =
    let s = c.args.self.now in
    let a = c.add-in-Semaphore in
    let few : length a.new.self ≤ 64 = few_more a.result 64 c.args.name.now s.semaphores _
    (room (read_scope s).names c.args.kind kind.Semaphore c.in-Semaphore.is c.requires.room) a.ensures.ok a.ensures.err in
    search rules

pub invariant_of-self-in-Process : goal.invariant_of-self-in-Process
invariant_of-self-in-Process c =
    let s = c.args.self.now in
    let a = c.add-in-Process in
    let few : length a.new.self ≤ 64 = few_more a.result 64 c.args.name.now s.processes _
    (room (read_scope s).names c.args.kind kind.Process c.in-Process.is c.requires.room) a.ensures.ok a.ensures.err in
    search rules

pub invariant_of-self-in-Variable : goal.invariant_of-self-in-Variable
invariant_of-self-in-Variable c =
    let s = c.args.self.now in
    let a = c.add-in-Variable in
    let few : length a.new.self ≤ 64 = few_more a.result 64 c.args.name.now s.variables _
    (room (read_scope s).names c.args.kind kind.Variable c.in-Variable.is c.requires.room) a.ensures.ok a.ensures.err in
    search rules

pub invariant_of-self-in-Thread : goal.invariant_of-self-in-Thread
invariant_of-self-in-Thread c =
    let s = c.args.self.now in
    let a = c.add-in-Thread in
    let few : length a.new.self ≤ 7 = few_more a.result 7 c.args.name.now s.threads _
    (room (read_scope s).names c.args.kind kind.Thread c.in-Thread.is c.requires.room) a.ensures.ok a.ensures.err in
    search rules

pub invariant_of-self-in-Etimer : goal.invariant_of-self-in-Etimer
invariant_of-self-in-Etimer c =
    let s = c.args.self.now in
    let a = c.add-in-Etimer in
    let few : s.first_timer + length a.new.self + length s.ctimers ≤ 64 =
    few_etimers a.result s.first_timer c.args.name.now s.etimers _ s.ctimers
    (room (read_scope s).names c.args.kind kind.Etimer c.in-Etimer.is c.requires.room) a.ensures.ok a.ensures.err in
    search rules

pub invariant_of-self-in-Ctimer : goal.invariant_of-self-in-Ctimer
invariant_of-self-in-Ctimer c =
    let s = c.args.self.now in
    let a = c.add-in-Ctimer in
    let few : s.first_timer + length s.etimers + length a.new.self ≤ 64 =
    few_ctimers a.result s.first_timer c.args.name.now s.etimers s.ctimers _
    (room (read_scope s).names c.args.kind kind.Ctimer c.in-Ctimer.is c.requires.room) a.ensures.ok a.ensures.err in
    search rules

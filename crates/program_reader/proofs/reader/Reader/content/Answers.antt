use Rattle.std.proofs.Common.{◌≡◌, ◌∙◌, ◌++◌, [], sym, ap}
use Rattle.std.proofs.lemmas.List.{append-nil}
use Rattle.program_reader.proofs.ContentLaws.{content_read, threads_bare}
use Rattle.program_reader.proofs.reader.Reader.content.Goals as goal

pub threads-requires : goal.threads-requires
threads-requires c = record {
  none_yet =
      let no_timers : c.args.self.now.scope.etimers ++ c.args.self.now.scope.ctimers ≡ [] =
      ap (λ z. z ++ c.args.self.now.scope.ctimers) c.requires.has_no_own_names.etimers ∙ c.requires.has_no_own_names.ctimers in
      threads_bare _ _ _ _ _ _ _ _ _ _ c.requires.has_no_own_names.variables no_timers c.requires.has_no_own_names.threads c.in_ok-starts.ensures.ok
      c.in_ok-etimers.ensures.ok c.in_ok-callbacks.ensures.ok;
}

pub returns-clause-ok : goal.returns-clause-ok
returns-clause-ok c =
    let no_timers : c.args.self.now.scope.etimers ++ c.args.self.now.scope.ctimers ≡ [] =
    ap (λ z. z ++ c.args.self.now.scope.ctimers) c.requires.has_no_own_names.etimers ∙ c.requires.has_no_own_names.ctimers in
    let two : c.etimers.new.self.scope.etimers ++ c.etimers.new.self.scope.ctimers ≡ c.etimers.new.self.scope.etimers =
    ap (λ z. c.etimers.new.self.scope.etimers ++ z) c.in_ok-etimers.ensures.ctimers
    ∙ append-nil c.etimers.new.self.scope.etimers in
    let etimers : c.body.new.self.scope.etimers ≡ c.ctimers.new.self.scope.etimers =
    ap (λ z. z.etimers) c.in_ok-body.ensures.fixed ∙ ap (λ z. z.etimers) c.in_ok-on_exit.ensures.fixed
    ∙ ap (λ z. z.etimers) c.in_ok-on_poll.ensures.fixed ∙ c.in_ok-thread_blocks.ensures.timers.etimers in
    let ctimers : c.body.new.self.scope.ctimers ≡ c.ctimers.new.self.scope.ctimers =
    ap (λ z. z.ctimers) c.in_ok-body.ensures.fixed ∙ ap (λ z. z.ctimers) c.in_ok-on_exit.ensures.fixed
    ∙ ap (λ z. z.ctimers) c.in_ok-on_poll.ensures.fixed ∙ c.in_ok-thread_blocks.ensures.timers.ctimers in
    let three : c.ctimers.new.self.scope.etimers ++ c.ctimers.new.self.scope.ctimers ≡ c.body.new.self.scope.etimers
    ++ c.body.new.self.scope.ctimers =
    ap (λ z. z ++ c.ctimers.new.self.scope.ctimers) (sym etimers) ∙ ap (λ z. c.body.new.self.scope.etimers ++ z)
    (sym ctimers) in
    content_read _ _ _ _ _ _ _ _ c.etimers.new.self.scope.etimers _ _ _ _ _ _ _ _ _ _ _ _ _ _ _ _ c.requires.has_no_own_names.variables
    no_timers c.requires.has_no_own_names.threads c.in_ok-starts.ensures.ok c.in_ok-etimers.ensures.ok c.in_ok-callbacks.ensures.ok
    c.in_ok-thread_blocks.ensures.ok c.in_ok-on_poll.ensures.ok c.in_ok-on_exit.ensures.ok c.in_ok-body.ensures.ok two
    (etimers ∙ c.in_ok-callbacks.ensures.etimers) three

use Rattle.std.proofs.Common.{rules, arith, ◌≡◌, refl, sym, ◌∙◌, map-id, length, length-append, vec_len, ◌∷◌, []}
use Rattle.std.proofs.lemmas.Iterator.Adapters.{YieldsList-from_vec}
use Rattle.std.proofs.lemmas.Iterator.Consumers.{YieldsList-end}
use Rattle.std.proofs.lemmas.Result.{IfOk-at_ok}
use Rattle.fork_join.proofs.Zips.{push_zip}
use Rattle.fork_join.proofs.Tokens.{one_without, one_with, tokens_of_ok, tokens_of_err}
use Rattle.fork_join.proofs.fork.join_all.Goals as goal

pub loop-handle-init : goal.loop-handle-init
loop-handle-init g c = record {
  kept = λ none. rw c.new-done.ensures.items tt;
  parts = omega arith;
  tokens = λ none. rw none refl;
}

pub loop-handle-preserved-in_default : goal.loop-handle-preserved-in_default
loop-handle-preserved-in_default g c =
    let matches = c.join-result.ensures in
    record {
      kept = λ going. rw c.in_default.ensures.items (push_zip _ c.loop-handle.yielded c.loop-handle.done.items c.in-Some.handle c.in-Ok.worker (c.loop-handle.invariant.kept going) (IfOk-at_ok _ c.in-Ok.is matches.0));
      parts = omega (arith, c.merge.ensures.parts, c.loop-handle.invariant.parts, matches.1, length-append c.loop-handle.yielded (c.in-Some.handle ∷ []));
      tokens = λ none. rw c.merge.ensures.amount (one_without c.loop-handle.failed _ _ (c.loop-handle.invariant.tokens none) (tokens_of_ok c.join-result.result.result c.in-Ok.worker _ c.in-Ok.is matches.2));
    }

pub loop-handle-preserved-in-Err-push : goal.loop-handle-preserved-in-Err-push
loop-handle-preserved-in-Err-push g c =
    let matches = c.join-result.ensures in
    record {
      kept = λ none. absurd (cc);
      parts = omega (arith, c.merge.ensures.parts, c.loop-handle.invariant.parts, matches.1, length-append c.loop-handle.yielded (c.in-Some.handle ∷ []));
      tokens = λ none. tt;
    }

pub loop-handle-preserved-else-is_none : goal.loop-handle-preserved-else-is_none
loop-handle-preserved-else-is_none g c =
    let matches = c.join-result.ensures in
    record {
      kept = λ none. absurd (search rules);
      parts = omega (arith, c.merge.ensures.parts, c.loop-handle.invariant.parts, matches.1, length-append c.loop-handle.yielded (c.in-Some.handle ∷ []));
      tokens = λ none. rw c.merge.ensures.amount (one_without c.loop-handle.failed _ _ (c.loop-handle.invariant.tokens none) (tokens_of_ok c.join-result.result.result c.in-Ok.worker _ c.in-Ok.is matches.2));
    }

pub loop-handle-preserved : goal.loop-handle-preserved
loop-handle-preserved g c =
    let matches = c.join-result.ensures in
    record {
      kept = λ none. absurd (cc);
      parts = omega (arith, c.merge.ensures.parts, c.loop-handle.invariant.parts, matches.1, length-append c.loop-handle.yielded (c.in-Some.handle ∷ []));
      tokens = λ none. rw (c.merge.ensures.amount, c.gravest.ensures.value) (one_with c.loop-handle.failed c.in-Err.refused _ _ (c.loop-handle.invariant.tokens none) (tokens_of_err c.join-result.result.result c.in-Err.refused _ c.in-Err.is matches.2));
    }

pub returns-in-None-failed-clause-kept : goal.returns-in-None-failed-clause-kept
returns-in-None-failed-clause-kept g c =
    let rest = c.into_iter-handle-iterator.ensures.into_iter_gives in
    let len : vec_len c.args.started ≡ length c.args.started.items = search rules in
    let end = YieldsList-end (YieldsList-from_vec c.args.started.items rest.0 (rest.1 ∙ len)) c.loop-handle.yielded c.loop-handle.handle-iterator c.loop-handle.yielded_by c.next.result c.next.new.self c.in-None.is c.next.ensures.steps in
    rw (sym (sym (map-id c.loop-handle.yielded) ∙ end.0)) (c.loop-handle.invariant.kept c.in-None-failed.is)

use Rattle.std.proofs.Common.{rules, ◌≡◌, sym, ap, subst, ◌∙◌, map-id, vec_len, length, length-append, ◌∷◌, [], arith}
use Rattle.std.proofs.lemmas.Iterator.Adapters.{YieldsList-from_vec}
use Rattle.std.proofs.lemmas.Iterator.Consumers.{YieldsList-end, YieldsList-turn}
use Rattle.std.proofs.lemmas.Result.{IfOk-weaker}
use Rattle.std.specs.List.{AllZip}
use Rattle.fork_join.specs.Kept.{Handle, AllKept, AllPromised}
use Rattle.fork_join.proofs.Zips.{push_zip, zip_zip, zip_length, each_at}
use Rattle.fork_join.proofs.fork.fork_all.Goals as goal
use Rattle.fork_join.proofs.fork.fork_all.Goals.{In-None-refused, After-gravest, in-None, in-Some+then-not-may_start, in-Some+else-not-may_start+in_default, in-Some+else-not-may_start+in-Ok+in-Err}

pub loop-worker-preserved : goal.loop-worker-preserved
loop-worker-preserved g c = record {
  going = c.loop-worker.invariant.going;
  parts = omega (arith, c.split_off-share.ensures.parts_left, c.loop-worker.invariant.parts, length-append c.loop-worker.yielded (c.in-Some.worker ∷ []));
  none = omega (arith, c.split_off-share.ensures.amount_left, c.loop-worker.invariant.none);
  promised = rw c.in_default-push.ensures.items (push_zip _ c.loop-worker.yielded c.loop-worker.started.items c.in-Some.worker c.in-Ok.handle c.loop-worker.invariant.promised
      (ap (λ p. p.work.value) c.in-Ok.ensures.ok ∙ c.of.ensures, ap (λ p. p.worker.value) c.in-Ok.ensures.ok ∙ c.of-in-loop-worker.ensures));
}

-- all workers were started
all_started : (g : _) (c : In-None-refused g) → AllPromised c.args.work.now c.args.workers.items c.match-next.started.items
all_started g c =
    let rest = c.into_iter-worker-iterator.ensures.into_iter_gives in
    let len : vec_len c.args.workers ≡ length c.args.workers.items = search rules in
    elim c.match-next.branch [
      | in-None w ↦ (
          let end = YieldsList-end (YieldsList-from_vec c.args.workers.items rest.0 (rest.1 ∙ len)) c.loop-worker.yielded c.loop-worker.worker-iterator c.loop-worker.yielded_by c.next.result c.next.new.self w.in-None.is c.next.ensures.steps in
          rw (w.started-is, sym (sym (map-id c.loop-worker.yielded) ∙ end.0)) c.loop-worker.invariant.promised)
      | in-Some+then-not-may_start w ↦ (let e = sym w.refused-is ∙ c.in-None-refused.is in cc)
      | in-Some+else-not-may_start+in_default w ↦ (let e = sym w.refused-is ∙ c.in-None-refused.is in cc)
      | in-Some+else-not-may_start+in-Ok+in-Err w ↦ (let e = sym w.refused-is ∙ c.in-None-refused.is in cc)
    ]

-- the fork still has its own part, without tokens
one_part : (g : _) (c : In-None-refused g) → (c.match-next.all.parts ≡ 1) × (c.match-next.all.amount ≡ 0)
one_part g c =
    let rest = c.into_iter-worker-iterator.ensures.into_iter_gives in
    let len : vec_len c.args.workers ≡ length c.args.workers.items = search rules in
    elim c.match-next.branch [
      | in-None w ↦ (
          let end = YieldsList-end (YieldsList-from_vec c.args.workers.items rest.0 (rest.1 ∙ len)) c.loop-worker.yielded c.loop-worker.worker-iterator c.loop-worker.yielded_by c.next.result c.next.new.self w.in-None.is c.next.ensures.steps in
          (rw w.all-is (omega (arith, c.loop-worker.invariant.parts, end.1)), rw w.all-is c.loop-worker.invariant.none))
      | in-Some+then-not-may_start w ↦ (let e = sym w.refused-is ∙ c.in-None-refused.is in absurd (cc))
      | in-Some+else-not-may_start+in_default w ↦ (let e = sym w.refused-is ∙ c.in-None-refused.is in absurd (cc))
      | in-Some+else-not-may_start+in-Ok+in-Err w ↦ (let e = sym w.refused-is ∙ c.in-None-refused.is in absurd (cc))
    ]

pub none_stopped-requires-clause-parts : goal.none_stopped-requires-clause-parts
none_stopped-requires-clause-parts g c =
    let own = one_part g c in
    omega (arith, own.0, zip_length _ c.args.workers.items c.match-next.started.items (all_started g c), c.join_all-done.ensures.parts, c.requires.one_more, c.requires.parts)

pub none_stopped-requires-clause-tokens : goal.none_stopped-requires-clause-tokens
none_stopped-requires-clause-tokens g c = c.join_all-done.ensures.tokens (one_part g c).1

one_answer : {A W T : Type 0} (makes : W → T → T → Type 0) (work : W) (worker : T) (handle : Handle A W T) (done : T) → (handle.promise.work.value ≡ work) × (handle.promise.worker.value ≡ worker)
    → makes handle.promise.work.value handle.promise.worker.value done → makes work worker done
one_answer makes work worker handle done h k = rw (h.0, h.1) at k

pub returns-in-None-refused-clause-makes : goal.returns-in-None-refused-clause-makes
returns-in-None-refused-clause-makes g c =
    let makes = g.W.Work.makes in
    rw c.none_stopped.ensures.same
    (IfOk-weaker c.join_all-done.result (λ done. AllKept makes c.match-next.started.items done.items) (λ done. AllZip (makes c.args.work.now) c.args.workers.items done.items)
    (λ done kept. zip_zip _ _ _ (one_answer makes c.args.work.now) c.args.workers.items c.match-next.started.items done.items (all_started g c.before) kept) c.join_all-done.ensures.kept)

pub spawn_with-begun-requires-clause-runs : goal.spawn_with-begun-requires-clause-runs
spawn_with-begun-requires-clause-runs g c = λ κs within κs1 items held κs2 within2.
    let rest = c.into_iter-worker-iterator.ensures.into_iter_gives in
    let len : vec_len c.args.workers ≡ length c.args.workers.items = search rules in
    let turn = YieldsList-turn (YieldsList-from_vec c.args.workers.items rest.0 (rest.1 ∙ len)) c.loop-worker.yielded c.loop-worker.worker-iterator c.loop-worker.yielded_by c.next.result c.next.new.self c.in-Some.worker c.in-Some.is c.next.ensures.steps in
    (subst (g.W.Work.ready c.args.work.now) (sym turn.1) (each_at (g.W.Work.ready c.args.work.now) c.args.workers.items (length c.loop-worker.yielded) c.in-Some.worker c.requires.ready turn.0), (c.split_off-share.ensures.parts, c.split_off-share.ensures.amount))

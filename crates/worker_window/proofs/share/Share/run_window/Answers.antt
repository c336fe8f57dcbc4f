use Rattle.std.proofs.Common.{◌≡◌, ◌∙◌, ◌++◌, ◌∷◌, [], length, map, Vec, Option, Some, None, ap, refl, sym, subst, arith, IsSome}
use Rattle.std.proofs.lemmas.List.{length-set, nil_from_length}
use Rattle.std.specs.List.{AllByRecursion, filter, flat_map}
use Rattle.std.specs.Prelude.{IfSome, IsSomeAnd}
use Rattle.copy_exchange.specs.Crossed.{is_own, is_for_others}
use Rattle.mote_net.specs.Meaning.{net_of}
use Rattle.net_agenda.specs.Buckets.{HoldsItems}
use Rattle.net_agenda.specs.NetSystem.{tree_at}
use Rattle.radio_medium.specs.Medium.{Radio, copies}
use Rattle.window_laws.proofs.Lists.{every_append}
use Rattle.window_laws.specs.Agenda.{Packet}
use Rattle.worker_window.specs.Resting.{ComesToRest, HasSent}
use Rattle.worker_window.specs.Share.{mote_here}
use Rattle.worker_window.specs.Window.{IsOutgoing}
use Rattle.worker_window.specs.Worker.{AreCalled, CanMoteGoOn, MayEndAs}
use Rattle.worker_window.specs.declared.own.OwnWindow.{OwnWindow}
use Rattle.std.specs.declared.alloc.Global.{Global}
use Rattle.net_agenda.proofs.Gathered.{zero_from}
use Rattle.worker_window.proofs.Numbers.{front_different, last_among, not_last, still_among}
use Rattle.worker_window.proofs.Parts.{window_copies, window_copies_are}
use Rattle.worker_window.proofs.Places.{put_else}
use Rattle.worker_window.proofs.Resting.{IsFitOwn, all_rest, fits, go_out, is_here, one_rests, some_weaker}
use Rattle.worker_window.proofs.Starts.{are_called, can_take, fit_after, go_on, starts}
use Rattle.worker_window.proofs.share.Share.run_window.Goals as goal

pub take_events_before-requires : goal.take_events_before-requires
take_events_before-requires g c = record {
  can =
      let kept = c.requires.ready.keeps in
      can_take (net_of c.args.net.now) c.args.owners.now c.args.until c.args.self.now c.args.arrived.items c.requires.ready c.requires.to_own c.requires.owners c.put_copies.new.self.buckets
      (subst (λ l. HoldsItems c.put_copies.new.self.buckets (kept.agenda.items ++ map Packet l)) c.deref.ensures.value (c.in_ok-put_copies.ensures.adds kept.agenda.items kept.agenda.holds));
}

pub run_motes-requires-clause-are_called : goal.run_motes-requires-clause-are_called
run_motes-requires-clause-are_called g c =
    let n = net_of c.args.net.now in
    let kept = c.requires.ready.keeps in
    let base = subst (λ l. HoldsItems c.put_copies.new.self.buckets (kept.agenda.items ++ map Packet l)) c.deref.ensures.value (c.in_ok-put_copies.ensures.adds kept.agenda.items kept.agenda.holds) in
    let taken = c.take_events_before.new.motes.items in
    let there = are_called n c.args.owners.now c.args.until c.args.self.now c.args.arrived.items c.requires.ready c.requires.to_own c.requires.owners c.take_events_before.new.called.items taken
    (c.in_ok-take_events_before.ensures.taken _ base) in
    subst (λ (v : Vec (Option OwnWindow) Global). AreCalled n c.deref-2.result.now v.items) (sym c.replace-motes.ensures.value) (subst (λ l. AreCalled n l taken) (sym c.deref-2.ensures.value) there)

pub run_motes-requires-clause-go_on : goal.run_motes-requires-clause-go_on
run_motes-requires-clause-go_on g c = λ k.
    let n = net_of c.args.net.now in
    let r = c.requires.ready in
    let base = subst (λ l. HoldsItems c.put_copies.new.self.buckets (r.keeps.agenda.items ++ map Packet l)) c.deref.ensures.value (c.in_ok-put_copies.ensures.adds r.keeps.agenda.items r.keeps.agenda.holds) in
    subst (λ (v : Vec (Option OwnWindow) Global). CanMoteGoOn (tree_at n k) c.args.until (mote_here v.items k)) (sym c.replace-motes.ensures.value)
    (go_on n c.args.owners.now r.worker r.from c.args.until r.motes r.taken c.args.arrived.items c.args.self.now r.keeps r.order r.expected c.requires.owners c.take_events_before.new.motes.items
    c.take_events_before.new.called.items (c.in_ok-take_events_before.ensures.taken _ base) k)

pub loop-number-init : goal.loop-number-init
loop-number-init g c =
    let n = net_of c.args.net.now in
    let owners = c.args.owners.now in
    let self = c.args.self.now in
    let until = c.args.until in
    let arrived = c.args.arrived.items in
    let kept = c.requires.ready.keeps in
    let base = subst (λ l. HoldsItems c.put_copies.new.self.buckets (kept.agenda.items ++ map Packet l)) c.deref.ensures.value (c.in_ok-put_copies.ensures.adds kept.agenda.items kept.agenda.holds) in
    let taken = c.take_events_before.new.motes.items in
    let called = c.take_events_before.new.called.items in
    let ended = c.in_ok-self.field-0.items in
    let takes = c.in_ok-take_events_before.ensures.taken _ base in
    let ends : MayEndAs n until called taken ended = subst (λ (v : Vec (Option OwnWindow) Global). MayEndAs n until called v.items ended) c.replace-motes.ensures.value
    (subst (λ l. MayEndAs n until l c.replace-motes.result.items ended) c.deref-2.ensures.value c.in_ok-self.ensures.ends) in
    record {
      motes = ends.places ∙ (takes.places ∙ kept.places);
      worker = refl;
      different = takes.different;
      fits = fit_after n owners until self arrived c.requires.ready c.requires.to_own c.requires.owners called taken takes ended ends;
      go_out = subst (AllByRecursion (IsOutgoing n owners self.worker)) (sym c.new-outgoing.ensures.items) tt;
      resting = λ worker from motes before keeps le short come.
          let at = subst (λ l. HoldsItems c.put_copies.new.self.buckets (keeps.agenda.items ++ map Packet l)) c.deref.ensures.value (c.in_ok-put_copies.ensures.adds keeps.agenda.items keeps.agenda.holds) in
          starts n owners worker from until motes before arrived self keeps le come c.requires.owners taken called (c.in_ok-take_events_before.ensures.taken _ at) _ _ c.new-outgoing.ensures.items ends refl refl
          (c.in_ok-take_events_before.ensures.rest _ at);
    }

pub rest-requires : goal.rest-requires
rest-requires g c = record {
  sent =
      let n = net_of c.args.net.now in
      let inv = c.loop-number.invariant in
      let k = c.in-Some.number in
      let places = length c.medium.result.now.places in
      some_weaker (IsFitOwn n c.args.owners.now c.args.self.now.worker c.args.until k) (HasSent places)
      (λ own fit. fits n c.args.owners.now c.args.self.now.worker c.args.until places k own fit c.medium.ensures.placed c.requires.until_bounded) (mote_here c.loop-number.self.motes.items k)
      (inv.fits k (last_among c.loop-number.called.items c.pop.new.self.items k c.in-Some.ensures.items inv.different));
}

pub loop-number-preserved : goal.loop-number-preserved
loop-number-preserved g c =
    let n = net_of c.args.net.now in
    let owners = c.args.owners.now in
    let self = c.args.self.now in
    let until = c.args.until in
    let arrived = c.args.arrived.items in
    let inv = c.loop-number.invariant in
    let was = c.loop-number.self in
    let now = c.rest.new.self in
    let before = c.loop-number.outgoing.items in
    let after = c.rest.new.outgoing.items in
    let k = c.in-Some.number in
    let front = c.pop.new.self.items in
    let all = c.loop-number.called.items in
    let popped : all ≡ front ++ k ∷ [] = c.in-Some.ensures.items in
    let placed : length n.radio.places ≡ length n.motes = ap (λ (r : Radio). length r.places) (sym c.medium.ensures.value) ∙ c.medium.ensures.placed in
    let rests : IfSome (mote_here was.motes.items k) (λ own. ComesToRest n.radio owners until k own was now before after) =
    subst (λ (r : Radio). IfSome (mote_here was.motes.items k) (λ own. ComesToRest r owners until k own was now before after)) c.medium.ensures.value c.in_ok-rest.ensures.rests in
    let it = is_here (IsFitOwn n owners self.worker until k) (λ own. ComesToRest n.radio owners until k own was now before after) (mote_here was.motes.items k)
    (inv.fits k (last_among all front k popped inv.different)) rests in
    let one = it.done in
    record {
      motes = ap length one.motes ∙ (length-set was.motes.items k (Some one.rested) ∙ inv.motes);
      worker = one.worker ∙ inv.worker;
      different = (front_different all front k popped inv.different).0;
      fits = λ j e.
          subst (λ (o : Option OwnWindow). IsSomeAnd o (IsFitOwn n owners self.worker until j))
          (sym (ap (λ l. mote_here l j) one.motes ∙ put_else was.motes.items k j (Some one.rested) None (not_last all front k popped inv.different j e)))
          (inv.fits j (still_among all front k popped inv.different j e));
      go_out =
          subst (AllByRecursion (IsOutgoing n owners self.worker))
          (sym (one.outgoing ∙ ap (λ w. before ++ filter (is_for_others (is_own owners w)) (flat_map (copies n.radio) it.own.sends.items)) inv.worker))
          (every_append _ before _ inv.go_out (go_out n owners self.worker until k it.own placed it.fit));
      resting = λ worker from motes taken keeps le short come.
          one_rests n owners worker from until motes (taken ++ arrived) (window_copies n owners worker from until motes taken arrived self keeps le come) placed short all front k popped was now before after
          (inv.resting worker from motes taken keeps le short come) it.own it.is one;
    }

pub returns-clause-window : goal.returns-clause-window
returns-clause-window g c = λ worker from motes taken keeps le short come.
    let n = net_of c.args.net.now in
    let owners = c.args.owners.now in
    let until = c.args.until in
    let arrived = c.args.arrived.items in
    let self = c.args.self.now in
    let zero = zero_from _ (λ p. subst IsSome c.in_default.is (c.pop.ensures.variant.1 p)) in
    let none : c.loop-number.called.items ≡ [] = nil_from_length c.loop-number.called.items (omega (arith, zero, c.loop-number.called.ok.0)) in
    all_rest n owners worker from until motes (taken ++ arrived) (window_copies n owners worker from until motes taken arrived self keeps le come) c.loop-number.called.items c.loop-number.self c.loop-number.outgoing.items none
    (c.loop-number.invariant.resting worker from motes taken keeps le short come) (window_copies_are n owners worker from until motes taken arrived self keeps le come) c.pop.new.self

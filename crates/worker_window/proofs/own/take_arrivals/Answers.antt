use Rattle.std.proofs.Common.{◌∙◌, ◌++◌, ◌∷◌, [], ap, map, subst, sym, take}
use Rattle.std.proofs.lemmas.Bool.{eq-eqb, ne_eqb}
use Rattle.std.proofs.lemmas.List.{map-append, take_all, take_more}
use Rattle.net_agenda.specs.Buckets.{arrival_of}
use Rattle.window_laws.specs.Windows.{is_at}
use Rattle.worker_window.proofs.Fronts.{Pass, pass_more, front_at, front_all}
use Rattle.worker_window.proofs.own.take_arrivals.Goals as goal

pub loop-copy-preserved : goal.loop-copy-preserved
loop-copy-preserved c =
    let copies = c.args.copies.now in
    let i = c.loop-copy.copy-index in
    record {
      taken = c.push_reserved.ensures.items
          ∙ (ap (λ l. l ++ c.arrival.result ∷ []) (c.reserve.ensures.items ∙ c.loop-copy.invariant.taken)
          ∙ (ap (λ a. map arrival_of (take i copies) ++ a ∷ []) c.arrival.ensures.value ∙ sym (ap (map arrival_of) (take_more copies i _ c.loop-copy-test.true) ∙ map-append arrival_of (take i copies) _)));
      pass = pass_more (is_at c.args.moment) copies i _ c.loop-copy-test.true c.loop-copy.invariant.pass (eq-eqb _ _ c.if-copy-moment.false);
    }

pub returns-then-copy-moment : goal.returns-then-copy-moment
returns-then-copy-moment c = record {
  arrivals =
      c.loop-copy.invariant.taken
      ∙ ap (map arrival_of) (sym (front_at (is_at c.args.moment) c.loop-copy.copy-index c.args.copies.now _ c.loop-copy-test.true c.loop-copy.invariant.pass (ne_eqb _ _ c.if-copy-moment.true)));
}

pub returns : goal.returns
returns c = record {
  arrivals =
      let all = take_all c.loop-copy.copy-index c.args.copies.now c.loop-copy-test.false in
      c.loop-copy.invariant.taken ∙ ap (map arrival_of) (all ∙ sym (front_all (is_at c.args.moment) c.args.copies.now (subst (Pass (is_at c.args.moment)) all c.loop-copy.invariant.pass)));
}

use Rattle.std.proofs.Common.{◌∙◌, ◌++◌, ap, sym, get_or, slice_set}
use Rattle.std.proofs.lemmas.List.{get_or_default}
use Rattle.std.proofs.lemmas.Result.{on_ok_weaker}
use Rattle.net_agenda.proofs.traces.add_lines.Goals as goal

pub returns : goal.returns
returns c = record {
  adds_lines =
      let xs = c.args.traces.now.items in
      let old = c.index_mut.result.now in
      let after = c.extend_trace.new.trace in
      on_ok_weaker c.extend_trace.result (λ added. record {
        after = after;
        put = ap (λ k. slice_set xs k after) c.from.ensures;
        added = λ d.
            added
            ∙ ap (λ l. l ++ c.args.lines.now.items)
            (ap (λ v. v.items) (c.index_mut.ensures.value ∙ (ap (λ k. get_or xs k old) c.from.ensures ∙ sym (get_or_default xs c.args.number d old c.requires.in_range))));
      }) c.extend_trace.ensures.appended;
}

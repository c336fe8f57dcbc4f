use Rattle.std.proofs.Common.{rules, ◌≡◌, ◌+◌, drop, length, map, None, option_map, sym, ap, ◌∙◌}
use Rattle.std.proofs.lemmas.List.{drop-drop}
use Rattle.std.specs.List.{take_while}
use Rattle.mote_node.specs.Public.{node_in, turn_given, turn_out_of}
use Rattle.mote_node.specs.Turn.{turn_of}
use Rattle.net_agenda.specs.Buckets.{arrival_of}
use Rattle.program_tree.specs.Program.{tree_of}
use Rattle.window_laws.specs.Windows.{is_at}
use Rattle.worker_window.specs.Own.{window_in}
use Rattle.worker_window.proofs.Orders.{is_rising-drop, rest_of}
use Rattle.worker_window.proofs.Takes.{turns_to}
use Rattle.worker_window.proofs.own.OwnWindow.turn.Goals as goal

pub returns-clause-ok : goal.returns-clause-ok
unfolding window_in
returns-clause-ok g c = λ until left.
    let s = c.args.self.now in
    let t = tree_of c.args.program.now in
    let out = turn_out_of c.turn_into.new.out c.in_ok-self.field-0 in
    let given = c.take_arrivals.new.arrivals.items in
    let front = rest_of s.next c.deref.result.now s.copies.items c.deref.ensures.value in
    let took : given ≡ map arrival_of (take_while (is_at c.args.moment) (drop s.next s.copies.items)) =
    c.in_ok-take_arrivals.ensures.arrivals ∙ ap (λ l. map arrival_of (take_while (is_at c.args.moment) l)) front in
    let len : c.len.result ≡ length given = search rules in
    let cut : drop (s.next + c.len.result) s.copies.items ≡ drop (length given) (drop s.next s.copies.items) =
    ap (λ k. drop (s.next + k) s.copies.items) len ∙ sym (drop-drop (length given) s.next s.copies.items) in
    let made : option_map (turn_given out) (node_in t c.turn_into.new.self) ≡ option_map (turn_of c.args.moment given) (node_in t s.mote) =
    c.in_ok-self.ensures.ok ∙ ap (λ l. option_map (turn_of c.args.moment l) (node_in t s.mote)) c.deref-2.ensures.value in
    let there : node_in t s.mote ≡ None → ⊥ = λ gone. let failed = c.in_ok-self.ensures.failed.1 gone in cc in
    rw (c.in_ok-extend_trace.ensures.appended, c.in_ok-append.ensures.items)
    (turns_to t until c.args.moment (drop s.next s.copies.items) (drop (s.next + c.len.result) s.copies.items) given s.wake s.lines.items s.sends.items
    (node_in t s.mote) (node_in t c.turn_into.new.self) out there left (is_rising-drop s.next s.copies.items s.rising) took cut made)

-- No turn is past: each mote's last turn was before the moment of its share.
use Rattle.std.proofs.Common.{◌≡◌, ◌∙◌, ℕ, ◌<◌, ◌≤◌, false, nat_le, Option, Some, None, List, refl, ap, arith}
use Rattle.std.proofs.lemmas.Bool.Decides.{nat_tests}
use Rattle.mote_net.specs.Net.{NetModel}
use Rattle.mote_node.specs.Turn.{Node, new_node, is_past, turn_of}
use Rattle.net_agenda.specs.NetSystem.{system_of, first_node_in}
use Rattle.radio_packet.specs.declared.copy.RadioCopy.{RadioCopy}
use Rattle.trace_lines.specs.declared.line.Line.{Line}
use Rattle.window_laws.specs.Windows.{LoneMote, lone_turn}

not_past : (t moment : ℕ) → t < moment → nat_le moment t ≡ false
not_past t moment h = grind (arith, nat_tests)

later_moment : (from moment last : ℕ) → from ≤ moment → nat_le from last ≡ false → nat_le moment last ≡ false
later_moment from moment last le h = grind (arith, nat_tests)

pub past_later : (from moment : ℕ) → from ≤ moment → (last : Option ℕ) → is_past from last ≡ false → is_past moment last ≡ false
past_later from moment le None h = refl
past_later from moment le (Some last) h = later_moment from moment last le h

pub not_begun : (n : NetModel) (k moment : ℕ) → is_past moment (first_node_in n k).last ≡ false
unfolding new_node
not_begun n k moment = refl

turn_ends : (n : NetModel) (k t : ℕ) (mote : LoneMote Node Line) (given : List RadioCopy) → (lone_turn (system_of n) t k mote given).state.last ≡ Some t
unfolding system_of turn_of
turn_ends n k t mote given = refl

pub turn_before : (n : NetModel) (k t until : ℕ) (mote : LoneMote Node Line) (given : List RadioCopy) → t < until → is_past until (lone_turn (system_of n) t k mote given).state.last ≡ false
turn_before n k t until mote given h = ap (is_past until) (turn_ends n k t mote given) ∙ not_past t until h

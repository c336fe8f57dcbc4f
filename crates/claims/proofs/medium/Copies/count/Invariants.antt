use Rattle.std.proofs.Common.{◌≡◌, ◌≤◌, ◌*◌, take}
use Rattle.std.specs.List.{sum_by}
use Rattle.mote_net.specs.Report.{line_model}
use Rattle.claims.specs.Medium.{copies_in}
use Rattle.claims.proofs.medium.Copies.count.Given as goal

abbrev pub invariant-loop-line : goal.invariant-loop-line
invariant-loop-line l = record {
  sum : l.count ≡ sum_by (λ x. copies_in l.self (line_model x)) (take l.line-index l.report.medium.items);
  small : l.count ≤ l.line-index * 18446744073709551615;
}

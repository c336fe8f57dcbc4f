use Rattle.std.proofs.Common.{◌≡◌, ◌<◌, ◌≤◌, ap, length, arith, ◌+◌, [], ◌∷◌}
use Rattle.std.proofs.lemmas.List.{length-append}
use Rattle.program_reader.specs.Steps.{read_scope}
use Rattle.program_reader.proofs.CodesLaws.{same_processes, loop_goes, loop_fails, loop_ends, still_none}
use Rattle.program_reader.proofs.ListLaws.{handed_on}
use Rattle.program_reader.proofs.reader.Reader.codes.Goals as goal

pub code-requires-clause-own : goal.code-requires-clause-own
code-requires-clause-own c =
    still_none c.args.self.now.scope c.codes.self.scope _ _ _ _ c.requires.has_no_own_names c.codes.invariant.read

pub returns-in_err-code-clause-err : goal.returns-in_err-code-clause-err
returns-in_err-code-clause-err c = λ f e.
    let low : c.len-in-codes-2.result < length c.codes.self.scope.processes = omega arith in
    let is : c.len-in-codes-2.result ≡ length c.codes.codes.items =
    omega (arith, c.len-in-codes-2.ensures, c.codes.codes.ok) in
    loop_fails (read_scope c.args.self.now.scope) (read_scope c.codes.self.scope) c.codes.codes.items
    c.len-in-codes-2.result _ _ _ is c.codes.invariant.read low
    (c.in_err-code.ensures.err f (handed_on c.from_residual.ensures.1 e))

pub codes-smaller : goal.codes-smaller
codes-smaller c =
    let same = same_processes (read_scope c.args.self.now.scope) (read_scope c.codes.self.scope) _ _ _ _
    c.codes.invariant.read in
    let low : length c.codes.codes.items < length c.codes.self.scope.processes = omega arith in
    let more : length c.push.new.self.items ≡ length c.codes.codes.items + 1 =
    omega (
      arith,
      ap length c.in_ok-push.ensures.items,
      length-append c.codes.codes.items
          (c.in_ok-code.code ∷ []),
    ) in
    omega (arith, ap length same, low, more)

pub codes-preserved : goal.codes-preserved
codes-preserved c =
    let same = same_processes (read_scope c.args.self.now.scope) (read_scope c.codes.self.scope) _ _ _ _
    c.codes.invariant.read in
    let low : c.len-in-codes-2.result < length c.codes.self.scope.processes = omega arith in
    let is : c.len-in-codes-2.result ≡ length c.codes.codes.items =
    omega (arith, c.len-in-codes-2.ensures, c.codes.codes.ok) in
    let more : length c.push.new.self.items ≡ length c.codes.codes.items + 1 =
    omega (
      arith,
      ap length c.in_ok-push.ensures.items,
      length-append c.codes.codes.items
          (c.in_ok-code.code ∷ []),
    ) in
    record {
      few = omega (arith, ap length same, low, more, is);
      read = loop_goes (read_scope c.args.self.now.scope) (read_scope c.codes.self.scope) _ c.codes.codes.items _
          c.in_ok-code.code c.len-in-codes-2.result _ _ _ is c.in_ok-push.ensures.items c.codes.invariant.read low
          c.in_ok-code.ensures.ok;
    }

pub returns-clause-ok : goal.returns-clause-ok
returns-clause-ok c =
    let same = same_processes (read_scope c.args.self.now.scope) (read_scope c.codes.self.scope) _ _ _ _
    c.codes.invariant.read in
    let full : length c.args.self.now.scope.processes ≤ length c.codes.codes.items = omega (arith, ap length same) in
    loop_ends (read_scope c.args.self.now.scope) (read_scope c.codes.self.scope) _ _ _ _ full c.codes.invariant.read

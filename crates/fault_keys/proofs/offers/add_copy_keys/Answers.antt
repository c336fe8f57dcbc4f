use Rattle.std.proofs.Common.{rules, ◌≡◌, ◌+◌, ℕ, length, arith, vec_len}
use Rattle.fault_keys.specs.Keys.{packed}
use Rattle.fault_keys.proofs.Lists.{map_more}
use Rattle.fault_keys.proofs.offers.add_copy_keys.Goals as goal

key_is : (kind n l l' v v' s s' r r' : ℕ) → l ≡ l' → v ≡ v' → s ≡ s' → r ≡ r' → l + packed v s n r kind ≡ l' + packed v' s' n r' kind
key_is kind n l l' v v' s s' r r' el ev es er = rw (el, ev, es, er)

pub loop-kind-preserved : goal.loop-kind-preserved
loop-kind-preserved c =
    let fixed = c.args.candidates.now.fixed in
    let kinds = c.args.candidates.now.copies in
    let sent = c.args.sent.now in
    let kind = c.loop-kind.kind in
    let few : vec_len fixed ≡ length fixed.items = search rules in
    let own : vec_len kinds ≡ length kinds.items = search rules in
    let lf : c.len-fixed.result ≡ length fixed.items = omega (arith, few, c.len-fixed.ensures) in
    let lk : c.len-kinds.result ≡ length kinds.items = omega (arith, own, c.len-kinds.ensures) in
    let f : ℕ → ℕ = λ k. length fixed.items + packed (length kinds.items) sent.sender sent.number c.args.to k in
    let x : ℕ = c.len-fixed.result + packed c.len-kinds.result c.from.result sent.number c.from-2.result kind in
    map_more f c.args.keys.now.items c.loop-kind.keys.items c.push.new.self.items kind x c.loop-kind.invariant c.in_ok-push.ensures.items
    (key_is kind sent.number c.len-fixed.result (length fixed.items) c.len-kinds.result (length kinds.items) c.from.result sent.sender c.from-2.result c.args.to lf lk c.from.ensures c.from-2.ensures)

use Rattle.std.proofs.Common.{◌≡◌, map}
use Rattle.copy_exchange.specs.declared.endpoint.Endpoint.{Endpoint}
use Rattle.copy_exchange.proofs.window.split_endpoints.Given as goal

abbrev pub invariant-loop-endpoint : goal.invariant-loop-endpoint
invariant-loop-endpoint l = record {
  takers : l.takers.items ≡ map (λ (c : Endpoint). c.taker) l.yielded;
  rows : l.rows.items ≡ map (λ (c : Endpoint). c.senders) l.yielded;
}

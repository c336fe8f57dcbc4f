-- One worker, made from its share and its endpoint.
use Rattle.std.specs.Prelude.{None}
use Rattle.copy_exchange.specs.declared.endpoint.Endpoint.{Endpoint}
use Rattle.worker_window.specs.declared.share.Share.{Share}
use Rattle.window_workers.specs.declared.worker.Worker.{Worker}

-- the worker with this share and this endpoint, before it delivered a copy
abbrev pub make_worker : Share × Endpoint → Worker
make_worker p = record { share = p.0; endpoint = p.1; first_out = None }

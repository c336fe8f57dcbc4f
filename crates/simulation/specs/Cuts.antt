-- The partitions that the options name.
use Rattle.std.specs.Prelude.{ℕ, List}
use Rattle.copy_exchange.specs.Cut.{block_cut, stripe_cut}
use Rattle.simulation.specs.declared.options.CutKind.{CutKind}
use Rattle.simulation.specs.declared.options.CutKind.TheVariants as kind

-- the worker of each mote in a partition of this kind
abbrev pub of_kind : CutKind → (motes workers : ℕ) → List ℕ
of_kind kind.Block motes workers = block_cut motes workers
of_kind kind.Stripe motes workers = stripe_cut motes workers

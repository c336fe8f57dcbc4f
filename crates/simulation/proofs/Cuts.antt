-- Partitions in blocks and in stripes fit any number of motes.
use Rattle.std.proofs.Common.{◌≡◌, ℕ, zero, suc, ◌*◌, ◌/◌, ◌%◌, ◌<◌, true, List, [], ◌∷◌, length, None, refl, ◌∙◌, arith}
use Rattle.std.specs.Prelude.{nat_lt}
use Rattle.std.specs.List.{list_all, AllByRecursion}
use Rattle.std.proofs.Math.Nat.{div-lt_iff_lt-mul, mul-lt-mul_of_pos_right, mul_comm}
use Rattle.std.proofs.lemmas.Bool.{lt-ltb, le-ltb, eq-eqb, ne_eqb}
use Rattle.std.proofs.lemmas.List.{length-map, length-append}
use Rattle.std.proofs.lemmas.Nat.{mod_below}
use Rattle.window_laws.specs.Agenda.{up_to}
use Rattle.window_laws.proofs.Agenda.{below_all}
use Rattle.window_laws.proofs.Lists.{every_map, every_weaker}
use Rattle.copy_exchange.specs.Cut.{block_cut, stripe_cut}
use Rattle.window_workers.specs.Fits.{cut_fault}
use Rattle.simulation.specs.Simulation.{MayWork}

as_many : (n : ℕ) → length (up_to n) ≡ n
as_many zero = refl
as_many (suc n) = length-append (up_to n) (n ∷ []) ∙ (let h = as_many n in omega arith)

all_there : (workers : ℕ) (of : List ℕ) → AllByRecursion (λ worker. worker < workers) of → list_all (λ worker. nat_lt worker workers) of ≡ true
all_there workers [] h = refl
all_there workers (w ∷ of) h = rw (lt-ltb w workers h.0, all_there workers of h.1) refl

-- a partition as long as the list of motes fits if all its workers exist
fits : (motes workers : ℕ) (of : List ℕ) → MayWork workers → length of ≡ motes → AllByRecursion (λ worker. worker < workers) of → cut_fault motes workers of ≡ None
fits motes workers of may long there = rw (ne_eqb workers 0 (λ e. absurd (let h = may.0 in omega arith)), le-ltb 16 workers may.1, long, eq-eqb motes motes refl, all_there workers of there) refl

in_block : (motes workers mote : ℕ) → 0 < workers → mote < motes → (mote * workers) / motes < workers
in_block motes workers mote some less = (div-lt_iff_lt-mul (let h : 0 < motes = omega arith in h)).1 (let h : mote * workers < motes * workers = mul-lt-mul_of_pos_right less some in rw (mul_comm workers motes) h)

pub block_fits : (motes workers : ℕ) → 0 < motes → MayWork workers → cut_fault motes workers (block_cut motes workers) ≡ None
block_fits motes workers some may =
    fits motes workers (block_cut motes workers) may (length-map (up_to motes) (λ mote. (mote * workers) / motes) ∙ as_many motes)
    (every_map (λ worker. worker < workers) (λ mote. (mote * workers) / motes) (up_to motes)
    (every_weaker (λ mote. mote < motes) (λ mote. (mote * workers) / motes < workers) (λ mote less. in_block motes workers mote (let h = may.0 in omega arith) less) (up_to motes) (below_all motes)))

pub stripe_fits : (motes workers : ℕ) → 0 < motes → MayWork workers → cut_fault motes workers (stripe_cut motes workers) ≡ None
stripe_fits motes workers some may =
    fits motes workers (stripe_cut motes workers) may (length-map (up_to motes) (λ mote. mote % workers) ∙ as_many motes)
    (every_map (λ worker. worker < workers) (λ mote. mote % workers) (up_to motes)
    (every_weaker (λ mote. mote < motes) (λ mote. mote % workers < workers) (λ mote less. mod_below mote workers (let h = may.0 in omega arith)) (up_to motes) (below_all motes)))

-- Takes and signals of a semaphore, one after another.
use Rattle.std.proofs.Common.{◌≡◌, ℕ, ◌+◌, ◌-◌, ◌%◌, ◌^◌, List, [], ◌∷◌, refl, ap, sym, ◌∙◌, arith}
use Rattle.std.proofs.Math.Nat.{mod-add-mod}
use Rattle.protothread.specs.Semaphores.{Use, takes, signals, Counts, taken, signalled, CountsAreSignalsLessTakes}

-- one more is added on both sides
next_alike : (m a b : ℕ) → a % m ≡ b % m → (a + 1) % m ≡ (b + 1) % m
next_alike m a b h = sym (mod-add-mod a m 1) ∙ ap (λ r. (r + 1) % m) h ∙ mod-add-mod b m 1

counted : (m : ℕ) (start : ℕ) (us : List Use) (count : ℕ) → m ≡ 2 ^ 16 → Counts start us count → (count + taken us) % m ≡ (start + signalled us) % m
counted m start [] count e h = ap (λ n. (n + 0) % m) (sym h)
counted m start (takes ∷ us) count e h =
    let one : count + (1 + taken us) ≡ count + taken us + 1 = omega arith in
    let all : start - 1 + signalled us + 1 ≡ start + signalled us = omega (arith, h.0) in
    ap (λ n. n % m) one ∙ next_alike m (count + taken us) (start - 1 + signalled us) (counted m (start - 1) us count e h.1) ∙ ap (λ n. n % m) all
counted m start (signals ∷ us) count e h =
    let all : start + 1 + signalled us ≡ start + (1 + signalled us) = omega arith in
    counted m ((start + 1) % 2 ^ 16) us count e h ∙ ap (λ k. ((start + 1) % k + signalled us) % m) (sym e)
    ∙ mod-add-mod (start + 1) m (signalled us) ∙ ap (λ n. n % m) all

pub counts : CountsAreSignalsLessTakes
counts start uses count h = counted (2 ^ 16) start uses count refl h

-- Nested spawned threads, the outermost first.
use Rattle.std.specs.Prelude.{◌≡◌, ℕ, ◌<◌, min, true, List, [], ◌∷◌, ◌++◌, Option, None, Some}
use Rattle.program_tree.specs.Scope.{block_fits, earlier_threads}
use Rattle.program_tree.specs.Tree.{Body}
use Rattle.protothread.specs.declared.calls.Call.{Call}

-- A thread can spawn the threads below this number. A process has at most 7 threads, and each thread spawns only
-- threads with lower numbers.
abbrev pub before_number : (thread : ℕ) → ℕ
before_number t = min 7 t

-- each thread can be spawned by the thread around it; the number of the outermost thread is below `n`
abbrev pub Fall : (n : ℕ) → List Call → Type 0
Fall n [] = Unit {0}
Fall n (c ∷ cs) = (c.thread < n) × Fall (before_number c.thread) cs

-- nested threads of a part, which may spawn any thread
abbrev pub AreNested : List Call → Type 0
AreNested [] = Unit {0}
AreNested (c ∷ cs) = Fall (before_number c.thread) cs

-- the innermost thread can spawn the threads below this number
abbrev pub below_last : (n : ℕ) → List Call → ℕ
below_last n [] = n
below_last n (c ∷ cs) = below_last (before_number c.thread) cs

-- the innermost thread, or the part if no thread is spawned, can spawn this thread
abbrev pub CanSpawn : List Call → (thread : ℕ) → Type 0
CanSpawn [] t = Unit {0}
CanSpawn (c ∷ cs) t = t < below_last (before_number c.thread) cs

-- the block of the innermost thread spawns only threads that the innermost thread can spawn; the block of a part may
-- spawn any thread
abbrev pub SpawnsSo : List Call → Body ℕ → Type 0
SpawnsSo [] b = Unit {0}
SpawnsSo (c ∷ cs) b = block_fits (earlier_threads (below_last (before_number c.thread) cs)) b ≡ true

-- the innermost thread, if any thread is spawned
abbrev pub IsLast : List Call → Option Call → Type 0
IsLast cs None = cs ≡ []
IsLast cs (Some c) = (before : List Call) × (cs ≡ before ++ c ∷ [])

-- The results of the joined threads.
use Rattle.std.specs.Prelude.{◌≡◌, List}
use Rattle.std.specs.List.{AllZip}
use Rattle.std.specs.declared.thread.PromisedHandle.{PromisedHandle}
use Rattle.fork_join.specs.declared.fork.Promised.{Promised}

-- the handle of a worker's thread; the thread's result has the type A
abbrev pub Handle : (A W T : Type 0) → Type 0
Handle A W T = PromisedHandle A (Promised W T)

-- each result is the result that its thread promised
abbrev pub AllKept : {A W T : Type 0} → (W → T → T → Type 0) → List (Handle A W T) → List T → Type 0
AllKept makes handles done = AllZip
    (λ handle worker. makes handle.promise.work.value handle.promise.worker.value worker) handles done

-- each thread promised the result of the work on its worker
abbrev pub AllPromised : {A W T : Type 0} → W → List T → List (Handle A W T) → Type 0
AllPromised work workers handles =
    AllZip (λ worker handle. (handle.promise.work.value ≡ work) × (handle.promise.worker.value ≡ worker))
    workers handles

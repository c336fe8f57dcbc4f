use Rattle.std.proofs.Common.{◌≡◌, ℕ, ◌+◌, ◌++◌, List, take}
use Rattle.std.specs.List.{All}
use Rattle.survey.specs.Search.{Course, IsAt, IsTask, sets_of}
use Rattle.survey.proofs.batch.run_waiting.Given as goal

abbrev pub invariant-loop-place : goal.invariant-loop-place
invariant-loop-place g l =
    let runs = g.T.Trial.runs l.trial in
    record {
      waiting : l.level.waiting.items ≡ l.fn.level.waiting.items;
      trials : l.level.trials ≡ l.fn.level.trials + l.place;
      at : (course : Course) (done : List (List ℕ)) → IsAt runs course done l.fn.level
          → All (IsTask runs course.size course.goes_on) l.fn.level.waiting.items
          → IsAt runs course (done ++ take l.place (sets_of l.fn.level.waiting.items)) l.level;
    }

-- The traces of the motes of a net.
use Rattle.std.specs.Prelude.{ℕ, ◌≡◌, ◌++◌, List, Vec, slice_index_or, slice_set}
use Rattle.std.specs.declared.alloc.Global.{Global}
use Rattle.trace_lines.specs.declared.line.Line.{Line}

-- one trace has these lines added at its end
pub record AddsLines (k : ℕ) (lines : List Line) (old new : List (Vec Line Global)) : Type 0 where
  pub after : Vec Line Global
  pub put : new ≡ slice_set old k after
  pub added : (d : Vec Line Global) → after.items ≡ (slice_index_or old k d).items ++ lines

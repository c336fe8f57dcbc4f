-- The output of a kernel's runs.
use Rattle.std.specs.Prelude.{◌≡◌, ◌++◌, List}
use Rattle.radio_packet.specs.declared.sent.Sent.{Sent}
use Rattle.trace_lines.specs.declared.line.Line.{Line}
use Rattle.trace_lines.specs.declared.out.Out.{Out}

-- the new lines and packets begin with the old ones
pub record BeginsWith (old new : Out) : Type 0 where
  pub lines : (more : List Line) × (new.lines.items ≡ old.lines.items ++ more)
  pub sends : (more : List Sent) × (new.sends.items ≡ old.sends.items ++ more)

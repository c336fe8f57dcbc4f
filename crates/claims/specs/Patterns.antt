-- Patterns of lines.
use Rattle.std.specs.Prelude.{Bool, ◌&&◌}
use Rattle.std.specs.List.{list_any}
use Rattle.claims.specs.declared.pattern.Pattern.{Pattern}
use Rattle.trace_lines.specs.declared.line.What.{What}
use Rattle.claims.specs.declared.what.Said.{Said}
use Rattle.claims.specs.Sets.{wants}
use Rattle.claims.specs.Processes.{wants_target}
use Rattle.claims.specs.Whats.{is_of, said_by}

-- each part of the line is wanted
abbrev pub wants_all : Pattern → Said → Bool
wants_all p s = wants_target p.target s.target && (wants p.serial s.serial && (wants p.event s.event
    && (wants p.sender s.sender && (wants p.packet s.packet && wants p.value s.value))))

-- the line is of one of the kinds
abbrev pub has_kind : Pattern → What → Bool
has_kind p w = list_any (λ k. is_of k w) p.kinds.items

-- the line is of one of the kinds, and each part of it is wanted
abbrev pub fits : Pattern → What → Bool
fits p w = has_kind p w && wants_all p (said_by w)

-- Lines before and after other lines.
use Rattle.std.specs.Prelude.{Bool, ◌&&◌, ◌||◌, ◌==◌, not, nat_lt, nat_le, ◌+◌, if◌then◌else◌}
use Rattle.std.specs.List.{list_any}
use Rattle.mote_net.specs.Report.{ReportModel}
use Rattle.claims.specs.declared.trace.Found.{Found}
use Rattle.claims.specs.declared.order.Order.{Order}
use Rattle.claims.specs.declared.order.Relation.{Relation}
use Rattle.claims.specs.declared.order.Relation.TheVariants.{After, NotBefore, Within, Followed}
use Rattle.claims.specs.Traces.{lines_of}

-- a is before b: at an earlier moment, or at the same moment further up in the same trace
abbrev pub is_before : Found → Found → Bool
is_before a b = nat_lt a.line.at b.line.at || (a.line.at == b.line.at && (a.mote == b.mote && nat_lt a.place b.place))

-- a is before b, or at the same moment at another mote
abbrev pub is_beside_or_before : Found → Found → Bool
is_beside_or_before a b = is_before a b || (a.line.at == b.line.at && not (a.mote == b.mote))

abbrev pub is_related : Relation → Found → Found → Bool
is_related After line event = is_before event line
is_related NotBefore line event = not (is_before line event)
is_related (Within k) line event = is_beside_or_before event line && nat_le line.line.at (event.line.at + k)
is_related (Followed k) line event = is_beside_or_before line event && nat_le event.line.at (line.line.at + k)

-- the line has the relation to some line of the event, or to none if the order says so
abbrev pub is_ordered : Order → ReportModel → Found → Bool
is_ordered o r line = (let some = list_any (is_related o.relation line) (lines_of r o.event) in
    if o.is_so then some else not some)

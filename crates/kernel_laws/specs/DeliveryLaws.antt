-- The laws of the delivery machine: each of its traces hands events on in order (`HandedOn`), has no line after a
-- halt, and starts only processes that aren't on the process list.
use Rattle.std.specs.Prelude.{List}
use Rattle.kernel_laws.specs.HandedOn.{Line, HandedOn}
use Rattle.kernel_laws.specs.StartsAndHalts.{HaltIsLast, StartsTheUnlisted}
use Rattle.kernel_laws.specs.Delivery.{IsTrace}

-- whatever processes and events the machine starts, posts and removes, and whenever it halts, its lines have the
-- property `HandedOn`
abbrev pub DeliveryHandsOn : Type 0
DeliveryHandsOn = (lines : List Line) → IsTrace lines → HandedOn lines

abbrev pub DeliveryHaltsLast : Type 0
DeliveryHaltsLast = (lines : List Line) → IsTrace lines → HaltIsLast lines

abbrev pub DeliveryStartsTheUnlisted : Type 0
DeliveryStartsTheUnlisted = (lines : List Line) → IsTrace lines → StartsTheUnlisted lines

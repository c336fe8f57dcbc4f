-- The kinds of synchronisation between workers, and the inboxes that each needs.
use Rattle.std.specs.Prelude.{◌≡◌, Bool, true, false}
use Rattle.copy_inbox.specs.Handles.{TakerView}
use Rattle.window_workers.specs.declared.sync.SyncKind.{SyncKind}
use Rattle.window_workers.specs.declared.sync.SyncKind.TheVariants.{Joins, Marks}

abbrev pub has_marks : SyncKind → Bool
has_marks Joins = false
has_marks Marks = true

-- the inbox fits this kind
abbrev pub IsForKind : SyncKind → TakerView → Type 0
IsForKind sync t = t.state.marked ≡ has_marks sync

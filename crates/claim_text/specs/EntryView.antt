-- Cases as the printer has them.
use Rattle.std.specs.Prelude.{string_bytes}
use Rattle.claim_text.specs.declared.group.Entry.{Entry as EntryOfCode}
use Rattle.claim_text.specs.Groups.{Entry}

abbrev pub view_of : EntryOfCode → Entry
view_of e = record { mote = e.mote; body = string_bytes e.body }

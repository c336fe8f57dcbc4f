-- The length of a window, and its end.
use Rattle.std.specs.Prelude.{ℕ, ◌≡◌, ◌+◌, min, nat_lt, ◌&&◌, if◌then◌else◌, length, None}
use Rattle.radio_medium.specs.Medium.{medium_fault}
use Rattle.mote_net.specs.Net.{NetModel}

-- the medium of a net is sound: it has no error, and it has a place for each mote
abbrev pub HasSoundMedium : NetModel → Type 0
HasSoundMedium n = (medium_fault n.radio ≡ None) × (length n.radio.places ≡ length n.motes)

-- a window is as long as the lookahead, or as `longest` if that is shorter and not 0
abbrev pub length_of_window : (lookahead longest : ℕ) → ℕ
length_of_window lookahead longest = if nat_lt 0 longest && nat_lt longest lookahead then longest else lookahead

-- the moment before which the window ends
abbrev pub end_of_window : (end width from : ℕ) → ℕ
end_of_window end width from = min (from + width) (end + 1)

-- Laws of marks.
use Rattle.std.specs.Prelude.{ℕ, ◌≡◌, ◌<◌, ◌≤◌, Bool, false, List}
use Rattle.std.specs.List.{filter, AllByRecursion as Each}
use Rattle.radio_packet.specs.declared.copy.RadioCopy.{RadioCopy}
use Rattle.copy_inbox.specs.declared.items.Carried.{Carried}
use Rattle.copy_inbox.specs.Items.{HasPrefix}
use Rattle.copy_exchange.specs.Takers.{copies_in}
use Rattle.copy_exchange.specs.Pushes.{marks_in, pushes, sent_before}

-- the items taken from a sender are a prefix of the items that it pushed; once a mark of each window was taken, they
-- are all items that it pushed
abbrev pub AllIsTaken : Type 0
AllIsTaken = (windows : ℕ) (sent : ℕ → List RadioCopy) (taken : List Carried) → HasPrefix (pushes windows sent) taken
    → windows ≤ marks_in taken → taken ≡ pushes windows sent

-- Suppose that no copy that is sent in this window or a later one passes a test, that the items taken from a sender are
-- a prefix of those that it pushed, and that the marks of all windows before this one were taken. Then the copies that
-- pass the test are the same among the copies taken and among the copies sent before the window.
abbrev pub EarlyIsUnseen : Type 0
EarlyIsUnseen = (sees : RadioCopy → Bool) (windows window : ℕ) (sent : ℕ → List RadioCopy) (taken : List Carried)
    → window ≤ windows → HasPrefix (pushes windows sent) taken → window ≤ marks_in taken
    → ((k : ℕ) → window ≤ k → k < windows → Each (λ copy. sees copy ≡ false) (sent k))
    → filter sees (copies_in taken) ≡ filter sees (sent_before window sent)

-- Statements that begin with a keyword and have no block, and the trees of these statements, grouped by the operands
-- after the keyword.
use Rattle.std.specs.Prelude.{ℕ, Option, Some}
use Rattle.program_tree.specs.Forms.{Beginning, action, beginning}
use Rattle.program_reader.specs.Steps.{IsPlain}
use Rattle.program_tree.specs.Tokens as token
use Rattle.program_tree.specs.Tokens.{Token}
use Rattle.program_tree.specs.Tree as tree
use Rattle.program_tree.specs.Tree.{Class, a_semaphore, a_process, a_timer, a_thread, Expression, Action}
use Rattle.program_tree.specs.declared.keyword.Keyword.{Keyword}
use Rattle.program_tree.specs.declared.keyword.Keyword.TheVariants as word
use Rattle.program_reader.specs.declared.plain.Bare.{Bare}
use Rattle.program_reader.specs.declared.plain.Bare.TheVariants as bare
use Rattle.program_reader.specs.declared.plain.Valued.{Valued}
use Rattle.program_reader.specs.declared.plain.Valued.TheVariants as valued
use Rattle.program_reader.specs.declared.plain.About.{About}
use Rattle.program_reader.specs.declared.plain.About.TheVariants as about
use Rattle.program_reader.specs.declared.plain.Plain.{Plain}
use Rattle.program_reader.specs.declared.plain.Plain.TheVariants as plain

-- a keyword that begins no statement without a block
abbrev pub IsNoAction : Beginning → Type 0
IsNoAction (action f) = ⊥
IsNoAction b = Unit {0}

-- the first token of a statement without a block; or a token that begins no statement, except `}`; or the end of the
-- text
abbrev pub BeginsPlain : Option Token → Type 0
BeginsPlain (Some token.CloseBrace) = ⊥
BeginsPlain (Some (token.Keyword k)) = IsPlain (beginning k)
BeginsPlain t = Unit {0}

abbrev pub bare_keyword : Bare → Keyword
bare_keyword bare.Yield = word.Yield
bare_keyword bare.Restart = word.Restart
bare_keyword bare.Exit = word.Exit
bare_keyword bare.Pause = word.Pause

abbrev pub bare_action : Bare → Action ℕ
bare_action bare.Yield = tree.yield
bare_action bare.Restart = tree.restart
bare_action bare.Exit = tree.exit
bare_action bare.Pause = tree.pause

abbrev pub valued_keyword : Valued → Keyword
valued_keyword valued.Print = word.Print
valued_keyword valued.Send = word.Send
valued_keyword valued.WaitUntil = word.WaitUntil
valued_keyword valued.WaitWhile = word.WaitWhile
valued_keyword valued.YieldUntil = word.YieldUntil

abbrev pub valued_action : Valued → Expression ℕ → Action ℕ
valued_action valued.Print e = tree.print e
valued_action valued.Send e = tree.send e
valued_action valued.WaitUntil e = tree.wait_until e
valued_action valued.WaitWhile e = tree.wait_while e
valued_action valued.YieldUntil e = tree.yield_until e

abbrev pub about_keyword : About → Keyword
about_keyword about.Spawn = word.Spawn
about_keyword about.Acquire = word.Acquire
about_keyword about.Signal = word.Signal
about_keyword about.Poll = word.Poll
about_keyword about.Start = word.Start
about_keyword about.Kill = word.Kill
about_keyword about.Reset = word.Reset
about_keyword about.RestartTimer = word.RestartTimer
about_keyword about.Stop = word.Stop

abbrev pub about_class : About → Class
about_class about.Spawn = a_thread
about_class about.Acquire = a_semaphore
about_class about.Signal = a_semaphore
about_class about.Poll = a_process
about_class about.Start = a_process
about_class about.Kill = a_process
about_class about.Reset = a_timer
about_class about.RestartTimer = a_timer
about_class about.Stop = a_timer

abbrev pub about_action : About → ℕ → Action ℕ
about_action about.Spawn i = tree.spawn i
about_action about.Acquire i = tree.acquire i
about_action about.Signal i = tree.signal i
about_action about.Poll i = tree.poll i
about_action about.Start i = tree.start i
about_action about.Kill i = tree.kill i
about_action about.Reset i = tree.reset i
about_action about.RestartTimer i = tree.restart_timer i
about_action about.Stop i = tree.stop i

abbrev pub plain_keyword : Plain → Keyword
plain_keyword (plain.Bare b) = bare_keyword b
plain_keyword (plain.Valued v) = valued_keyword v
plain_keyword (plain.About a) = about_keyword a
plain_keyword plain.Post = word.Post
plain_keyword plain.Broadcast = word.Broadcast
plain_keyword plain.Synch = word.Synch
plain_keyword plain.Set = word.Set

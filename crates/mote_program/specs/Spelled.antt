-- The tokens of a program's parts, with names as they are written.
use Rattle.std.specs.Prelude.{List, [], ◌∷◌, ◌++◌, map, drop, slice_index_or, Option, None, Some, option_map}
use Rattle.std.specs.List.{flat_map, zip}
use Rattle.program_tree.specs.Code.{Tree}
use Rattle.program_tree.specs.EventNames.{BroadcastEvent, PostedEvent, TestedEvent}
use Rattle.program_tree.specs.Grammar.{cast_mark, sent_mark, any_mark}
use Rattle.program_tree.specs.InScope.{NamesInScope, name_in}
use Rattle.program_tree.specs.Program.{code_of, tree_of}
use Rattle.program_tree.specs.ShapeOf.{names_of_tree, names_of_code, codes_of_tree}
use Rattle.program_tree.specs.Shapes.{Name, Valued, Named, CodeShape}
use Rattle.program_tree.specs.Tokens.{Token, Keyword, Semicolon, Comma, Equals, Bang, Open, Close, OpenBrace}
use Rattle.program_tree.specs.Tokens.{CloseBrace, Op, Name as AName, Number}
use Rattle.program_tree.specs.Tree.{a_process, Expression, number, variable, sender, moment, mote, is, fired, expired}
use Rattle.program_tree.specs.Tree.{gone, running, count, negation, binary, Action, assign, print, send, wait_until}
use Rattle.program_tree.specs.Tree.{wait_while, yield, yield_until, spawn, restart, exit, pause, acquire, signal, post}
use Rattle.program_tree.specs.Tree.{broadcast, synch, poll, start, kill, set, reset, restart_timer, stop, Statement}
use Rattle.program_tree.specs.Tree.{does, branch, while, Body, end, next, Otherwise, nothing, otherwise}
use Rattle.program_tree.specs.Tree as tree
use Rattle.program_tree.specs.declared.keyword.Keyword.{Keyword as KeywordRead}
use Rattle.program_tree.specs.declared.keyword.Keyword.TheVariants as word
use Rattle.mote_program.specs.declared.unparse.Scoped.{Scoped}

-- all names that are in scope in a code
abbrev pub names_in : Scoped → NamesInScope
names_in s = names_of_code (names_of_tree (tree_of s.program.now)) (code_of s.code.now)

abbrev pub cast_token : BroadcastEvent Name → Token
cast_token e = (cast_mark e).token

abbrev pub sent_token : PostedEvent Name → Token
sent_token e = (sent_mark e).token

abbrev pub any_token : TestedEvent Name → Token
any_token e = (any_mark e).token

-- a keyword, and a token in parentheses after it
abbrev pub telling : KeywordRead → Token → List Token
telling k t = Keyword k ∷ Open ∷ t ∷ Close ∷ []

abbrev pub expression_tokens : Expression Name → List Token
expression_tokens (number n) = Number n ∷ []
expression_tokens (variable x) = AName x ∷ []
expression_tokens tree.word = Keyword word.Data ∷ []
expression_tokens sender = Keyword word.From ∷ []
expression_tokens moment = Keyword word.Now ∷ []
expression_tokens mote = Keyword word.Own ∷ []
expression_tokens (is e) = telling word.Is (any_token e)
expression_tokens (fired t) = telling word.Fired (AName t)
expression_tokens (expired t) = telling word.Expired (AName t)
expression_tokens (gone p) = telling word.Gone (AName p)
expression_tokens (running p) = telling word.Running (AName p)
expression_tokens (count s) = telling word.Count (AName s)
expression_tokens (negation e) = Bang ∷ expression_tokens e
expression_tokens (binary o a b) = Open ∷ (expression_tokens a ++ (Op o ∷ (expression_tokens b ++ (Close ∷ []))))

abbrev pub into_tokens : Option Name → List Token
into_tokens None = Semicolon ∷ []
into_tokens (Some x) = Keyword word.Into ∷ AName x ∷ Semicolon ∷ []

-- statements that consist only of a keyword, and statements with a name or an expression after the keyword
abbrev pub bare : KeywordRead → List Token
bare k = Keyword k ∷ Semicolon ∷ []

abbrev pub about : KeywordRead → Name → List Token
about k x = Keyword k ∷ AName x ∷ Semicolon ∷ []

abbrev pub valued : KeywordRead → Expression Name → List Token
valued k e = Keyword k ∷ (expression_tokens e ++ (Semicolon ∷ []))

abbrev pub action_tokens : Action Name → List Token
action_tokens (assign x e) = AName x ∷ Equals ∷ (expression_tokens e ++ (Semicolon ∷ []))
action_tokens (print e) = valued word.Print e
action_tokens (send e) = valued word.Send e
action_tokens (wait_until e) = valued word.WaitUntil e
action_tokens (wait_while e) = valued word.WaitWhile e
action_tokens yield = bare word.Yield
action_tokens (yield_until e) = valued word.YieldUntil e
action_tokens (spawn t) = about word.Spawn t
action_tokens restart = bare word.Restart
action_tokens exit = bare word.Exit
action_tokens pause = bare word.Pause
action_tokens (acquire s) = about word.Acquire s
action_tokens (signal s) = about word.Signal s
action_tokens (post p e w i) = Keyword word.Post ∷ AName p ∷ sent_token e ∷ (expression_tokens w ++ into_tokens i)
action_tokens (broadcast e w i) = Keyword word.Broadcast ∷ cast_token e ∷ (expression_tokens w ++ into_tokens i)
action_tokens (synch p e w) = Keyword word.Synch ∷ AName p ∷ sent_token e ∷ (expression_tokens w ++ (Semicolon ∷ []))
action_tokens (poll p) = about word.Poll p
action_tokens (start p) = about word.Start p
action_tokens (kill p) = about word.Kill p
action_tokens (set t e) = Keyword word.Set ∷ AName t ∷ (expression_tokens e ++ (Semicolon ∷ []))
action_tokens (reset t) = about word.Reset t
action_tokens (restart_timer t) = about word.RestartTimer t
action_tokens (stop t) = about word.Stop t

abbrev mutual
  pub statement_tokens : Statement Name → List Token
  statement_tokens (does a) = action_tokens a
  statement_tokens (branch e a o) = Keyword word.If
      ∷ (expression_tokens e ++ ((OpenBrace ∷ items_tokens a) ++ else_tokens o))
  statement_tokens (while e a) = Keyword word.While ∷ (expression_tokens e ++ (OpenBrace ∷ items_tokens a))

  -- the statements of a block, and its closing brace
  pub items_tokens : Body Name → List Token
  items_tokens end = CloseBrace ∷ []
  items_tokens (next s b) = statement_tokens s ++ items_tokens b

  pub else_tokens : Otherwise Name → List Token
  else_tokens nothing = []
  else_tokens (otherwise b) = Keyword word.Else ∷ OpenBrace ∷ items_tokens b

abbrev pub block_tokens : Body Name → List Token
block_tokens b = OpenBrace ∷ items_tokens b

-- declarations of names, of names with values, and of names with blocks
abbrev pub listed_tokens : KeywordRead → Name → List Token
listed_tokens k x = Keyword k ∷ AName x ∷ Semicolon ∷ []

abbrev pub valued_tokens : KeywordRead → Valued → List Token
valued_tokens k v = Keyword k ∷ AName v.0 ∷ Equals ∷ Number v.1 ∷ Semicolon ∷ []

abbrev pub named_tokens : KeywordRead → Named → List Token
named_tokens k b = Keyword k ∷ AName b.0 ∷ block_tokens b.1

abbrev pub handler_tokens : KeywordRead → Option (Body Name) → List Token
handler_tokens k None = []
handler_tokens k (Some b) = Keyword k ∷ block_tokens b

-- the declarations of a code, and the blocks that the process runs, with the last brace
abbrev pub declared_tokens : CodeShape → List Token
declared_tokens c =
    flat_map (valued_tokens word.Var) c.variables ++ (flat_map (listed_tokens word.Etimer) c.etimers
    ++ (flat_map (named_tokens word.Ctimer) c.ctimers ++ flat_map (named_tokens word.Thread) c.threads))

abbrev pub runs_tokens : CodeShape → List Token
runs_tokens c = handler_tokens word.OnPoll c.on_poll
    ++ (handler_tokens word.OnExit c.on_exit ++ (Keyword word.Body ∷ (block_tokens c.body ++ (CloseBrace ∷ []))))

abbrev pub code_tokens : Name × CodeShape → List Token
code_tokens p = Keyword word.Code ∷ AName p.0 ∷ OpenBrace ∷ (declared_tokens p.1 ++ runs_tokens p.1)

-- a name after a comma
abbrev pub comma_tokens : Name → List Token
comma_tokens x = Comma ∷ AName x ∷ []

abbrev pub names_tokens : KeywordRead → Name → (others : List Name) → List Token
names_tokens k x xs = Keyword k ∷ AName x ∷ (flat_map comma_tokens xs ++ (Semicolon ∷ []))

abbrev pub process_tokens : List Name → List Token
process_tokens names = names_tokens word.Process (slice_index_or names 0 []) (drop 1 names)

abbrev pub autostart_tokens : List Name → List Token
autostart_tokens [] = []
autostart_tokens (x ∷ xs) = names_tokens word.Autostart x xs

abbrev pub receiver_tokens : Option Name → List Token
receiver_tokens None = []
receiver_tokens (Some x) = about word.Receiver x

abbrev pub head_tokens : (events : List Name) → List Valued → (processes autostart : List Name) → Option Name
    → List Token
head_tokens es ss ps st r =
    flat_map (listed_tokens word.Event) es ++ (flat_map (valued_tokens word.Semaphore) ss
    ++ (process_tokens ps ++ (autostart_tokens st ++ receiver_tokens r)))

-- the tokens of the program with this tree
abbrev pub spelled_tokens : Tree → List Token
spelled_tokens t =
    head_tokens t.events (zip t.semaphores t.counts) t.processes
    (map (name_in (names_of_tree t) a_process) t.autostart)
    (option_map (name_in (names_of_tree t) a_process) t.receiver)
    ++ flat_map code_tokens (codes_of_tree t)

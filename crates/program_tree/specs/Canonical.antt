-- The canonical text of tokens: the spelling of each token, and the white space between it and the next token.
use Rattle.std.specs.Prelude.{ℕ, zero, suc, ◌+◌, ◌-◌, Bool, true, false, List, [], ◌∷◌, ◌++◌, codes, if◌then◌else◌}
use Rattle.std.specs.Fmt.{decimal}
use Rattle.program_tree.specs.Tokens as token
use Rattle.program_tree.specs.Tokens.{Token}
use Rattle.program_tree.specs.declared.keyword.Keyword.{Keyword}
use Rattle.program_tree.specs.declared.keyword.Keyword.TheVariants as word
use Rattle.program_tree.specs.declared.tree.Operator.{Operator}
use Rattle.program_tree.specs.declared.tree.Operator.TheVariants as operator

-- the spelling of a keyword
abbrev pub keyword_word : Keyword → List ℕ
keyword_word word.Event = codes "event"
keyword_word word.Semaphore = codes "semaphore"
keyword_word word.Process = codes "process"
keyword_word word.Autostart = codes "autostart"
keyword_word word.Receiver = codes "receiver"
keyword_word word.Code = codes "code"
keyword_word word.Var = codes "var"
keyword_word word.Etimer = codes "etimer"
keyword_word word.Ctimer = codes "ctimer"
keyword_word word.Thread = codes "thread"
keyword_word word.OnPoll = codes "onpoll"
keyword_word word.OnExit = codes "onexit"
keyword_word word.Body = codes "body"
keyword_word word.Print = codes "print"
keyword_word word.Send = codes "send"
keyword_word word.If = codes "if"
keyword_word word.Else = codes "else"
keyword_word word.While = codes "while"
keyword_word word.WaitUntil = codes "wait_until"
keyword_word word.WaitWhile = codes "wait_while"
keyword_word word.Yield = codes "yield"
keyword_word word.YieldUntil = codes "yield_until"
keyword_word word.Spawn = codes "spawn"
keyword_word word.Restart = codes "restart"
keyword_word word.Exit = codes "exit"
keyword_word word.Pause = codes "pause"
keyword_word word.Acquire = codes "acquire"
keyword_word word.Signal = codes "signal"
keyword_word word.Post = codes "post"
keyword_word word.Broadcast = codes "broadcast"
keyword_word word.Synch = codes "synch"
keyword_word word.Poll = codes "poll"
keyword_word word.Start = codes "start"
keyword_word word.Kill = codes "kill"
keyword_word word.Set = codes "set"
keyword_word word.Reset = codes "reset"
keyword_word word.RestartTimer = codes "restart_timer"
keyword_word word.Stop = codes "stop"
keyword_word word.Into = codes "into"
keyword_word word.Continue = codes "continue"
keyword_word word.Msg = codes "msg"
keyword_word word.Com = codes "com"
keyword_word word.Packet = codes "packet"
keyword_word word.Init = codes "init"
keyword_word word.Exited = codes "exited"
keyword_word word.Timer = codes "timer"
keyword_word word.Data = codes "data"
keyword_word word.From = codes "from"
keyword_word word.Now = codes "now"
keyword_word word.Own = codes "self"
keyword_word word.Is = codes "is"
keyword_word word.Fired = codes "fired"
keyword_word word.Expired = codes "expired"
keyword_word word.Gone = codes "gone"
keyword_word word.Running = codes "running"
keyword_word word.Count = codes "count"
keyword_word word.Radio = codes "radio"
keyword_word word.All = codes "all"

-- the spelling of an operator
abbrev pub operator_sign : Operator → List ℕ
operator_sign operator.Add = codes "+"
operator_sign operator.Subtract = codes "-"
operator_sign operator.Multiply = codes "*"
operator_sign operator.Divide = codes "/"
operator_sign operator.Remainder = codes "%"
operator_sign operator.Equal = codes "=="
operator_sign operator.Unequal = codes "!="
operator_sign operator.Less = codes "<"
operator_sign operator.AtMost = codes "<="
operator_sign operator.Greater = codes ">"
operator_sign operator.AtLeast = codes ">="
operator_sign operator.And = codes "&&"
operator_sign operator.Or = codes "||"

-- a bad token has an empty spelling; no program has a bad token
abbrev pub spelling : Token → List ℕ
spelling (token.Keyword k) = keyword_word k
spelling token.Semicolon = codes ";"
spelling token.Comma = codes ","
spelling token.Equals = codes "="
spelling token.Bang = codes "!"
spelling token.Open = codes "("
spelling token.Close = codes ")"
spelling token.OpenBrace = codes "{"
spelling token.CloseBrace = codes "}"
spelling (token.Op o) = operator_sign o
spelling (token.Name x) = x
spelling (token.Number n) = decimal n
spelling token.Bad = []

-- the number of open braces after a token, given the number before it
abbrev pub braces_behind : (braces : ℕ) → Token → ℕ
braces_behind braces token.OpenBrace = braces + 1
braces_behind braces token.CloseBrace = braces - 1
braces_behind braces t = braces

-- the keywords that have a `(` after them without a space
abbrev pub tells : Keyword → Bool
tells word.Is = true
tells word.Fired = true
tells word.Expired = true
tells word.Gone = true
tells word.Running = true
tells word.Count = true
tells k = false

-- Each of the next two definitions has two arguments: a token, and the tokens after it.

-- the token ends its line
abbrev pub ends_line : Token → List Token → Bool
ends_line token.Semicolon rest = true
ends_line token.OpenBrace rest = true
ends_line token.CloseBrace (token.Keyword word.Else ∷ rest) = false
ends_line token.CloseBrace rest = true
ends_line t rest = false

-- there is no space between the token and the next one
abbrev pub is_close : Token → List Token → Bool
is_close token.Open rest = true
is_close token.Bang rest = true
is_close t (token.Semicolon ∷ rest) = true
is_close t (token.Comma ∷ rest) = true
is_close t (token.Close ∷ rest) = true
is_close (token.Keyword k) (token.Open ∷ rest) = tells k
is_close t rest = false

-- the depth of a line that begins with these tokens; a closing brace has the depth of the line that opened it
abbrev pub line_depth : (braces : ℕ) → List Token → ℕ
line_depth braces (token.CloseBrace ∷ rest) = braces - 1
line_depth braces rest = braces

-- two spaces for each open brace
abbrev pub indentation : ℕ → List ℕ
indentation zero = []
indentation (suc n) = codes "  " ++ indentation n

-- the white space after a token, if this many braces are open
abbrev pub gap : (braces : ℕ) → Token → (rest : List Token) → List ℕ
gap braces t rest =
    if ends_line t rest then 10 ∷ indentation (line_depth braces rest)
    else if is_close t rest then []
    else codes " "

-- the text of tokens, if this many braces are open before them
abbrev pub text_from : (braces : ℕ) → List Token → List ℕ
text_from braces [] = []
text_from braces (t ∷ rest) =
    spelling t ++ (gap (braces_behind braces t) t rest ++ text_from (braces_behind braces t) rest)

-- the text of tokens, with no brace open before them
abbrev pub canonical_text : List Token → List ℕ
canonical_text ts = text_from 0 ts

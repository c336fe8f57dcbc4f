-- Words (runs of letters, digits and `_`), and their tokens.
use Rattle.std.specs.Prelude.{ℕ, Bool, false, not, ◌&&◌, ◌||◌, ◌==◌, nat_le, min, if◌then◌else◌, List, [], ◌∷◌, length}
use Rattle.std.specs.Prelude.{codes, bytes_eq, Option, Some, None, unwrap_or}
use Rattle.std.specs.Char.{is_ascii_digit, is_ascii_lowercase}
use Rattle.std.specs.List.{list_all}
use Rattle.std.specs.Str.Parse.{digits_value}
use Rattle.program_tree.specs.Tokens.{Token, Keyword, Name, Number, Bad}
use Rattle.program_tree.specs.declared.keyword.Keyword.TheVariants as keyword

-- whether the first byte passes this test
abbrev pub begins : (ℕ → Bool) → List ℕ → Bool
begins test [] = false
begins test (b ∷ bs) = test b

-- `a` to `z`, `0` to `9` and `_`
abbrev pub is_word_byte : ℕ → Bool
is_word_byte b = is_ascii_lowercase b || is_ascii_digit b || b == 95

-- only digits, without a leading zero, except for `0` itself
abbrev pub is_number : List ℕ → Bool
is_number word = list_all is_ascii_digit word && (not (begins (λ b. b == 48) word) || length word == 1)

-- a letter, and at most 15 more characters
abbrev pub is_name : List ℕ → Bool
is_name word = begins is_ascii_lowercase word && nat_le (length word) 16

-- the token that a table has for a word
abbrev pub lookup : List (List ℕ × Token) → List ℕ → Option Token
lookup [] word = None
lookup (entry ∷ table) word = if bytes_eq entry.0 word then Some entry.1 else lookup table word

-- the words that a program can't use as names
unfoldable pub keywords : List (List ℕ × Token)
keywords =
    (codes "event", Keyword keyword.Event)
    ∷ (codes "semaphore", Keyword keyword.Semaphore)
    ∷ (codes "process", Keyword keyword.Process)
    ∷ (codes "autostart", Keyword keyword.Autostart)
    ∷ (codes "receiver", Keyword keyword.Receiver)
    ∷ (codes "code", Keyword keyword.Code)
    ∷ (codes "var", Keyword keyword.Var)
    ∷ (codes "etimer", Keyword keyword.Etimer)
    ∷ (codes "ctimer", Keyword keyword.Ctimer)
    ∷ (codes "thread", Keyword keyword.Thread)
    ∷ (codes "onpoll", Keyword keyword.OnPoll)
    ∷ (codes "onexit", Keyword keyword.OnExit)
    ∷ (codes "body", Keyword keyword.Body)
    ∷ (codes "print", Keyword keyword.Print)
    ∷ (codes "send", Keyword keyword.Send)
    ∷ (codes "if", Keyword keyword.If)
    ∷ (codes "else", Keyword keyword.Else)
    ∷ (codes "while", Keyword keyword.While)
    ∷ (codes "wait_until", Keyword keyword.WaitUntil)
    ∷ (codes "wait_while", Keyword keyword.WaitWhile)
    ∷ (codes "yield", Keyword keyword.Yield)
    ∷ (codes "yield_until", Keyword keyword.YieldUntil)
    ∷ (codes "spawn", Keyword keyword.Spawn)
    ∷ (codes "restart", Keyword keyword.Restart)
    ∷ (codes "exit", Keyword keyword.Exit)
    ∷ (codes "pause", Keyword keyword.Pause)
    ∷ (codes "acquire", Keyword keyword.Acquire)
    ∷ (codes "signal", Keyword keyword.Signal)
    ∷ (codes "post", Keyword keyword.Post)
    ∷ (codes "broadcast", Keyword keyword.Broadcast)
    ∷ (codes "synch", Keyword keyword.Synch)
    ∷ (codes "poll", Keyword keyword.Poll)
    ∷ (codes "start", Keyword keyword.Start)
    ∷ (codes "kill", Keyword keyword.Kill)
    ∷ (codes "set", Keyword keyword.Set)
    ∷ (codes "reset", Keyword keyword.Reset)
    ∷ (codes "restart_timer", Keyword keyword.RestartTimer)
    ∷ (codes "stop", Keyword keyword.Stop)
    ∷ (codes "into", Keyword keyword.Into)
    ∷ (codes "continue", Keyword keyword.Continue)
    ∷ (codes "msg", Keyword keyword.Msg)
    ∷ (codes "com", Keyword keyword.Com)
    ∷ (codes "packet", Keyword keyword.Packet)
    ∷ (codes "init", Keyword keyword.Init)
    ∷ (codes "exited", Keyword keyword.Exited)
    ∷ (codes "timer", Keyword keyword.Timer)
    ∷ (codes "data", Keyword keyword.Data)
    ∷ (codes "from", Keyword keyword.From)
    ∷ (codes "now", Keyword keyword.Now)
    ∷ (codes "self", Keyword keyword.Own)
    ∷ (codes "is", Keyword keyword.Is)
    ∷ (codes "fired", Keyword keyword.Fired)
    ∷ (codes "expired", Keyword keyword.Expired)
    ∷ (codes "gone", Keyword keyword.Gone)
    ∷ (codes "running", Keyword keyword.Running)
    ∷ (codes "count", Keyword keyword.Count)
    ∷ (codes "radio", Keyword keyword.Radio)
    ∷ (codes "all", Keyword keyword.All)
    ∷ []

-- the token of a word; all numbers above 65,535 have the same token
unfoldable pub word_token : List ℕ → Token
word_token word =
    if is_number word then Number (min (digits_value 10 word) 65536)
    else unwrap_or (lookup keywords word) (if is_name word then Name word else Bad)

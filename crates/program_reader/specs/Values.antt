-- The result of reading a part of an expression: a keyword with its operands, or the two sides of an operator.
use Rattle.std.specs.Prelude.{◌≡◌, ℕ, List, ◌∷◌}
use Rattle.program_tree.specs.Faults.{Scope}
use Rattle.program_tree.specs.Grammar.{Context, Mark, tokens, sign, expression_marks}
use Rattle.program_tree.specs.InScope.{NamesInScope, name_in}
use Rattle.program_reader.specs.Machine.{Pending, tell, expression, operator, close}
use Rattle.program_reader.specs.Steps.{Extends}
use Rattle.program_tree.specs.Tokens as token
use Rattle.program_tree.specs.Tokens.{Token}
use Rattle.program_tree.specs.Tree as tree
use Rattle.program_tree.specs.Tree.{Class, a_semaphore, a_process, a_timer, Expression, expression_map}
use Rattle.program_tree.specs.declared.keyword.Keyword.{Keyword}
use Rattle.program_tree.specs.declared.keyword.Keyword.TheVariants as word
use Rattle.program_tree.specs.declared.tree.Operator.{Operator}
use Rattle.program_reader.specs.declared.value_word.Alone.{Alone}
use Rattle.program_reader.specs.declared.value_word.Alone.TheVariants as alone
use Rattle.program_reader.specs.declared.value_word.Telling.{Telling}
use Rattle.program_reader.specs.declared.value_word.Telling.TheVariants as telling
use Rattle.program_reader.specs.declared.value_word.ValueWord.{ValueWord}
use Rattle.program_reader.specs.declared.value_word.ValueWord.TheVariants as value

abbrev pub alone_keyword : Alone → Keyword
alone_keyword alone.Word = word.Data
alone_keyword alone.Sender = word.From
alone_keyword alone.Moment = word.Now
alone_keyword alone.Mote = word.Own

abbrev pub alone_value : Alone → Expression ℕ
alone_value alone.Word = tree.word
alone_value alone.Sender = tree.sender
alone_value alone.Moment = tree.moment
alone_value alone.Mote = tree.mote

abbrev pub telling_keyword : Telling → Keyword
telling_keyword telling.Fired = word.Fired
telling_keyword telling.Expired = word.Expired
telling_keyword telling.Gone = word.Gone
telling_keyword telling.Running = word.Running
telling_keyword telling.Count = word.Count

abbrev pub telling_class : Telling → Class
telling_class telling.Fired = a_timer
telling_class telling.Expired = a_timer
telling_class telling.Gone = a_process
telling_class telling.Running = a_process
telling_class telling.Count = a_semaphore

abbrev pub telling_value : Telling → ℕ → Expression ℕ
telling_value telling.Fired i = tree.fired i
telling_value telling.Expired i = tree.expired i
telling_value telling.Gone i = tree.gone i
telling_value telling.Running i = tree.running i
telling_value telling.Count i = tree.count i

abbrev pub value_keyword : ValueWord → Keyword
value_keyword (value.Alone a) = alone_keyword a
value_keyword (value.Telling t) = telling_keyword t
value_keyword value.Is = word.Is

-- the two sides of an operator are read, and so is the sign that closes them
pub record ReadsSides (s : Scope) (c : Context) (o : Operator) (a b : Expression ℕ) (old new : List Token) : Type 0
  where
    pub spelled : (n : NamesInScope) → Extends s.names n → (ms : List Mark) → tokens ms ≡ new →
        old ≡ tokens (expression_marks c (expression_map (name_in n) a)
        (sign (token.Op o) ∷ expression_marks c (expression_map (name_in n) b) (sign token.Close ∷ ms)))
    pub goes_on : (f : Pending) → tell s (expression c ∷ operator ∷ expression c ∷ close ∷ f) old ≡ tell s f new

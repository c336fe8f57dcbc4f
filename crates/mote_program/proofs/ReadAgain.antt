-- Reading the canonical text of a program results in the same program.
use Rattle.std.proofs.Common.{ℕ, List, sym, subst, ◌⊎◌, inl, inr}
use Rattle.std.proofs.Math.Logic.{∥∥₁_elim, ∥∥₁_map}
use Rattle.std.proofs.Props.{props}
use Rattle.program_tree.specs.Code.{Tree}
use Rattle.program_tree.specs.EventNames.{BroadcastEvent, PostedEvent, TestedEvent}
use Rattle.program_tree.specs.Faults.{IsProgram}
use Rattle.program_tree.specs.Made.{IsOfText, WasRead}
use Rattle.program_tree.specs.Reading.{IsTreeOf, IsErrorOf}
use Rattle.program_tree.specs.ShapeOf.{shape_of, tokens_of_tree, text_of_tree}
use Rattle.program_tree.specs.Tree.{Expression, Action, Body, Expression-set, Body-set}
use Rattle.program_tree.specs.declared.error.ReadErrorKind.{ReadErrorKind}
use Rattle.program_tree.specs.declared.tree.Operator.{Operator}
use Rattle.mote_program.proofs.FairMarks.{program_fair}
use Rattle.mote_program.proofs.LexedAgain.{AreOwn, lexed_again}
use Rattle.mote_program.proofs.OwnTokens.{AreLexedNames, names_lexed, own_tokens}
use Rattle.program_reader.proofs.Texts.{one_tree, never_both, tree_or_reported}

again : (t : Tree) → IsOfText t → IsTreeOf (text_of_tree t) t
again t w =
    let program : IsProgram (shape_of t) (tokens_of_tree t) =
    subst (λ ts. IsProgram (shape_of t) ts) (sym w.program.spelled) w.program in
    let lexed : AreLexedNames (tokens_of_tree t) =
    subst AreLexedNames (sym w.program.spelled) (names_lexed w.lexed.text w.tokens w.lexed.lines w.lexed.lexed) in
    let own : AreOwn (tokens_of_tree t) = own_tokens (shape_of t) program (program_fair (shape_of t)) lexed in
    record {
      tokens = tokens_of_tree t;
      lines = _;
      lexed = lexed_again (tokens_of_tree t) own;
      spelled = record { shape = shape_of t; program = program; numbered = w.numbered };
    }

cast_set : IsSet (BroadcastEvent ℕ)
cast_set = hlevel props

sent_set : IsSet (PostedEvent ℕ)
sent_set = hlevel (props, cast_set)

any_set : IsSet (TestedEvent ℕ)
any_set = hlevel (props, sent_set)

operator_set : IsSet Operator
operator_set = hlevel props

expression_set : IsSet (Expression ℕ)
expression_set = hlevel (props, Expression-set, any_set, operator_set)

action_set : IsSet (Action ℕ)
action_set = hlevel (props, expression_set, cast_set, sent_set)

body_set : IsSet (Body ℕ)
body_set = hlevel (props, Body-set, expression_set, action_set)

tree_set : IsSet Tree
tree_set = hlevel (props, body_set)

-- without the truncation: a text has a tree or a reported error, and at most one tree
pub is_tree : (text : List ℕ) (t : Tree) → ∥ IsTreeOf text t ∥₁ → IsTreeOf text t
is_tree text t m = go (tree_or_reported text).one
  where
    go : ((u : Tree) × IsTreeOf text u) ⊎ ((k : ReadErrorKind) × (line : ℕ) × IsErrorOf text k line) → IsTreeOf text t
    go (inl h) = subst (IsTreeOf text) (∥∥₁_elim m (tree_set h.0 t) (λ k. one_tree text h.0 t h.1 k)) h.1
    go (inr f) = let none : IsProp ⊥ = hlevel in absurd (∥∥₁_elim m none (λ h. never_both text t f.0 f.1 h f.2))

-- the text of a program has its tree
pub read_again : (t : Tree) → WasRead t → IsTreeOf (text_of_tree t) t
read_again t w = is_tree (text_of_tree t) t (∥∥₁_map w (again t))

-- A window has only one end.
use Rattle.std.proofs.Common.{◌≡◌, ℕ, ◌≤◌, true, not, ◌||◌, eqb, List, [], ◌∷◌, Option, Some, None, refl, subst, inl, inr, arith}
use Rattle.std.proofs.lemmas.Bool.{cases_Bool, eqb-true, false≢true}
use Rattle.std.specs.List.{filter, list_any, AllByRecursion}
use Rattle.mote_node.specs.Turn.{Node}
use Rattle.net_agenda.specs.NetSystem.{node_turn}
use Rattle.radio_packet.specs.declared.copy.RadioCopy.{RadioCopy}
use Rattle.trace_lines.specs.declared.line.Line.{Line}
use Rattle.window_laws.specs.Order.{in_order}
use Rattle.window_laws.specs.System.{System}
use Rattle.window_laws.specs.Windows.{LoneMote, lone_turn, is_at, wakes_at, IsQuiet, Alone}
use Rattle.worker_window.specs.Laws.{EndIsOne}
use Rattle.window_laws.specs.Windows.Alone.{Rests, Turns}

any_copy : (k m : ℕ) (xs : List RadioCopy) → AllByRecursion (λ copy. k ≤ copy.at) xs → list_any (is_at m) xs ≡ true → k ≤ m
any_copy k m [] g h = absurd (false≢true h)
any_copy k m (x ∷ xs) g h =
    elim (cases_Bool (is_at m x)) [
      | inl e ↦ (let f = eqb-true x.at m e in let at = g.0 in omega arith)
      | inr e ↦ any_copy k m xs g.1 (rw e at h)
    ]

-- no turn is before a moment up to which there is no event
pub not_before : (k m : ℕ) (wake : Option ℕ) (xs : List RadioCopy) → IsQuiet k wake xs → (wakes_at m wake || list_any (is_at m) xs) ≡ true → k ≤ m
not_before k m None xs quiet comes = any_copy k m xs quiet.no_copies comes
not_before k m (Some wake) xs quiet comes =
    elim (cases_Bool (eqb wake m)) [
      | inl e ↦ (let f = eqb-true wake m e in let at = quiet.no_wake in omega arith)
      | inr e ↦ any_copy k m xs quiet.no_copies (rw e at comes)
    ]

module _ {S L : Type 0} (system : System S L) (number bound : ℕ) where
  pub alone_is_one : {given : List RadioCopy} {mote a b : LoneMote S L} → Alone system number bound given mote a → Alone system number bound given mote b → b ≡ a
  alone_is_one (Rests q) (Rests r) = refl
  alone_is_one {given} {mote} (Rests q) (Turns m quiet comes below rest) = let le = not_before bound m mote.wake given q comes in absurd (omega arith)
  alone_is_one {given} {mote} (Turns m quiet comes below rest) (Rests q) = let le = not_before bound m mote.wake given q comes in absurd (omega arith)
  alone_is_one {given} {mote} {a} {b} (Turns m quiet comes below rest) (Turns k quiet' comes' below' rest') =
      let le = not_before m k mote.wake given quiet comes' in
      let ge = not_before k m mote.wake given quiet' comes in
      let same : k ≡ m = omega arith in
      let P : ℕ → Type 0 = λ t. Alone system number bound (filter (λ copy. not (is_at t copy)) given) (lone_turn system t number mote (in_order (filter (is_at t) given))) b in
      alone_is_one rest (subst P same rest')

-- a net without a medium whose motes all begin as this node
abbrev pub some_system : Node → System Node Line
some_system n = record { motes = 0; first = λ number. n; turn = node_turn; copies = λ sent. []; lookahead = 0 }

pub one_end : EndIsOne
one_end window a b run other =
    let system = some_system window.mote.state in
    alone_is_one system window.mote.state.mote.state.mote window.until (run system refl) (other system refl)

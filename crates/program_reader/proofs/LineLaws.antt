-- The process line, name by name.
use Rattle.std.proofs.Common.{◌≡◌, suc, List, [], ◌∷◌, ◌++◌, length, Some, refl, ap, sym, ◌∙◌, append_assoc, arith}
use Rattle.std.proofs.lemmas.List.{append-nil}
use Rattle.program_tree.specs.Faults.{Scope}
use Rattle.program_tree.specs.Grammar.{tokens}
use Rattle.program_reader.specs.Head.{with_names, IsNew, line_marks, HasProcesses, ReadsProcesses}
use Rattle.program_tree.specs.InScope.{with_new}
use Rattle.program_reader.specs.Machine.{Pending, Verdict, tell, fault, fault_or, first, unfit_at, new_name}
use Rattle.program_reader.specs.Machine.{from_semaphores, first_process, from_comma, more_process, from_autostart}
use Rattle.program_reader.specs.Machine.{semicolon}
use Rattle.program_tree.specs.Shapes.{Name}
use Rattle.program_reader.specs.Steps.{ReadsSign}
use Rattle.program_tree.specs.Tokens.{Token}
use Rattle.program_tree.specs.Tree.{a_process}
use Rattle.program_tree.specs.declared.error.ReadErrorKind.TheVariants.{NoProcess}
use Rattle.program_tree.specs.Tokens as token
use Rattle.program_tree.specs.declared.keyword.Keyword.TheVariants as word
use Rattle.program_reader.proofs.ListLaws.{with_all-append}

pub no_process : (s : Scope) (more : Pending) (old : List Token) → length old ≡ 0 → tell s (from_semaphores ∷ more) old
    ≡ fault NoProcess (length old)
no_process s more [] h = refl
no_process s more (t ∷ ts) h = absurd (omega arith)

pub unfit_process : (s : Scope) (more : Pending) (old : List Token) → (length old ≡ 0 → ⊥)
    → (first old ≡ Some (token.Keyword word.Semaphore) → ⊥) → (first old ≡ Some (token.Keyword word.Process) → ⊥)
    → tell s (from_semaphores ∷ more) old ≡ fault (unfit_at (first old)) (length old)
unfit_process s more [] h k l = absurd (h refl)
unfit_process s more (token.Keyword word.Semaphore ∷ ts) h k l = absurd (k refl)
unfit_process s more (token.Keyword word.Process ∷ ts) h k l = absurd (l refl)
unfit_process s more (t ∷ ts) h k l = refl

first_fails : (s : Scope) (f : Pending) (old : List Token) (v : Verdict)
    → ((more : Pending) → tell s (new_name a_process ∷ more) old ≡ v) → tell s (first_process ∷ f) old ≡ v
first_fails s f (token.Name x ∷ ts) v h = h (from_comma x [] ∷ f)
first_fails s f ts v h = h []

more_fails : (s : Scope) (x : Name) (xs : List Name) (f : Pending) (old : List Token) (v : Verdict)
    → ((more : Pending) → tell s (new_name a_process ∷ more) old ≡ v) → tell s (more_process x xs ∷ f) old ≡ v
more_fails s x xs f (token.Name y ∷ ts) v h = h (from_comma x (xs ++ y ∷ []) ∷ f)
more_fails s x xs f ts v h = h []

pub process_fails : (s : Scope) (old m0 : List Token) (v : Verdict) (more : Pending)
    → old ≡ token.Keyword word.Process ∷ m0
    → ((more : Pending) → tell s (new_name a_process ∷ more) m0 ≡ v)
    → tell s (from_semaphores ∷ more) old ≡ v
process_fails s old m0 v more split h = ap (tell s (from_semaphores ∷ more))
    split ∙ first_fails s more m0 v h

-- the first name
pub has_first : (s m : Scope) (x : Name) (old m0 rest : List Token) → old ≡ token.Keyword word.Process ∷ m0 → IsNew
    a_process s m x m0 rest → HasProcesses s m old rest
has_first s m x old m0 rest split r = record {
  first = x;
  others = [];
  added = r.added;
  spelled = λ more ms e. split ∙ ap (λ ts. token.Keyword word.Process ∷ ts)
      (r.spelled ∙ ap (λ ts. token.Name x ∷ ts) (sym e));
  goes_on = λ f.
      ap (tell s (from_semaphores ∷ f)) split ∙ ap (tell s (first_process ∷ f)) r.spelled
      ∙ ap (λ o. fault_or o (suc (length rest)) (tell (with_names s (with_new s.names a_process x))
      (from_comma x [] ∷ f) rest)) r.sound ∙ ap (λ z. tell z (from_comma x [] ∷ f) rest) (sym r.added);
}

-- a further name
pub has_more : (s m s' : Scope) (x : Name) (old rest m0 new : List Token) → HasProcesses s m old rest
    → rest ≡ token.Comma ∷ m0 → IsNew a_process m s' x m0 new → HasProcesses s s' old new
has_more s m s' x old rest m0 new h split r = record {
  first = h.first;
  others = h.others ++ x ∷ [];
  added =
      r.added ∙ ap (λ z. with_names z (with_new z.names a_process x)) h.added
      ∙ ap (with_names s) (sym (with_all-append s.names a_process (h.first ∷ h.others) x));
  spelled = λ more ms e.
      h.spelled (x ∷ more) ms (sym (split ∙ ap (λ ts. token.Comma ∷ ts)
      (r.spelled ∙ ap (λ ts. token.Name x ∷ ts) (sym e))))
      ∙ ap (λ z. token.Keyword word.Process ∷ token.Name h.first ∷ tokens (line_marks z ms))
      (sym (append_assoc h.others (x ∷ []) more));
  goes_on = λ f.
      h.goes_on f ∙ ap (tell m (from_comma h.first h.others ∷ f)) split
      ∙ ap (tell m (more_process h.first h.others ∷ f)) r.spelled
      ∙ ap (λ o. fault_or o (suc (length new)) (tell (with_names m (with_new m.names a_process x))
      (from_comma h.first (h.others ++ x ∷ []) ∷ f) new)) r.sound
      ∙ ap (λ z. tell z (from_comma h.first (h.others ++ x ∷ []) ∷ f) new) (sym r.added);
}

pub more_process_fails : (s m : Scope) (old rest m0 : List Token) (v : Verdict) (more : Pending)
    → HasProcesses s m old rest → rest ≡ token.Comma ∷ m0
    → ((more : Pending) → tell m (new_name a_process ∷ more) m0 ≡ v)
    → tell s (from_semaphores ∷ more) old ≡ v
more_process_fails s m old rest m0 v more h split e =
    h.goes_on more ∙ ap (tell m (from_comma h.first h.others ∷ more)) split
    ∙ more_fails m h.first h.others more m0 v e

-- the end of the line
no_comma : (s : Scope) (x : Name) (xs : List Name) (f : Pending) (ts : List Token) → (first ts ≡ Some token.Comma → ⊥)
    → tell s (from_comma x xs ∷ f) ts ≡ tell s (semicolon ∷ from_autostart x xs ∷ f) ts
no_comma s x xs f (token.Comma ∷ ts) h = absurd (h refl)
no_comma s x xs f ts h = refl

pub has_all : (s m : Scope) (old rest r new : List Token) → HasProcesses s m old rest
    → (first rest ≡ Some token.Comma → ⊥) → r ≡ rest → ReadsSign semicolon token.Semicolon r new
    → ReadsProcesses s m old new
has_all s m old rest r new h other same k =
    let split : rest ≡ token.Semicolon ∷ new = sym same ∙ k.spelled in
    record {
      first = h.first;
      others = h.others;
      added = h.added;
      spelled = λ ms e.
          h.spelled [] ms (sym (split ∙ ap (λ ts. token.Semicolon ∷ ts) (sym e)))
          ∙ ap (λ z. token.Keyword word.Process ∷ token.Name h.first ∷ tokens (line_marks z ms)) (append-nil h.others);
      goes_on = λ f.
          h.goes_on f ∙ no_comma m h.first h.others f rest other
          ∙ ap (tell m (semicolon ∷ from_autostart h.first h.others ∷ f)) (sym same)
          ∙ k.goes_on m (from_autostart h.first h.others ∷ f);
    }

pub end_fails : (s m : Scope) (old rest r : List Token) (v : Verdict) (more : Pending) → HasProcesses s m old rest
    → (first rest ≡ Some token.Comma → ⊥) → r ≡ rest → ((t : Scope) (f : Pending) → tell t (semicolon ∷ f) r ≡ v)
    → tell s (from_semaphores ∷ more) old ≡ v
end_fails s m old rest r v more h other same e =
    h.goes_on more ∙ no_comma m h.first h.others more rest other
    ∙ ap (tell m (semicolon ∷ from_autostart h.first h.others ∷ more)) (sym same)
    ∙ e m (from_autostart h.first h.others ∷ more)

pub ruleset line_steps = (no_process, unfit_process, process_fails, has_first, has_all)

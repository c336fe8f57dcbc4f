-- A text has at most one net, at most one fault, and never both.
use Rattle.std.proofs.Common.{◌≡◌, ℕ, List, [], ◌∷◌, ◌++◌, refl, sym, ap, ◌∙◌, subst, Err}
use Rattle.toml.specs.Data.{Members}
use Rattle.program_tree.specs.Code.{Tree}
use Rattle.program_tree.specs.Reading.{IsTreeOf, IsErrorOf}
use Rattle.program_tree.specs.declared.error.ReadError.{ReadError}
use Rattle.program_tree.specs.declared.error.ReadErrorKind.{ReadErrorKind}
use Rattle.radio_medium.specs.declared.error.MediumError.{MediumError}
use Rattle.net_scenario.specs.declared.error.ScenarioError.{ScenarioError}
use Rattle.net_scenario.specs.declared.error.ScenarioError.TheVariants.{Toml, MissingKey, UnknownKey, WrongKind}
use Rattle.net_scenario.specs.declared.error.ScenarioError.TheVariants.{OutOfRange, UnknownProgram, Program, Medium}
use Rattle.net_scenario.specs.declared.error.ScenarioError.TheVariants.{Memory}
use Rattle.mote_net.specs.Programs.{NamedTree}
use Rattle.net_scenario.specs.Programs.{ProgramText, AllRead, FirstRefused}
use Rattle.net_scenario.specs.Net.{net_in}
use Rattle.net_scenario.specs.Reading.{Document, document_of, IsNetOf, IsRefusedProgramOf, IsMediumFaultOf, TellsFault}
use Rattle.net_scenario.specs.Laws.{ProgramLaws, OneNet, NeverBoth, AtMostOneFault}

one_document : (text : List ℕ) (d f : Document text) → d.top ≡ f.top
one_document text d f = let a = d.is in let b = f.is in cc

same_named : (t u : NamedTree) → t.name ≡ u.name → t.tree ≡ u.tree → t ≡ u
same_named t u n e =
    ap (λ (k : List ℕ). let r : NamedTree = record { name = k; tree = t.tree } in r) n
    ∙ ap (λ (k : Tree). let r : NamedTree = record { name = u.name; tree = k } in r) e

one_reading : ProgramLaws → (ps : List ProgramText) (ts us : List NamedTree) → AllRead ps ts → AllRead ps us → ts ≡ us
one_reading laws [] [] [] a b = refl
one_reading laws [] [] (u ∷ us) a b = absurd b
one_reading laws [] (t ∷ ts) us a b = absurd a
one_reading laws (p ∷ ps) [] us a b = absurd a
one_reading laws (p ∷ ps) (t ∷ ts) [] a b = absurd b
one_reading laws (p ∷ ps) (t ∷ ts) (u ∷ us) a b =
    let first : t ≡ u = same_named t u (a.0 ∙ sym b.0) (laws.one_tree p.text t.tree u.tree a.1 b.1) in
    let rest : ts ≡ us = one_reading laws ps ts us a.2 b.2 in
    cc

-- a program that was read has a tree
tree_of_read : (before : List ProgramText) (p : ProgramText) (after : List ProgramText) (ts : List NamedTree)
    → AllRead (before ++ p ∷ after) ts
    → (t : Tree) × IsTreeOf p.text t
tree_of_read [] p after [] a = absurd a
tree_of_read [] p after (t ∷ ts) a = (t.tree, a.1)
tree_of_read (q ∷ before) p after [] a = absurd a
tree_of_read (q ∷ before) p after (t ∷ ts) a = tree_of_read before p after ts a.2

read_or_refused : ProgramLaws → (ps : List ProgramText) (ts : List NamedTree) (name : List ℕ) (e : ReadError)
    → AllRead ps ts → FirstRefused ps name e → ⊥
read_or_refused laws ps ts name e a m =
    let P : List ProgramText → Type 0 = λ qs. AllRead qs ts in
    let t = tree_of_read m.before (record { name = name; text = m.text }) m.after ts (subst P m.split a) in
    laws.never_both m.text t.0 e.kind e.line t.1 m.matches

-- there is only one first program with a fault if the programs before it have trees
one_split : ProgramLaws → (b c : List ProgramText) (p q : ProgramText) (r s : List ProgramText)
    (ts us : List NamedTree) (k l : ReadErrorKind) (m n : ℕ)
    → b ++ p ∷ r ≡ c ++ q ∷ s → AllRead b ts → AllRead c us → IsErrorOf p.text k m → IsErrorOf q.text l n → p ≡ q
one_split laws [] [] p q r s ts us k l m n e a d x y = cc
one_split laws [] (v ∷ c) p q r s ts [] k l m n e a d x y = absurd d
one_split laws [] (v ∷ c) p q r s ts (u ∷ us) k l m n e a d x y =
    let same : v ≡ p = cc in
    absurd (laws.never_both p.text u.tree k m (let P : ProgramText → Type 0 = λ w. IsTreeOf w.text u.tree in
    subst P same d.1) x)
one_split laws (v ∷ b) [] p q r s [] us k l m n e a d x y = absurd a
one_split laws (v ∷ b) [] p q r s (t ∷ ts) us k l m n e a d x y =
    let same : v ≡ q = cc in
    absurd (laws.never_both q.text t.tree l n (let P : ProgramText → Type 0 = λ w. IsTreeOf w.text t.tree in
    subst P same a.1) y)
one_split laws (v ∷ b) (w ∷ c) p q r s [] us k l m n e a d x y = absurd a
one_split laws (v ∷ b) (w ∷ c) p q r s (t ∷ ts) [] k l m n e a d x y = absurd d
one_split laws (v ∷ b) (w ∷ c) p q r s (t ∷ ts) (u ∷ us) k l m n e a d x y =
    let rest : b ++ p ∷ r ≡ c ++ q ∷ s = cc in
    one_split laws b c p q r s ts us k l m n rest a.2 d.2 x y

same_error : (d e : ReadError) → d.kind ≡ e.kind → d.line ≡ e.line → d ≡ e
same_error d e k l =
    ap (λ (x : ReadErrorKind). let r : ReadError = record { kind = x; line = d.line } in r) k
    ∙ ap (λ (x : ℕ). let r : ReadError = record { kind = e.kind; line = x } in r) l

one_refused : ProgramLaws → (ps : List ProgramText) (m n : List ℕ) (d e : ReadError) → FirstRefused ps m d
    → FirstRefused ps n e → (m ≡ n) × (d ≡ e)
one_refused laws ps m n d e x y =
    let same : record { name = m; text = x.text } ≡ record { name = n; text = y.text } =
    one_split laws x.before y.before (record { name = m; text = x.text }) (record { name = n; text = y.text }) x.after
    y.after x.trees y.trees d.kind e.kind d.line e.line
    (sym x.split ∙ y.split) x.read y.read x.matches y.matches in
    let name : m ≡ n = ap (λ (p : ProgramText). p.name) same in
    let text : x.text ≡ y.text = ap (λ (p : ProgramText). p.text) same in
    let P : List ℕ → Type 0 = λ t. IsErrorOf t d.kind d.line in
    let fault = laws.one_fault y.text d.kind e.kind d.line e.line (subst P text x.matches) y.matches in
    (name, same_error d e fault.0 fault.1)

pub one_net : ProgramLaws → OneNet
one_net laws text m n a b =
    let P : Members → Type 0 = λ t. IsNetOf t n in
    let x = a.1 in
    let y : IsNetOf a.0.top n = subst P (one_document text b.0 a.0) b.1 in
    let trees : x.programs.trees ≡ y.programs.trees = one_reading laws _ _ _ x.programs.read y.programs.read in
    x.matches ∙ ap (net_in a.0.top) trees ∙ sym y.matches

pub never_both : ProgramLaws → NeverBoth
never_both laws text n (Program name e) a b =
    let P : Members → Type 0 = λ t. IsRefusedProgramOf t name e in
    read_or_refused laws _ _ _ e a.1.programs.read (subst P (one_document text b.0 a.0) b.1)
never_both laws text n (Medium e) a b =
    let P : Members → Type 0 = λ t. IsMediumFaultOf t e in
    let y : IsMediumFaultOf a.0.top e = subst P (one_document text b.0 a.0) b.1 in
    let none = a.1.medium in
    let some = y.medium in
    cc
never_both laws text n Memory a b = b
never_both laws text n Toml a b = let is = a.0.is in cc
never_both laws text n MissingKey a b = let is = a.0.is in cc
never_both laws text n UnknownKey a b = let is = a.0.is in cc
never_both laws text n WrongKind a b = let is = a.0.is in cc
never_both laws text n OutOfRange a b = let is = a.0.is in cc
never_both laws text n UnknownProgram a b = let is = a.0.is in cc

-- a fault of the tables is the only fault of the text
of_tables : (text : List ℕ) (e f : ScenarioError) → document_of text ≡ Err e → TellsFault text f → e ≡ f
of_tables text e (Program name x) a b = let is = b.0.is in cc
of_tables text e (Medium x) a b = let is = b.0.is in cc
of_tables text e Memory a b = absurd b
of_tables text e Toml a b = cc
of_tables text e MissingKey a b = cc
of_tables text e UnknownKey a b = cc
of_tables text e WrongKind a b = cc
of_tables text e OutOfRange a b = cc
of_tables text e UnknownProgram a b = cc

of_medium : ProgramLaws → (text : List ℕ) (m : MediumError) (f : ScenarioError) → TellsFault text (Medium m)
    → TellsFault text f → Medium m ≡ f
of_medium laws text m (Program name x) a b =
    let P : Members → Type 0 = λ t. IsRefusedProgramOf t name x in
    absurd (read_or_refused laws _ _ _ x a.1.programs.read (subst P (one_document text b.0 a.0) b.1))
of_medium laws text m (Medium x) a b =
    let P : Members → Type 0 = λ t. IsMediumFaultOf t x in
    let y : IsMediumFaultOf a.0.top x = subst P (one_document text b.0 a.0) b.1 in
    let one = a.1.medium in
    let other = y.medium in
    cc
of_medium laws text m Memory a b = absurd b
of_medium laws text m Toml a b = let is = a.0.is in cc
of_medium laws text m MissingKey a b = let is = a.0.is in cc
of_medium laws text m UnknownKey a b = let is = a.0.is in cc
of_medium laws text m WrongKind a b = let is = a.0.is in cc
of_medium laws text m OutOfRange a b = let is = a.0.is in cc
of_medium laws text m UnknownProgram a b = let is = a.0.is in cc

pub one_fault : ProgramLaws → AtMostOneFault
one_fault laws text Toml f a b = of_tables text Toml f a b
one_fault laws text MissingKey f a b = of_tables text MissingKey f a b
one_fault laws text UnknownKey f a b = of_tables text UnknownKey f a b
one_fault laws text WrongKind f a b = of_tables text WrongKind f a b
one_fault laws text OutOfRange f a b = of_tables text OutOfRange f a b
one_fault laws text UnknownProgram f a b = of_tables text UnknownProgram f a b
one_fault laws text Memory f a b = absurd a
one_fault laws text (Medium m) f a b = of_medium laws text m f a b
one_fault laws text (Program m d) (Program n e) a b =
    let P : Members → Type 0 = λ t. IsRefusedProgramOf t n e in
    let same = one_refused laws _ m n d e a.1 (subst P (one_document text b.0 a.0) b.1) in
    let names = same.0 in
    let errors = same.1 in
    cc
one_fault laws text (Program m d) (Medium e) a b = sym (of_medium laws text e (Program m d) b a)
one_fault laws text (Program m d) Memory a b = absurd b
one_fault laws text (Program m d) Toml a b = let is = a.0.is in cc
one_fault laws text (Program m d) MissingKey a b = let is = a.0.is in cc
one_fault laws text (Program m d) UnknownKey a b = let is = a.0.is in cc
one_fault laws text (Program m d) WrongKind a b = let is = a.0.is in cc
one_fault laws text (Program m d) OutOfRange a b = let is = a.0.is in cc
one_fault laws text (Program m d) UnknownProgram a b = let is = a.0.is in cc

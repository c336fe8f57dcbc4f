-- Reading the programs of a table, one at a time.
use Rattle.std.proofs.Common.{◌≡◌, map, List, [], ◌∷◌, ◌++◌, sym, ◌∙◌, append_assoc, append-nil, Ok}
use Rattle.std.proofs.lemmas.List.{map-append}
use Rattle.program_tree.specs.Reading.{IsTreeOf}
use Rattle.mote_net.specs.declared.programs.NamedProgram.{NamedProgram}
use Rattle.mote_net.specs.Programs.{NamedTree}
use Rattle.mote_net.specs.Meaning.{named_tree}
use Rattle.net_scenario.specs.Programs.{ProgramText, AllRead}
use Rattle.net_scenario.specs.Reads.{ReadsProgram}

-- the programs that were read are a prefix of all programs, and the rest is still to be read
pub record ReadSoFar (texts : List ProgramText) (trees : List NamedTree) (rest : List ProgramText) : Type 0 where
  pub before : List ProgramText
  pub split : texts ≡ before ++ rest
  pub read : AllRead before trees

all_read-push : (ps : List ProgramText) (ts : List NamedTree) (p : ProgramText) (t : NamedTree) → AllRead ps ts
    → t.name ≡ p.name → IsTreeOf p.text t.tree
    → AllRead (ps ++ p ∷ []) (ts ++ t ∷ [])
all_read-push [] [] p t h n r = (n, r, tt)
all_read-push [] (u ∷ ts) p t h n r = absurd h
all_read-push (q ∷ ps) [] p t h n r = absurd h
all_read-push (q ∷ ps) (u ∷ ts) p t h n r = (h.0, h.1, all_read-push ps ts p t h.2 n r)

pub read_one : (texts : List ProgramText) (qs : List NamedProgram) (p : ProgramText) (rest : List ProgramText)
    (q : NamedProgram)
    → ReadSoFar texts (map named_tree qs) (p ∷ rest) → ReadsProgram p (Ok q)
    → ReadSoFar texts (map named_tree (qs ++ q ∷ [])) rest
read_one texts qs p rest q s r = record {
  before = s.before ++ p ∷ [];
  split = s.split ∙ sym (append_assoc s.before (p ∷ []) rest);
  read = rw (map-append named_tree qs (q ∷ [])) (all_read-push s.before (map named_tree qs) p (named_tree q) s.read r.0
      r.1);
}

pub read_all : (texts : List ProgramText) (ts : List NamedTree) → ReadSoFar texts ts [] → AllRead texts ts
read_all texts ts s =
    let same : texts ≡ s.before = s.split ∙ append-nil s.before in
    rw same s.read

-- The meaning of a text: one net or one error, and never both.
use Rattle.std.specs.Prelude.{◌≡◌, ◌⊎◌, ℕ, List}
use Rattle.program_tree.specs.Code.{Tree}
use Rattle.program_tree.specs.Reading.{IsTreeOf, IsErrorOf}
use Rattle.program_tree.specs.declared.error.ReadErrorKind.{ReadErrorKind}
use Rattle.net_scenario.specs.declared.error.ScenarioError.{ScenarioError}
use Rattle.mote_net.specs.Net.{NetModel}
use Rattle.net_scenario.specs.Reading.{TellsNet, TellsFault}

-- the same laws for the texts of programs
pub record ProgramLaws : Type 0 where
  pub one_tree : (text : List ℕ) (t u : Tree) → IsTreeOf text t → IsTreeOf text u → t ≡ u
  pub one_fault : (text : List ℕ) (k l : ReadErrorKind) (m model : ℕ) → IsErrorOf text k m → IsErrorOf text l model
      → (k ≡ l) × (m ≡ model)
  pub never_both : (text : List ℕ) (t : Tree) (k : ReadErrorKind) (m : ℕ) → IsTreeOf text t → IsErrorOf text k m → ⊥

abbrev pub OneNet : Type 0
OneNet = (text : List ℕ) (m model : NetModel) → TellsNet text m → TellsNet text model → m ≡ model

abbrev pub NeverBoth : Type 0
NeverBoth = (text : List ℕ) (model : NetModel) (e : ScenarioError) → TellsNet text model → TellsFault text e → ⊥

-- each text describes a net or has a fault
abbrev pub NetOrFault : Type 0
NetOrFault = (text : List ℕ) → ((model : NetModel) × TellsNet text model) ⊎ ((e : ScenarioError) × TellsFault text e)

abbrev pub AtMostOneFault : Type 0
AtMostOneFault = (text : List ℕ) (e f : ScenarioError) → TellsFault text e → TellsFault text f → e ≡ f

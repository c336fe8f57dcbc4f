-- Runs one after another form one run.
use Rattle.std.proofs.Common.{List, [], ◌∷◌, ◌++◌, sym, ◌∙◌, ap, append_assoc, append-nil}
use Rattle.kernel_laws.specs.HandedOn.{Line, Halt}
use Rattle.kernel_laws.specs.Delivery.{DeliveryMachine, DeliveryStep, DeliveryRuns, stays, goes_on, Halts}

pub one_step : (m : DeliveryMachine) (ls : List Line) (m' : DeliveryMachine) → DeliveryStep m ls m' → DeliveryRuns m ls m'
one_step m ls m' s = goes_on [] m ls m' stays s

pub runs_joined : (m : DeliveryMachine) (ls : List Line) (m' : DeliveryMachine) (more : List Line) (m'' : DeliveryMachine) → DeliveryRuns m ls m' → DeliveryRuns m' more m'' → DeliveryRuns m (ls ++ more) m''
runs_joined m ls m' more m'' r stays = rw append-nil r
runs_joined m ls m' more m'' r (goes_on ls' n next n' r' s) = rw (← append_assoc) (goes_on (ls ++ ls') n next n' (runs_joined m ls m' ls' n r r') s)

pub halts_joined : (m : DeliveryMachine) (ls : List Line) (m' : DeliveryMachine) (more : List Line) → DeliveryRuns m ls m' → Halts m' more → Halts m (ls ++ more)
halts_joined m ls m' more r h = record {
  before = ls ++ h.before;
  last = h.last;
  runs = runs_joined m ls m' h.before h.last r h.runs;
  ends = ap (λ x. ls ++ x) h.ends ∙ sym (append_assoc ls h.before (Halt ∷ []));
}

-- The meaning of the matches and errors that `clap` returns for the command.
use Rattle.std.proofs.Common.{◌≡◌, ℕ, List, [], ◌∷◌, Option, Some, None, true, ap, refl, codes, option_map, subst, ◌∙◌}
use Rattle.clap.specs.Words.{App, Row, Rule, Text, one_of, first_of, fault_of, is_simple, matches_of}
use Rattle.clap.specs.Faults.{is_simple_and_free}
use Rattle.clap.proofs.OnLiterals.{clap_on_literals}
use Rattle.clap.specs.declared.error.kind.ErrorKind.TheVariants as kind
use Rattle.window_workers.specs.declared.sync.SyncKind.TheVariants as sync
use Rattle.simulation.specs.Words.{AskedIn, AsksFor, Choices, IsMotesim, ReadsCount, ReadsWorkers, app_with, cut_of, sync_of}
use Rattle.simulation.specs.declared.command_line.Asked.{Asked}
use Rattle.simulation.specs.declared.options.CutKind.TheVariants as cut

pub simple : (app : App) → IsMotesim app → is_simple app ≡ true
simple app is = ap is_simple is.2

pub simple_and_free : (app : App) → IsMotesim app → is_simple_and_free app ≡ true
simple_and_free app is = ap is_simple_and_free is.2

pub workers_read : (o : Option Text) (r : Option ℕ) → (o ≡ None → r ≡ None) → ((text : Text) → o ≡ Some text → ReadsCount text r)
    → ReadsWorkers o r
workers_read None r none value = none refl
workers_read (Some text) r none value = value text refl

-- ---- arguments that are written out

abbrev words : List Text
words = codes "./motesim" ∷ codes "--workers" ∷ codes "4" ∷ codes "net.toml" ∷ codes "--sync=marks" ∷ []

abbrev rows : (cuts syncs : Choices) → List Row
rows cuts syncs = matches_of (app_with cuts syncs) words

file_found : (cuts syncs : Choices) → first_of (codes "FILE") (rows cuts syncs) ≡ Some (codes "net.toml")
unfolding clap_on_literals
file_found cuts syncs = refl

workers_found : (cuts syncs : Choices) → one_of (codes "workers") (rows cuts syncs) ≡ Some (codes "4")
unfolding clap_on_literals
workers_found cuts syncs = refl

sync_found : (cuts syncs : Choices) → sync_of (first_of (codes "sync") (rows cuts syncs)) ≡ sync.Marks
unfolding clap_on_literals
sync_found cuts syncs = refl

cut_found : (cuts syncs : Choices) → cut_of (first_of (codes "cut") (rows cuts syncs)) ≡ cut.Block
unfolding clap_on_literals
cut_found cuts syncs = refl

-- these arguments ask for nothing else
pub asks_one : (asked : Asked) → AsksFor words asked → (option_map (λ s. s.now) asked.file ≡ Some (codes "net.toml"))
    × ReadsCount (codes "4") asked.options.workers × (asked.options.cut ≡ cut.Block) × (asked.options.sync ≡ sync.Marks)
asks_one asked h =
    let at = subst (λ app. AskedIn (matches_of app words) asked) h.is.2 h.values in (
      at.file ∙ file_found h.is.0 h.is.1,
      subst (λ o. ReadsWorkers o asked.options.workers) (workers_found h.is.0 h.is.1) at.workers,
      at.cut ∙ cut_found h.is.0 h.is.1,
      at.sync ∙ sync_found h.is.0 h.is.1,
    )

-- the arguments ask for help
help_asked : (cuts syncs : Choices) (prog : Text) → fault_of (app_with cuts syncs) (prog ∷ codes "--help" ∷ []) ≡ kind.DisplayHelp ∷ []
unfolding clap_on_literals
help_asked cuts syncs prog = refl

-- 17 workers are an error
too_many : (cuts syncs : Choices) (prog : Text) → fault_of (app_with cuts syncs) (prog ∷ codes "--workers=17" ∷ []) ≡ kind.ValueValidation ∷ []
unfolding clap_on_literals
too_many cuts syncs prog = refl

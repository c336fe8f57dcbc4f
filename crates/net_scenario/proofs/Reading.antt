-- The meaning of a text, found from the meaning of its document.
use Rattle.std.proofs.Common.{◌≡◌, ◌≤◌, ℕ, List, length, map, codes, ℤ, pos, Bool, unwrap_or, nat_lt, false, lit<}
use Rattle.std.proofs.Common.{refl, sym, ap, ◌∙◌, arith, Result, Ok, Err, Option, Some, None}
use Rattle.std.proofs.lemmas.Bool.Decides.{nat_tests}
use Rattle.std.proofs.lemmas.List.{length-map}
use Rattle.toml.specs.Data.{Members}
use Rattle.toml.specs.Parse.{parse_document}
use Rattle.radio_medium.specs.Medium.{Radio}
use Rattle.mote_net.specs.declared.net.MoteSetup.{MoteSetup as SetupOfCode}
use Rattle.mote_net.specs.Limits.{fewest_motes, most_motes}
use Rattle.net_scenario.specs.Limits.{longest_text}
use Rattle.net_scenario.specs.Rules.{top_rules}
use Rattle.net_scenario.proofs.Each.{Faultless}
use Rattle.net_scenario.proofs.Keeps.{keeps_all}
use Rattle.net_scenario.proofs.Members.{tables_kept, tables_asked}
use Rattle.radio_medium.specs.declared.error.MediumError.TheVariants as medium
use Rattle.net_scenario.specs.declared.error.ScenarioError.{ScenarioError}
use Rattle.net_scenario.specs.declared.error.ScenarioError.TheVariants.{Toml, MissingKey, UnknownKey, WrongKind}
use Rattle.net_scenario.specs.declared.error.ScenarioError.TheVariants.{OutOfRange, UnknownProgram, Program, Medium}
use Rattle.net_scenario.specs.declared.error.ScenarioError.TheVariants.{Memory}
use Rattle.mote_net.specs.declared.net.Net.{Net}
use Rattle.mote_net.specs.declared.programs.NamedProgram.{NamedProgram}
use Rattle.net_scenario.specs.Document.{version_of, natural, integer_at, natural_at, boolean_at, table_at, tables_at}
use Rattle.net_scenario.specs.Document.{document_fault}
use Rattle.mote_net.specs.Meaning.{named_tree}
use Rattle.net_scenario.specs.Programs.{program_texts, AllRead}
use Rattle.mote_net.specs.Net.{MoteSetup}
use Rattle.mote_net.specs.Meaning.{setup_of}
use Rattle.net_scenario.specs.Net.{mote_of_table, place_in, radio_in}
use Rattle.net_scenario.specs.Reading.{document_of, IsNetOf}
use Rattle.net_scenario.specs.Reads.{MakesRadio, MakesNet, Answers}

-- the result for a document is the meaning of its text
pub answered : (text : List ℕ) (top : Members) (r : Result Net ScenarioError) → document_of text ≡ Ok top
    → MakesNet top r → Answers text r
answered text top (Ok net) is m = (record { top = top; is = is }, m)
answered text top (Err (Program name e)) is m = (record { top = top; is = is }, m)
answered text top (Err (Medium e)) is m = (record { top = top; is = is }, m)
answered text top (Err Memory) is m = tt
answered text top (Err Toml) is m = absurd m
answered text top (Err MissingKey) is m = absurd m
answered text top (Err UnknownKey) is m = absurd m
answered text top (Err WrongKind) is m = absurd m
answered text top (Err OutOfRange) is m = absurd m
answered text top (Err UnknownProgram) is m = absurd m

-- a text that is short enough, and is TOML with tables without a fault, has this document
pub document_is : (text : List ℕ) (top : Members) → length text ≤ longest_text → parse_document text ≡ Some top
    → document_fault top ≡ None → document_of text ≡ Ok top
document_is text top short parsed faultless =
    let fits : nat_lt longest_text (length text) ≡ false = grind (arith, nat_tests) in
    rw (fits, parsed, faultless) refl

-- the net of a document, part by part
pub made : (top : Members) (e : ℕ) (flag : Bool) (radio : Radio) (ps : List NamedProgram) (ms : List SetupOfCode)
    → AllRead (program_texts (table_at (codes "programs") top)) (map named_tree ps)
    → integer_at (codes "end") top ≡ Some (pos e)
    → flag ≡ boolean_at (codes "collide") (table_at (codes "medium") top)
    → MakesRadio (radio_in top) (Ok radio)
    → map (setup_of ps) ms ≡ map (mote_of_table (table_at (codes "queue") top) (map named_tree ps))
    (tables_at (codes "mote") top)
    → IsNetOf top (record { end = e; collide = flag; radio = radio; motes = map (setup_of ps) ms })
made top e flag radio ps ms read end-is flag-is radio-is motes-are =
    let same-end : e ≡ natural_at (codes "end") top =
    sym (ap (λ (o : Option ℤ). natural (unwrap_or o (pos 0))) end-is) in
    let same-radio : radio ≡ radio_in top = radio-is.0 in
    record {
      programs = record { trees = map named_tree ps; read = read };
      medium = radio-is.1;
      matches = rw (same-end, flag-is, same-radio, motes-are) refl;
    }

-- there are as many motes as tables of motes
pub mote_count : (top : Members) (ps : List NamedProgram) (ms : List SetupOfCode) (queue : Members)
    → map (setup_of ps) ms ≡ map (mote_of_table queue (map named_tree ps)) (tables_at (codes "mote") top)
    → length ms ≡ length (tables_at (codes "mote") top)
mote_count top ps ms queue motes-are =
    sym (length-map ms (setup_of ps)) ∙ ap (λ (l : List MoteSetup). length l) motes-are
    ∙ length-map (tables_at (codes "mote") top) (mote_of_table queue (map named_tree ps))

-- the number of motes is within its limits
pub few_motes : (top : Members) → Faultless top → length (tables_at (codes "mote") top) ≤ most_motes
few_motes top f = tables_kept fewest_motes most_motes (codes "mote") top
    (keeps_all (version_of top) top_rules top f.top 4 (lit< tt) refl)

pub some_motes : (top : Members) → Faultless top → fewest_motes ≤ length (tables_at (codes "mote") top)
some_motes top f = tables_asked fewest_motes most_motes (codes "mote") top
    (keeps_all (version_of top) top_rules top f.top 4 (lit< tt) refl)

-- there are as many places as motes
pub place_count : (top : Members) (radio : Radio) → MakesRadio (radio_in top) (Ok radio)
    → length radio.places ≡ length (tables_at (codes "mote") top)
place_count top radio made = ap (λ (r : Radio). length r.places) made.0 ∙ length-map (tables_at (codes "mote") top)
    place_in

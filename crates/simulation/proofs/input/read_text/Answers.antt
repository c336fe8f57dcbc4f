use Rattle.std.proofs.Common.{◌≡◌, ℕ, List, Option, Some, None, IfSome, Ok, ap, subst, ◌∙◌, Vec, String, string_bytes, Global}
use Rattle.std.specs.String.{string_vec}
use Rattle.std.specs.Str.{IsUtf8}
use Rattle.std.proofs.lemmas.Str.{IsUtf8-string_bytes}
use Rattle.simulation.specs.Reads.{ReadsBytes, ReadsText}
use Rattle.simulation.proofs.input.read_text.Goals as goal

-- a text of the bytes that were read is the result of reading the input as a text
text_read : (known : Option (List ℕ)) (bytes : Vec ℕ Global) (text : String Global) → string_vec text ≡ bytes
    → IfSome known (λ input. ReadsBytes input (Ok bytes)) → IfSome known (λ input. ReadsText input (Ok text))
text_read None bytes text is matches = tt
text_read (Some input) bytes text is matches =
    let same : string_bytes text ≡ input = ap (λ v. v.items) is ∙ matches.0 in
    (same, record { short = matches.1; utf8 = subst IsUtf8 same (IsUtf8-string_bytes text) })

pub returns-in-Ok-clause-matches : goal.returns-in-Ok-clause-matches
returns-in-Ok-clause-matches g c = text_read (g.R.Read.remaining c.args.reader.now) c.in_ok-bytes.bytes c.in-Ok.text c.in-Ok.ensures.ok c.in_ok-bytes.ensures.matches

use Rattle.std.proofs.Common.{◌≡◌, ◌∙◌, ◌++◌, ap, rules, string_bytes}
use Rattle.claim_check.proofs.answers.answers_with.Goals as goal

pub returns : goal.returns
returns c =
    let answers = c.in_ok-answers.answers in
    let said = c.in_ok-answers.ensures.answers_all in
    let written : string_bytes c.push_str.new.self ≡ string_bytes answers.text ++ string_bytes c.in_ok-unused.unused = search rules in
    record {
      answers_with = record { lines = string_bytes answers.text; are = said.0; whole = written ∙ ap (λ t. string_bytes answers.text ++ t) c.in_ok-unused.ensures.text; verdict = said.1 };
    }

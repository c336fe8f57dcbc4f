-- The lines of a text that are claims, and the line that isn't read.
use Rattle.std.specs.Prelude.{◌≡◌, ◌≤◌, ◌+◌, ℕ, Bool, true, false, ◌==◌, not, List, [], ◌∷◌, ◌++◌, length, map, filter}
use Rattle.std.specs.List.{slice_split}
use Rattle.claims.specs.declared.claim.Claim.{Claim}
use Rattle.claim_text.specs.declared.error.ClaimsError.{ClaimsError}
use Rattle.claim_text.specs.declared.error.ClaimsError.TheVariants.{Memory, NotAClaim}
use Rattle.claim_text.specs.ClaimText.{text_of}

-- the lines of a text, without their line feeds
abbrev pub lines_of : (text : List ℕ) → List (List ℕ)
lines_of text = slice_split (λ byte. byte == 10) text

-- a line that isn't empty and doesn't begin with `#`
abbrev pub is_claim_line : (line : List ℕ) → Bool
is_claim_line [] = false
is_claim_line (first ∷ rest) = not (first == 35)

-- the lines of a text that are claims
abbrev pub claim_lines : (text : List ℕ) → List (List ℕ)
claim_lines text = filter is_claim_line (lines_of text)

-- the error is at this line, which should be a claim, and its column is in the line or just behind it
abbrev pub IsAt : (number : ℕ) → (line : List ℕ) → ClaimsError → Type 0
IsAt number line Memory = Unit {0}
IsAt number line (NotAClaim n column) =
    (is_claim_line line ≡ true) × (n ≡ number) × (1 ≤ column) × (column ≤ length line + 1)

-- the error is at a line of the text that should be the text of a claim, behind lines that are texts of claims
pub record IsRefused (names : List (List ℕ)) (text : List ℕ) (error : ClaimsError) : Type 0 where
  pub before : List (List ℕ)
  pub line : List ℕ
  pub after : List (List ℕ)
  pub lines : lines_of text ≡ before ++ line ∷ after
  pub claims : List Claim
  pub read : map (text_of names) claims ≡ filter is_claim_line before
  pub at : IsAt (length before + 1) line error

-- an error and its cause; an allocation may fail for any text
abbrev pub Refuses : (names : List (List ℕ)) → (text : List ℕ) → ClaimsError → Type 0
Refuses names text Memory = Unit {0}
Refuses names text (NotAClaim line column) = IsRefused names text (NotAClaim line column)

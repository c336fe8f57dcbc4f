-- The lines of a text, one by one.
use Rattle.std.proofs.Common.{◌≡◌, ◌∙◌, ℕ, ◌+◌, ◌<◌, suc, Bool, List, [], ◌∷◌, ◌++◌, length, map, filter, take, drop, get_or, sym, ap, subst, arith, Bor}
use Rattle.std.proofs.lemmas.List.{take_more, get_or-map, length-map, length-take-le, take-append-drop}
use Rattle.std.proofs.lemmas.List.Elements.{filter-append}
use Rattle.std.proofs.Math.Seq.{drop-cons}
use Rattle.claims.specs.declared.claim.Claim.{Claim}
use Rattle.claim_text.specs.declared.error.ClaimsError.{ClaimsError}
use Rattle.claim_text.specs.declared.error.ClaimsError.TheVariants.{Memory, NotAClaim}
use Rattle.claim_text.specs.ClaimText.{text_of}
use Rattle.claim_text.specs.ClaimLines.{is_claim_line, lines_of, IsAt, Refuses}

module _ (bs : List (Bor (List ℕ))) (i : ℕ) (d : Bor (List ℕ)) (below : i < length bs) where
  inside : i < length (map (λ b. b.now) bs)
  inside = omega (arith, below, length-map bs (λ b. b.now))

  same : get_or (map (λ b. b.now) bs) i d.now ≡ (get_or bs i d).now
  same = get_or-map (λ b. b.now) bs i d d.now below

  -- the lines up to one more
  one_more : take (i + 1) (map (λ b. b.now) bs) ≡ take i (map (λ b. b.now) bs) ++ (get_or bs i d).now ∷ []
  one_more = take_more (map (λ b. b.now) bs) i d.now inside ∙ ap (λ x. take i (map (λ b. b.now) bs) ++ x ∷ []) same

  pub wanted_more : (p : List ℕ → Bool) (lines before after : List (List ℕ)) → map (λ b. b.now) bs ≡ lines
      → before ≡ filter p (take i lines) → after ≡ before ++ filter p ((get_or bs i d).now ∷ []) → after ≡ filter p (take (i + 1) lines)
  wanted_more p lines before after is so_far more =
      more ∙ (ap (λ xs. xs ++ filter p ((get_or bs i d).now ∷ [])) so_far ∙ sym
      (subst (λ ls. filter p (take (i + 1) ls) ≡ filter p (take i ls) ++ filter p ((get_or bs i d).now ∷ [])) is
      (ap (filter p) one_more ∙ filter-append p (take i (map (λ b. b.now) bs)) ((get_or bs i d).now ∷ []))))

  split : map (λ b. b.now) bs ≡ take i (map (λ b. b.now) bs) ++ (get_or bs i d).now ∷ drop (suc i) (map (λ b. b.now) bs)
  split = sym (take-append-drop i (map (λ b. b.now) bs))
      ∙ ap (λ x. take i (map (λ b. b.now) bs) ++ x) (drop-cons (map (λ b. b.now) bs) i d.now inside ∙ ap (λ x. x ∷ drop (suc i) (map (λ b. b.now) bs)) same)

  -- an error at this line
  pub refused : (names : List (List ℕ)) (text : List ℕ) (claims : List Claim) (e : ClaimsError) → map (λ b. b.now) bs ≡ lines_of text
      → map (text_of names) claims ≡ filter is_claim_line (take i (lines_of text)) → IsAt (i + 1) (get_or bs i d).now e → Refuses names text e
  refused names text claims Memory is read at = tt
  refused names text claims (NotAClaim n column) is read at = record {
    before = take i (lines_of text);
    line = (get_or bs i d).now;
    after = drop (suc i) (lines_of text);
    lines = subst (λ ls. ls ≡ take i ls ++ (get_or bs i d).now ∷ drop (suc i) ls) is split;
    claims = claims;
    read = read;
    at = subst (λ k. IsAt (k + 1) (get_or bs i d).now (NotAClaim n column)) (sym (subst (λ ls. length (take i ls) ≡ i) is (length-take-le i (map (λ b. b.now) bs) (omega (arith, inside))))) at;
  }

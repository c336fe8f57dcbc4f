-- The lines of a text, one by one.
use Rattle.std.proofs.Common.{◌≡◌, ◌∙◌, ℕ, ◌+◌, ◌<◌, suc, List, [], ◌∷◌, ◌++◌, length, map, filter, take, drop, get_or, sym, ap, subst, arith, Bor}
use Rattle.std.proofs.lemmas.List.{take_more, get_or-map, length-map, length-take-le, take-append-drop}
use Rattle.std.proofs.lemmas.List.Elements.{filter-append}
use Rattle.std.proofs.Math.Seq.{drop-cons}
use Rattle.radio_faults.specs.declared.fault.Fault.{Fault}
use Rattle.radio_faults.specs.declared.error.FaultsError.{FaultsError}
use Rattle.radio_faults.specs.declared.error.FaultsError.TheVariants.{Memory, NotAFault}
use Rattle.radio_faults.specs.FaultLines.{AddsLine, AreFaults, Refuses, RefusesLine, is_fault_line, lines_of}

module _ (bs : List (Bor (List ℕ))) (i : ℕ) (d : Bor (List ℕ)) (below : i < length bs) where
  inside : i < length (map (λ b. b.now) bs)
  inside = omega (arith, below, length-map bs (λ b. b.now))

  same : get_or (map (λ b. b.now) bs) i d.now ≡ (get_or bs i d).now
  same = get_or-map (λ b. b.now) bs i d d.now below

  one_more : take (i + 1) (map (λ b. b.now) bs) ≡ take i (map (λ b. b.now) bs) ++ (get_or bs i d).now ∷ []
  one_more = take_more (map (λ b. b.now) bs) i d.now inside ∙ ap (λ x. take i (map (λ b. b.now) bs) ++ x ∷ []) same

  -- the faults of one line more
  pub faults_more : (lines : List (List ℕ)) (old new : List Fault) → map (λ b. b.now) bs ≡ lines → AreFaults (take i lines) old
      → AddsLine (get_or bs i d).now old new → AreFaults (take (i + 1) lines) new
  faults_more lines old new is so_far more = (
    more.0 ∙ (ap (λ xs. xs ++ filter is_fault_line ((get_or bs i d).now ∷ [])) so_far.0 ∙ sym
        (subst (λ ls. filter is_fault_line (take (i + 1) ls) ≡ filter is_fault_line (take i ls) ++ filter is_fault_line ((get_or bs i d).now ∷ [])) is
        (ap (filter is_fault_line) one_more ∙ filter-append is_fault_line (take i (map (λ b. b.now) bs)) ((get_or bs i d).now ∷ [])))),
    more.1 so_far.1,
  )

  split : map (λ b. b.now) bs ≡ take i (map (λ b. b.now) bs) ++ (get_or bs i d).now ∷ drop (suc i) (map (λ b. b.now) bs)
  split = sym (take-append-drop i (map (λ b. b.now) bs))
      ∙ ap (λ x. take i (map (λ b. b.now) bs) ++ x) (drop-cons (map (λ b. b.now) bs) i d.now inside ∙ ap (λ x. x ∷ drop (suc i) (map (λ b. b.now) bs)) same)

  -- an error at this line
  pub refused : (text : List ℕ) (faults : List Fault) (e : FaultsError) → map (λ b. b.now) bs ≡ lines_of text
      → AreFaults (take i (lines_of text)) faults → RefusesLine (i + 1) (get_or bs i d).now e → Refuses text e
  refused text faults Memory is read at = tt
  refused text faults (NotAFault n column) is read at = record {
    before = take i (lines_of text);
    line = (get_or bs i d).now;
    after = drop (suc i) (lines_of text);
    lines = subst (λ ls. ls ≡ take i ls ++ (get_or bs i d).now ∷ drop (suc i) ls) is split;
    faults = faults;
    read = read;
    should_be = at.0;
    at = at.1.0 ∙ ap (λ k. k + 1) (sym (subst (λ ls. length (take i ls) ≡ i) is (length-take-le i (map (λ b. b.now) bs) (omega (arith, inside)))));
    column_is = at.1.1;
    other = at.1.2;
  }

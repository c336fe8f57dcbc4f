-- Copies that are taken early: they were sent in the window in which they are taken, or in a later one.
use Rattle.std.proofs.Common.{[], ◌≡◌, ℕ, zero, suc, ◌+◌, ◌-◌, ◌<◌, ◌≤◌, true, false, List, ◌∷◌, ◌++◌, map, filter, refl, sym, ap, ◌∙◌, arith, subst, append_assoc, append-nil}
use Rattle.std.proofs.lemmas.List.Elements.{filter-append}
use Rattle.std.specs.List.{AllByRecursion as Each}
use Rattle.copy_exchange.specs.Laws.{EarlyIsUnseen}
use Rattle.copy_exchange.specs.Pushes.{marks_in, pushes, sent_before}
use Rattle.copy_exchange.specs.Takers.{copies_in}
use Rattle.copy_inbox.specs.Items.{HasPrefix}
use Rattle.copy_inbox.specs.declared.items.Carried.{Carried}
use Rattle.copy_inbox.specs.declared.items.Carried.TheVariants.{Packet, Mark}
use Rattle.radio_packet.specs.declared.copy.RadioCopy.{RadioCopy}
use Rattle.window_laws.proofs.Lists.{every_append, filter_none}
use Rattle.copy_exchange.proofs.Parts.{copies_in-append}
use Rattle.copy_exchange.proofs.Whole.{closed, closed_pushes, closed_after, none_closed, marks_pushes}

copies_window : (cs : List RadioCopy) (n : ℕ) → copies_in (map Packet cs ++ Mark n ∷ []) ≡ cs
copies_window [] n = refl
copies_window (c ∷ cs) n = ap (λ l. c ∷ l) (copies_window cs n)

pub copies_pushes : (k : ℕ) (sent : ℕ → List RadioCopy) → copies_in (pushes k sent) ≡ sent_before k sent
copies_pushes zero sent = refl
copies_pushes (suc k) sent =
    copies_in-append (pushes k sent) (map Packet (sent k) ++ Mark k ∷ [])
    ∙ (ap (λ l. l ++ copies_in (map Packet (sent k) ++ Mark k ∷ [])) (copies_pushes k sent) ∙ ap (λ l. sent_before k sent ++ l) (copies_window (sent k) k))

-- the items that are pushed from window k on
abbrev from_window : (k more : ℕ) → (ℕ → List RadioCopy) → List Carried
from_window k zero sent = []
from_window k (suc m) sent = from_window k m sent ++ (map Packet (sent (k + m)) ++ Mark (k + m) ∷ [])

pushes_both : (k m : ℕ) (sent : ℕ → List RadioCopy) → pushes (k + m) sent ≡ pushes k sent ++ from_window k m sent
pushes_both k zero sent = let e : k + zero ≡ k = omega arith in ap (λ n. pushes n sent) e ∙ sym (append-nil (pushes k sent))
pushes_both k (suc m) sent =
    let e : k + suc m ≡ suc (k + m) = omega arith in
    ap (λ n. pushes n sent) e
    ∙ (ap (λ l. l ++ (map Packet (sent (k + m)) ++ Mark (k + m) ∷ [])) (pushes_both k m sent) ∙ append_assoc (pushes k sent) (from_window k m sent) (map Packet (sent (k + m)) ++ Mark (k + m) ∷ []))

abbrev head_or : Carried → List Carried → Carried
head_or x [] = x
head_or x (y ∷ ys) = y

abbrev rest_of : List Carried → List Carried
rest_of [] = []
rest_of (y ∷ ys) = ys

-- of two prefixes of one list, the one with at least as many marks begins with the other, if the other ends in a mark
goes_on : (xs ys taken rest : List Carried) → xs ++ ys ≡ taken ++ rest → closed xs ≡ true → marks_in xs ≤ marks_in taken → (more : List Carried) × (taken ≡ xs ++ more) × (ys ≡ more ++ rest)
goes_on [] ys taken rest e h m = (taken, refl, e)
goes_on (x ∷ xs) ys [] rest e h m = absurd (let n = none_closed (x ∷ xs) (omega arith) h in cc)
goes_on (Packet c ∷ xs) ys (y ∷ taken) rest e h m =
    let first : Packet c ≡ y = ap (head_or y) e in
    let same : marks_in (y ∷ taken) ≡ marks_in taken = ap (λ z. marks_in (z ∷ taken)) (sym first) in
    let r = goes_on xs ys taken rest (ap rest_of e) (closed_after c xs h) (omega arith) in
    (r.0, ap (λ z. z ∷ taken) (sym first) ∙ ap (λ l. Packet c ∷ l) r.1, r.2)
goes_on (Mark n ∷ xs) ys (y ∷ taken) rest e h m =
    let first : Mark n ≡ y = ap (head_or y) e in
    let same : marks_in (y ∷ taken) ≡ suc (marks_in taken) = ap (λ z. marks_in (z ∷ taken)) (sym first) in
    let r = goes_on xs ys taken rest (ap rest_of e) h (omega arith) in
    (r.0, ap (λ z. z ∷ taken) (sym first) ∙ ap (λ l. Mark n ∷ l) r.1, r.2)

module _ (P : RadioCopy → Type 0) where
  front_each : (xs ys : List RadioCopy) → Each P (xs ++ ys) → Each P xs
  front_each [] ys h = tt
  front_each (x ∷ xs) ys h = (h.0, front_each xs ys h.1)

  back_each : (xs ys : List RadioCopy) → Each P (xs ++ ys) → Each P ys
  back_each [] ys h = h
  back_each (x ∷ xs) ys h = back_each xs ys h.1

  later_each : (k m : ℕ) (sent : ℕ → List RadioCopy) → ((j : ℕ) → k ≤ j → j < k + m → Each P (sent j)) → Each P (copies_in (from_window k m sent))
  later_each k zero sent h = tt
  later_each k (suc m) sent h =
      let one : Each P (copies_in (map Packet (sent (k + m)) ++ Mark (k + m) ∷ [])) = subst (λ l. Each P l) (sym (copies_window (sent (k + m)) (k + m))) (h (k + m) (omega arith) (omega arith)) in
      subst (λ l. Each P l) (sym (copies_in-append (from_window k m sent) (map Packet (sent (k + m)) ++ Mark (k + m) ∷ [])))
      (every_append P (copies_in (from_window k m sent)) (copies_in (map Packet (sent (k + m)) ++ Mark (k + m) ∷ [])) (later_each k m sent (λ j le lt. h j le (omega arith))) one)

  -- after the marks of all earlier windows, only copies of this window or later ones were pushed
  after_marks : (windows k : ℕ) (sent : ℕ → List RadioCopy) (taken rest : List Carried) → k ≤ windows → pushes windows sent ≡ taken ++ rest → k ≤ marks_in taken
      → ((j : ℕ) → k ≤ j → j < windows → Each P (sent j)) → (more : List Carried) × (taken ≡ pushes k sent ++ more) × Each P (copies_in (more ++ rest))
  after_marks windows k sent taken rest le e low h =
      let is : windows ≡ k + (windows - k) = omega arith in
      let f = sym (pushes_both k (windows - k) sent) ∙ (ap (λ i. pushes i sent) (sym is) ∙ e) in
      let g = goes_on (pushes k sent) (from_window k (windows - k) sent) taken rest f (closed_pushes k sent) (let c = marks_pushes k sent in omega arith) in
      (g.0, g.1, subst (λ l. Each P (copies_in l)) g.2 (later_each k (windows - k) sent (λ j ge lt. h j ge (omega arith))))

  -- so each copy that is taken after these marks was sent in this window or a later one
  pub taken_late : (windows k : ℕ) (sent : ℕ → List RadioCopy) (had more : List Carried) → k ≤ windows → HasPrefix (pushes windows sent) (had ++ more) → k ≤ marks_in had
      → ((j : ℕ) → k ≤ j → j < windows → Each P (sent j)) → Each P (copies_in more)
  taken_late windows k sent had more le begins low h =
      let rest : List Carried = begins.0 in
      let a = after_marks windows k sent had (more ++ rest) le (begins.1 ∙ append_assoc had more rest) low h in
      let both = back_each (copies_in a.0) (copies_in (more ++ rest)) (subst (λ l. Each P l) (copies_in-append a.0 (more ++ rest)) a.2) in
      front_each (copies_in more) (copies_in rest) (subst (λ l. Each P l) (copies_in-append more rest) both)

pub early_is_unseen : EarlyIsUnseen
early_is_unseen sees windows window sent taken within begins lead none =
    let Unseen : RadioCopy → Type 0 = λ c. sees c ≡ false in
    let a = after_marks Unseen windows window sent taken begins.0 within begins.1 lead none in
    let unseen = front_each Unseen (copies_in a.0) (copies_in begins.0) (subst (λ l. Each Unseen l) (copies_in-append a.0 begins.0) a.2) in
    ap (λ l. filter sees (copies_in l)) a.1
    ∙ (ap (filter sees) (copies_in-append (pushes window sent) a.0 ∙ ap (λ l. l ++ copies_in a.0) (copies_pushes window sent))
    ∙ (filter-append sees (sent_before window sent) (copies_in a.0)
    ∙ (ap (λ l. filter sees (sent_before window sent) ++ l) (filter_none sees (copies_in a.0) unseen) ∙ append-nil (filter sees (sent_before window sent)))))

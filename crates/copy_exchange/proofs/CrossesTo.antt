-- The copies that each worker gathered are those that crossed to it.
use Rattle.std.proofs.Common.{[], ◌≡◌, ◌⊎◌, ℕ, Bool, true, false, cond, not, ◌&&◌, eqb, List, ◌∷◌, ◌++◌, refl, sym, ap, ◌∙◌, subst, inl, inr, append_assoc}
use Rattle.std.proofs.lemmas.Bool.{cases_Bool}
use Rattle.std.proofs.lemmas.List.Elements.{filter-append}
use Rattle.std.specs.Prelude.{IsPermutation}
use Rattle.copy_exchange.specs.Crossed.{is_own, crossed}
use Rattle.radio_packet.specs.declared.copy.RadioCopy.{RadioCopy}
use Rattle.radio_packet.specs.declared.sent.Sent.{Sent}
use Rattle.window_laws.proofs.Lists.{filter_filter, filter_every, filter_none, filter_never, every_weaker}
use Rattle.window_laws.specs.Forward.{RunsForward}
use Rattle.window_laws.specs.System.{System}
use Rattle.window_laws.specs.Windows.{LoneMote, copies_by, is_from_sender, is_sent_by, IsJoined, as_log}
use Rattle.std.specs.List.{filter, flat_map, AllByRecursion}
use Rattle.std.proofs.lemmas.List.Sorted.{IsPermutation-refl, IsPermutation-sym, IsPermutation-trans, IsPermutation-cons, IsPermutation-middle, IsPermutation-append_left, IsPermutation-append_right, IsPermutation-append_comm}
use Rattle.window_laws.specs.Order.{is_before, insert_by, sorted_by}
use Rattle.window_laws.proofs.Order.{in_order_same}
use Rattle.copy_exchange.specs.CrossesTo.{crosses_to, AreThoseTo}

module _ {X : Type 0} (first second : X → ℕ) where
  inserted : (x : X) (ys : List X) → IsPermutation (x ∷ ys) (insert_by first second x ys)
  inserted x [] = IsPermutation-refl (x ∷ [])
  inserted x (y ∷ ys) =
      elim (cases_Bool (is_before first second x y)) [
        | inl e ↦ rw e (IsPermutation-refl (x ∷ y ∷ ys))
        | inr e ↦ rw e (IsPermutation-trans _ _ _ (IsPermutation-middle (x ∷ []) y ys) (IsPermutation-cons y _ _ (inserted x ys)))
      ]

  sorted : (xs : List X) → IsPermutation xs (sorted_by first second xs)
  unfolding sorted_by
  sorted [] = IsPermutation-refl []
  sorted (x ∷ xs) = IsPermutation-trans _ _ _ (IsPermutation-cons x _ _ (sorted xs)) (inserted x (sorted_by first second xs))

module _ (copies : Sent → List RadioCopy) (p : RadioCopy → Bool) where
  abbrev passing : List Sent → List RadioCopy
  passing sends = filter p (flat_map copies sends)

  passing-append : (xs ys : List Sent) → passing (xs ++ ys) ≡ passing xs ++ passing ys
  passing-append [] ys = refl
  passing-append (x ∷ xs) ys =
      ap (filter p) (ap (λ l. copies x ++ l) (of_append xs ys) ∙ sym (append_assoc (copies x) _ _)) ∙ filter-append p (copies x ++ flat_map copies xs) (flat_map copies ys)
    where
      of_append : (xs ys : List Sent) → flat_map copies (xs ++ ys) ≡ flat_map copies xs ++ flat_map copies ys
      of_append [] ys = refl
      of_append (z ∷ zs) ys = ap (λ l. copies z ++ l) (of_append zs ys) ∙ sym (append_assoc (copies z) _ _)

  passing-cons : (x : Sent) (xs : List Sent) → passing (x ∷ xs) ≡ filter p (copies x) ++ passing xs
  passing-cons x xs = filter-append p (copies x) (flat_map copies xs)

  -- if a packet is inserted in order, the copies that pass are permuted
  inserted_passing : (first second : Sent → ℕ) (x : Sent) (ys : List Sent) → IsPermutation (passing (x ∷ ys)) (passing (insert_by first second x ys))
  inserted_passing first second x [] = IsPermutation-refl (passing (x ∷ []))
  inserted_passing first second x (y ∷ ys) =
      elim (cases_Bool (is_before first second x y)) [
        | inl e ↦ rw e (IsPermutation-refl (passing (x ∷ y ∷ ys)))
        | inr e ↦ rw e (
            subst (λ l. IsPermutation l (passing (y ∷ insert_by first second x ys))) (sym (passing-cons x (y ∷ ys) ∙ ap (λ l. filter p (copies x) ++ l) (passing-cons y ys)))
            (subst (λ l. IsPermutation (filter p (copies x) ++ (filter p (copies y) ++ passing ys)) l) (sym (passing-cons y (insert_by first second x ys)))
            (IsPermutation-trans _ _ _ (swapped (filter p (copies x)) (filter p (copies y)) (passing ys))
            (IsPermutation-append_right (filter p (copies y)) _ _ (subst (λ l. IsPermutation l (passing (insert_by first second x ys))) (passing-cons x ys) (inserted_passing first second x ys))))))
      ]
    where
      swapped : (a b c : List RadioCopy) → IsPermutation (a ++ (b ++ c)) (b ++ (a ++ c))
      swapped a b c =
          subst (λ l. IsPermutation l (b ++ (a ++ c))) (append_assoc a b c)
          (subst (λ l. IsPermutation ((a ++ b) ++ c) l) (append_assoc b a c) (IsPermutation-append_left c _ _ (IsPermutation-append_comm a b)))

  sorted_passing : (first second : Sent → ℕ) (xs : List Sent) → IsPermutation (passing xs) (passing (sorted_by first second xs))
  unfolding sorted_by
  sorted_passing first second [] = IsPermutation-refl []
  sorted_passing first second (x ∷ xs) =
      IsPermutation-trans _ _ _
      (subst (λ l. IsPermutation l (passing (x ∷ sorted_by first second xs))) (sym (passing-cons x xs))
      (subst (λ l. IsPermutation (filter p (copies x) ++ passing xs) l) (sym (passing-cons x (sorted_by first second xs))) (IsPermutation-append_right (filter p (copies x)) _ _ (sorted_passing first second xs))))
      (inserted_passing first second x (sorted_by first second xs))

same_by_sender : (xs ys : List RadioCopy) → ((s : ℕ) → filter (is_from_sender s) xs ≡ filter (is_from_sender s) ys) → IsPermutation xs ys
same_by_sender xs ys h =
    IsPermutation-trans _ _ _ (sorted (λ copy. copy.sender) (λ copy. copy.number) xs)
    (subst (λ l. IsPermutation l ys) (sym (in_order_same xs ys h)) (IsPermutation-sym _ _ (sorted (λ copy. copy.sender) (λ copy. copy.number) ys)))

same_tests : (p q : RadioCopy → Bool) (xs : List RadioCopy) → AllByRecursion (λ x. p x ≡ q x) xs → filter p xs ≡ filter q xs
same_tests p q [] h = refl
same_tests p q (x ∷ xs) h = let ih = same_tests p q xs h.1 in rw h.0 (ap (λ l. cond (q x) (x ∷ l) l) ih)

module _ {S L : Type 0} (system : System S L) (fine : RunsForward system) where
  -- the copies of one sender among the copies of all packets
  from_sender : (s : ℕ) (sends : List Sent) → filter (is_from_sender s) (flat_map system.copies sends) ≡ flat_map system.copies (filter (is_sent_by s) sends)
  from_sender s [] = refl
  from_sender s (x ∷ xs) =
      filter-append (is_from_sender s) (system.copies x) (flat_map system.copies xs)
      ∙ (ap (λ l. filter (is_from_sender s) (system.copies x) ++ l) (from_sender s xs) ∙ of_one (cases_Bool (eqb x.sender s)))
    where
      of_one : (eqb x.sender s ≡ true) ⊎ (eqb x.sender s ≡ false) → filter (is_from_sender s) (system.copies x) ++ flat_map system.copies (filter (is_sent_by s) xs) ≡ flat_map system.copies (filter (is_sent_by s) (x ∷ xs))
      of_one (inl e) = rw e (ap (λ l. l ++ flat_map system.copies (filter (is_sent_by s) xs)) (filter_every (is_from_sender s) (system.copies x) (every_weaker _ _ (λ c h. ap (λ k. eqb k s) h.sender ∙ e) (system.copies x) (fine.copies_later x))))
      of_one (inr e) = rw e (ap (λ l. l ++ flat_map system.copies (filter (is_sent_by s) xs)) (filter_none (is_from_sender s) (system.copies x) (every_weaker _ _ (λ c h. ap (λ k. eqb k s) h.sender ∙ e) (system.copies x) (fine.copies_later x))))

  -- the copies gathered from each sender are those that crossed
  pub crossed_once : (owners : List ℕ) (motes : ℕ → LoneMote S L) (v : ℕ) (gathered : List RadioCopy) (joined : List Sent)
      → ((s : ℕ) → AllByRecursion (λ copy. copy.sender ≡ s) (copies_by system motes s)) → IsJoined system motes joined
      → ((s : ℕ) → filter (is_from_sender s) gathered ≡ crossed system owners motes v s)
      → AreThoseTo system.copies owners v (as_log joined) gathered
  crossed_once owners motes v gathered joined senders is matches =
      IsPermutation-trans _ _ _
      (IsPermutation-sym _ _ (sorted_passing system.copies (crosses_to owners v) (λ sent. sent.at) (λ sent. sent.sender) joined))
      (same_by_sender _ gathered each)
    where
      of_sender : (s : ℕ) → filter (crosses_to owners v) (copies_by system motes s) ≡ crossed system owners motes v s
      of_sender s =
          same_tests (crosses_to owners v) (λ c. not (is_own owners v s) && is_own owners v c.to) (copies_by system motes s) (every_weaker _ _ (λ c h. ap (λ k. not (is_own owners v k) && is_own owners v c.to) h) _ (senders s))
          ∙ by_case (cases_Bool (is_own owners v s))
        where
          by_case : (is_own owners v s ≡ true) ⊎ (is_own owners v s ≡ false) → filter (λ c. not (is_own owners v s) && is_own owners v c.to) (copies_by system motes s) ≡ crossed system owners motes v s
          by_case (inl e) = rw e (filter_never (copies_by system motes s))
          by_case (inr e) = rw e refl

      each : (s : ℕ) → filter (is_from_sender s) (filter (crosses_to owners v) (flat_map system.copies joined)) ≡ filter (is_from_sender s) gathered
      each s =
          filter_filter (is_from_sender s) (crosses_to owners v) (flat_map system.copies joined)
          ∙ (ap (filter (crosses_to owners v)) (from_sender s joined ∙ ap (flat_map system.copies) (is s)) ∙ (of_sender s ∙ sym (matches s)))

-- The copies that cross between workers make up the copies for each mote in a window.
use Rattle.std.proofs.Common.{◌≡◌, ◌⊎◌, ℕ, Bool, true, false, not, ◌&&◌, eqb, List, ◌++◌, refl, sym, ap, ◌∙◌, arith, inl, inr, Option, Some, None}
use Rattle.std.proofs.lemmas.Bool.{cases_Bool, false≢true, eqb-true}
use Rattle.std.proofs.lemmas.Bool.Decides.{nat_tests}
use Rattle.std.proofs.lemmas.List.Elements.{filter-append}
use Rattle.std.specs.Option.{option_map_or}
use Rattle.copy_exchange.specs.Crossed.{is_own, is_to, is_for_others, crossed, copies_seen}
use Rattle.radio_packet.specs.declared.copy.RadioCopy.{RadioCopy}
use Rattle.window_laws.proofs.Lists.{filter_stronger}
use Rattle.window_laws.specs.System.{System}
use Rattle.window_laws.specs.Windows.{LoneMote, copies_by, is_at, is_from_sender, is_within, IsGiven}
use Rattle.std.specs.List.{filter, slice_get}

and_left : (a b : Bool) → (a && b) ≡ true → a ≡ true
and_left true b e = refl
and_left false b e = e

module _ {S L : Type 0} (system : System S L) (owners : List ℕ) where
  within_to : (v k from bound : ℕ) → is_own owners v k ≡ true → (c : RadioCopy) → is_within k from bound c ≡ true → is_to owners v c ≡ true
  within_to v k from bound h c e =
      let f : c.to ≡ k = eqb-true c.to k (and_left (eqb c.to k) _ e) in
      ap (is_own owners v) f ∙ h

  pub given_is : (motes : ℕ → LoneMote S L) (gathered taken : List RadioCopy) (v k from bound : ℕ) → is_own owners v k ≡ true
      → ((s : ℕ) → filter (is_from_sender s) gathered ≡ crossed system owners motes v s)
      → ((s : ℕ) → filter (is_from_sender s) taken ≡ filter (is_from_sender s) gathered)
      → (given : List RadioCopy)
      → ((t s : ℕ) → filter (is_from_sender s) (filter (is_at t) given) ≡ filter (is_at t) (filter (is_within k from bound) (copies_seen system (is_own owners v) motes taken s)))
      → IsGiven system from bound motes k given
  given_is motes gathered taken v k from bound h matches whole given is t s = is t s ∙ ap (filter (is_at t)) (of_case (cases_Bool (is_own owners v s)))
    where
      of_case : (is_own owners v s ≡ true) ⊎ (is_own owners v s ≡ false) → filter (is_within k from bound) (copies_seen system (is_own owners v) motes taken s) ≡ filter (is_within k from bound) (copies_by system motes s)
      of_case (inl e) = rw e refl
      of_case (inr e) =
          let f : filter (is_from_sender s) taken ≡ filter (is_to owners v) (copies_by system motes s) = whole s ∙ (matches s ∙ (rw e refl)) in
          rw e (ap (filter (is_within k from bound)) f ∙ filter_stronger (is_within k from bound) (is_to owners v) (within_to v k from bound h) (copies_by system motes s))

  to_outgoing : (u v : ℕ) → (u ≡ v → ⊥) → (c : RadioCopy) → is_to owners v c ≡ true → is_for_others (is_own owners u) c ≡ true
  to_outgoing u v ne c e = at (slice_get owners c.to) e
    where
      at : (o : Option ℕ) → option_map_or (λ w. eqb w v) o false ≡ true → not (option_map_or (λ w. eqb w u) o false) ≡ true
      at None e = absurd (false≢true e)
      at (Some w) e =
          let f : w ≡ v = eqb-true w v e in
          grind (arith, nat_tests)

  -- the copies that are sent in a window follow those that crossed before it
  pub crossed_next : (u v s : ℕ) → is_own owners u s ≡ true → is_own owners v s ≡ false → (u ≡ v → ⊥) → (motes next : ℕ → LoneMote S L) (out : List RadioCopy)
      → filter (is_for_others (is_own owners u)) (copies_by system next s) ≡ filter (is_for_others (is_own owners u)) (copies_by system motes s) ++ filter (is_from_sender s) out
      → crossed system owners motes v s ++ filter (is_to owners v) (filter (is_from_sender s) out) ≡ crossed system owners next v s
  crossed_next u v s h g ne motes next out e = rw g (
      ap (λ l. l ++ filter (is_to owners v) (filter (is_from_sender s) out)) (sym (strong (copies_by system motes s)))
      ∙ (sym (filter-append (is_to owners v) (filter (is_for_others (is_own owners u)) (copies_by system motes s)) (filter (is_from_sender s) out))
      ∙ (ap (filter (is_to owners v)) (sym e) ∙ strong (copies_by system next s))))
    where
      strong : (xs : List RadioCopy) → filter (is_to owners v) (filter (is_for_others (is_own owners u)) xs) ≡ filter (is_to owners v) xs
      strong xs = filter_stronger (is_to owners v) (is_for_others (is_own owners u)) (to_outgoing u v ne) xs

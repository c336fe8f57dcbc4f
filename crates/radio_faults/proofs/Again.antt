-- The text of each fault is read as this fault.
use Rattle.std.proofs.Common.{◌≡◌, ◌∙◌, ◌==◌, ℕ, zero, suc, ◌+◌, ◌%◌, ◌^◌, ◌<◌, ◌≤◌, max, min, Bool, true, false, Option, None, Some, Err, inl, inr, List, [], ◌∷◌, ◌++◌, All, codes, refl, sym, ap, ap₂, append_assoc, arith}
use Rattle.std.proofs.lemmas.Bool.{cases_eq, eq-eqb, ne_eqb}
use Rattle.std.proofs.lemmas.Bool.Decides.{nat_tests}
use Rattle.std.proofs.lemmas.List.Elements.{All-append}
use Rattle.std.specs.Fmt.{decimal}
use Rattle.std.specs.List.{slice_split}
use Rattle.std.proofs.lemmas.Fmt.{decimal_by_steps}
use Rattle.std.proofs.lemmas.List.Splits.{slice_split_at, slice_split_none}
use Rattle.radio_faults.specs.declared.fault.Fault.{Fault}
use Rattle.radio_faults.specs.declared.fault.Fault.TheVariants.{Link, Silent, Lost, LostToAll, Late, Off}
use Rattle.radio_faults.specs.FaultText.{fault_text, off_text, times_text, way_text}
use Rattle.radio_faults.specs.FaultLines.{FitsFault, ReadsLine, column_of, delay_of, later_of, mote_of, nearest, nearest_long, shared, words_of}
use Rattle.radio_faults.specs.declared.error.FaultsError.TheVariants.{NotAFault}
use Rattle.radio_faults.proofs.Numbers.{number_again}

abbrev is_space : ℕ → Bool
is_space byte = byte == 32

abbrev HasNoSpace : List ℕ → Type 0
HasNoSpace word = All (λ byte. is_space byte ≡ false) word

no_digit : (d : ℕ) → d < 10 → is_space (48 + d) ≡ false
no_digit d small = grind (arith, nat_tests)

one_digit : (d : ℕ) → d < 10 → HasNoSpace ((48 + d) ∷ [])
one_digit d small zero e h = no_digit d small
one_digit d small (suc k) e h = absurd (omega (arith, h))

more_digits : (n : ℕ) (ds : List ℕ) → 10 ≤ n → HasNoSpace ds → HasNoSpace (ds ++ ((48 + n % 10) ∷ []))
more_digits n ds ten before = All-append (λ byte. is_space byte ≡ false) ds ((48 + n % 10) ∷ []) before (one_digit (n % 10) (omega arith))

digits : (n : ℕ) → n < 2 ^ 64 → HasNoSpace (decimal n)
digits n fits = decimal_by_steps (λ _ ds. HasNoSpace ds) one_digit more_digits n fits

number_word : (n : ℕ) → n < 2 ^ 64 → (rest : List ℕ) → slice_split is_space (decimal n ++ 32 ∷ rest) ≡ decimal n ∷ slice_split is_space rest
number_word n fits rest = slice_split_at is_space (decimal n) 32 rest (digits n fits) refl

last_word : (n : ℕ) → n < 2 ^ 64 → slice_split is_space (decimal n) ≡ decimal n ∷ []
last_word n fits = slice_split_none is_space (decimal n) (digits n fits)

mote_again : (n : ℕ) → n < 2 ^ 16 → mote_of (decimal n) ≡ n
mote_again n fits = ap (λ k. min k 65535) (number_again n (omega (arith, fits))) ∙ omega (arith, fits)

delay_again : (n : ℕ) → n < 2 ^ 32 → delay_of (decimal n) ≡ n
delay_again n fits = ap (λ k. min k 4294967295) (number_again n (omega (arith, fits))) ∙ omega (arith, fits)

long : (n : ℕ) → n < 2 ^ 32 → n < 2 ^ 64
long n fits = omega (arith, fits)

later : (t u : ℕ) → (t ≡ u → ⊥) → t ≤ u → u < 2 ^ 64 → max u (min (t + 1) 18446744073709551615) ≡ u
later t u other le fits = omega (arith, other)

wide : (n : ℕ) → n < 2 ^ 16 → n < 2 ^ 64
wide n fits = omega (arith, fits)

grouped5 : (a b c d e : List ℕ) → (a ++ b ++ c ++ d ++ e) ≡ a ++ (b ++ (c ++ (d ++ e)))
grouped5 a b c d e = simp append_assoc refl

link_words : (a b : ℕ) → a < 2 ^ 64 → b < 2 ^ 64
    → words_of (fault_text (Link a b)) ≡ codes "link" ∷ decimal a ∷ codes "to" ∷ decimal b ∷ codes "is" ∷ codes "broken" ∷ []
link_words a b fa fb =
    ap words_of (grouped5 (codes "link ") (decimal a) (codes " to ") (decimal b) (codes " is broken"))
    ∙ (ap (λ ws. codes "link" ∷ ws) (number_word a fa (codes "to " ++ (decimal b ++ codes " is broken")))
    ∙ ap (λ ws. codes "link" ∷ decimal a ∷ codes "to" ∷ ws) (number_word b fb (codes "is broken")))

silent_words : (a : ℕ) → a < 2 ^ 64 → words_of (fault_text (Silent a)) ≡ codes "mote" ∷ decimal a ∷ codes "is" ∷ codes "silent" ∷ []
silent_words a fa =
    ap words_of (append_assoc (codes "mote ") (decimal a) (codes " is silent"))
    ∙ ap (λ ws. codes "mote" ∷ ws) (number_word a fa (codes "is silent"))

grouped4 : (a b c d : List ℕ) → (a ++ b ++ c ++ d) ≡ a ++ (b ++ (c ++ d))
grouped4 a b c d = simp append_assoc refl

off_from_words : (a t : ℕ) → a < 2 ^ 64 → t < 2 ^ 64
    → words_of (fault_text (Off a t None)) ≡ codes "mote" ∷ decimal a ∷ codes "is" ∷ codes "off" ∷ codes "from" ∷ decimal t ∷ codes "on" ∷ []
off_from_words a t fa ft =
    ap words_of (grouped4 (codes "mote ") (decimal a) (codes " is off from ") (decimal t ++ codes " on"))
    ∙ (ap (λ ws. codes "mote" ∷ ws) (number_word a fa (codes "is off from " ++ (decimal t ++ codes " on")))
    ∙ ap (λ ws. codes "mote" ∷ decimal a ∷ codes "is" ∷ codes "off" ∷ codes "from" ∷ ws) (number_word t ft (codes "on")))

restarts_words : (a t : ℕ) → a < 2 ^ 64 → t < 2 ^ 64
    → words_of (codes "mote " ++ decimal a ++ codes " restarts at " ++ decimal t) ≡ codes "mote" ∷ decimal a ∷ codes "restarts" ∷ codes "at" ∷ decimal t ∷ []
restarts_words a t fa ft =
    ap words_of (grouped4 (codes "mote ") (decimal a) (codes " restarts at ") (decimal t))
    ∙ (ap (λ ws. codes "mote" ∷ ws) (number_word a fa (codes "restarts at " ++ decimal t))
    ∙ ap (λ ws. codes "mote" ∷ decimal a ∷ codes "restarts" ∷ codes "at" ∷ ws) (last_word t ft))

off_to_words : (a t u : ℕ) → a < 2 ^ 64 → t < 2 ^ 64 → u < 2 ^ 64
    → words_of (off_text a ++ (decimal t ++ (codes " to " ++ decimal u)))
    ≡ codes "mote" ∷ decimal a ∷ codes "is" ∷ codes "off" ∷ codes "from" ∷ decimal t ∷ codes "to" ∷ decimal u ∷ []
off_to_words a t u fa ft fu =
    ap words_of (grouped4 (codes "mote ") (decimal a) (codes " is off from ") (decimal t ++ (codes " to " ++ decimal u)))
    ∙ (ap (λ ws. codes "mote" ∷ ws) (number_word a fa (codes "is off from " ++ (decimal t ++ (codes " to " ++ decimal u))))
    ∙ (ap (λ ws. codes "mote" ∷ decimal a ∷ codes "is" ∷ codes "off" ∷ codes "from" ∷ ws) (number_word t ft (codes "to " ++ decimal u))
    ∙ ap (λ ws. codes "mote" ∷ decimal a ∷ codes "is" ∷ codes "off" ∷ codes "from" ∷ decimal t ∷ codes "to" ∷ ws) (last_word u fu)))

-- the words of a packet, and of what follows
packet_words : (s n : ℕ) (rest : List ℕ) → s < 2 ^ 64 → n < 2 ^ 64
    → words_of (codes "packet " ++ (decimal n ++ (codes " of mote " ++ (decimal s ++ 32 ∷ rest)))) ≡ codes "packet" ∷ decimal n ∷ codes "of" ∷ codes "mote" ∷ decimal s ∷ words_of rest
packet_words s n rest fs fn =
    ap (λ ws. codes "packet" ∷ ws) (number_word n fn (codes "of mote " ++ (decimal s ++ 32 ∷ rest)))
    ∙ ap (λ ws. codes "packet" ∷ decimal n ∷ codes "of" ∷ codes "mote" ∷ ws) (number_word s fs rest)

lost_to_all_words : (s n : ℕ) → s < 2 ^ 64 → n < 2 ^ 64
    → words_of (fault_text (LostToAll s n)) ≡ codes "packet" ∷ decimal n ∷ codes "of" ∷ codes "mote" ∷ decimal s ∷ codes "is" ∷ codes "lost" ∷ []
lost_to_all_words s n fs fn =
    ap words_of (grouped5 (codes "packet ") (decimal n) (codes " of mote ") (decimal s) (codes " is lost"))
    ∙ packet_words s n (codes "is lost") fs fn

lost_words : (s n r : ℕ) → s < 2 ^ 64 → n < 2 ^ 64 → r < 2 ^ 64
    → words_of (fault_text (Lost s n r)) ≡ codes "packet" ∷ decimal n ∷ codes "of" ∷ codes "mote" ∷ decimal s ∷ codes "is" ∷ codes "lost"
    ∷ codes "on" ∷ codes "the" ∷ codes "way" ∷ codes "to" ∷ codes "mote" ∷ decimal r ∷ []
lost_words s n r fs fn fr =
    ap words_of (grouped5 (codes "packet ") (decimal n) (codes " of mote ") (decimal s) (codes " is lost" ++ way_text r))
    ∙ (packet_words s n (codes "is lost" ++ way_text r) fs fn
    ∙ ap (λ ws. codes "packet" ∷ decimal n ∷ codes "of" ∷ codes "mote" ∷ decimal s ∷ codes "is" ∷ codes "lost" ∷ codes "on" ∷ codes "the" ∷ codes "way" ∷ codes "to" ∷ codes "mote" ∷ ws) (last_word r fr))

late_words : (s n r d : ℕ) → s < 2 ^ 64 → n < 2 ^ 64 → r < 2 ^ 64 → d < 2 ^ 64
    → words_of (fault_text (Late s n r d)) ≡ codes "packet" ∷ decimal n ∷ codes "of" ∷ codes "mote" ∷ decimal s ∷ codes "is" ∷ decimal d ∷ codes "late"
    ∷ codes "on" ∷ codes "the" ∷ codes "way" ∷ codes "to" ∷ codes "mote" ∷ decimal r ∷ []
late_words s n r d fs fn fr fd =
    ap words_of (grouped5 (codes "packet ") (decimal n) (codes " of mote ") (decimal s) (codes " is " ++ (decimal d ++ (codes " late" ++ way_text r))))
    ∙ (packet_words s n (codes "is " ++ (decimal d ++ (codes " late" ++ way_text r))) fs fn
    ∙ (ap (λ ws. codes "packet" ∷ decimal n ∷ codes "of" ∷ codes "mote" ∷ decimal s ∷ codes "is" ∷ ws) (number_word d fd (codes "late" ++ way_text r))
    ∙ ap (λ ws. codes "packet" ∷ decimal n ∷ codes "of" ∷ codes "mote" ∷ decimal s ∷ codes "is" ∷ decimal d ∷ codes "late" ∷ codes "on" ∷ codes "the" ∷ codes "way" ∷ codes "to" ∷ codes "mote" ∷ ws) (last_word r fr)))

pub again : (f : Fault) → FitsFault f → nearest (words_of (fault_text f)) ≡ Some f
unfolding nearest_long
again (Link a b) fits = ap nearest (link_words a b (wide a fits.0) (wide b fits.1)) ∙ ap₂ (λ x y. Some (Link x y)) (mote_again a fits.0) (mote_again b fits.1)
again (Silent a) fits = ap nearest (silent_words a (wide a fits)) ∙ ap (λ x. Some (Silent x)) (mote_again a fits)
again (Lost s n r) fits =
    ap nearest (lost_words s n r (wide s fits.0) fits.1 (wide r fits.2))
    ∙ (ap₂ (λ x y. Some (Lost x y (mote_of (decimal r)))) (mote_again s fits.0) (number_again n fits.1) ∙ ap (λ z. Some (Lost s n z)) (mote_again r fits.2))
again (LostToAll s n) fits =
    ap nearest (lost_to_all_words s n (wide s fits.0) fits.1) ∙ ap₂ (λ x y. Some (LostToAll x y)) (mote_again s fits.0) (number_again n fits.1)
again (Late s n r d) fits =
    ap nearest (late_words s n r d (wide s fits.0) fits.1 (wide r fits.2) (long d fits.3))
    ∙ (ap₂ (λ x y. Some (Late x y (mote_of (decimal r)) (delay_of (decimal d)))) (mote_again s fits.0) (number_again n fits.1)
    ∙ ap₂ (λ x y. Some (Late s n x y)) (mote_again r fits.2) (delay_again d fits.3))
again (Off a t until) fits = times_again a t until fits
  where
    times_again : (a t : ℕ) (until : Option ℕ) → FitsFault (Off a t until) → nearest (words_of (times_text a t until)) ≡ Some (Off a t until)
    times_again a t None fits = ap nearest (off_from_words a t (wide a fits.0) fits.1) ∙ ap₂ (λ x y. Some (Off x y None)) (mote_again a fits.0) (number_again t fits.1)
    times_again a t (Some u) fits = elim (cases_eq t u) [
      | inl same ↦ (let e : (t == u) ≡ true = eq-eqb t u same in
          rw e (ap nearest (restarts_words a u (wide a fits.0) fits.2.1)
          ∙ (ap₂ (λ x y. Some (Off x y (Some y))) (mote_again a fits.0) (number_again u fits.2.1) ∙ ap (λ x. Some (Off a x (Some u))) (sym same))))
      | inr other ↦ (let e : (t == u) ≡ false = ne_eqb t u other in
          rw e (ap nearest (off_to_words a t u (wide a fits.0) fits.1 fits.2.1)
          ∙ (ap₂ (λ x y. Some (Off x y (Some (later_of y (decimal u))))) (mote_again a fits.0) (number_again t fits.1)
          ∙ ap (λ x. Some (Off a t (Some x))) (ap (λ x. max x (min (t + 1) 18446744073709551615)) (number_again u fits.2.1) ∙ later t u other fits.2.0 fits.2.1))))
    ]

some_is_one : (f g : Fault) → Some f ≡ Some g → f ≡ g
some_is_one f g same = cc

pub one_fault : (f g : Fault) → FitsFault f → FitsFault g → fault_text f ≡ fault_text g → f ≡ g
one_fault f g fits_f fits_g same = some_is_one f g (sym (again f fits_f) ∙ (ap (λ t. nearest (words_of t)) same ∙ again g fits_g))

-- the result of reading a line whose words are these
module _ (number : ℕ) (line : List ℕ) (ws : List (List ℕ)) (is : ws ≡ words_of line) where
  here : (o : Option Fault) → o ≡ nearest ws → nearest (words_of line) ≡ o
  here o read = sym (read ∙ ap nearest is)

  nearest_is : (f g : Fault) → Some f ≡ nearest ws → FitsFault g → fault_text g ≡ line → g ≡ f
  nearest_is f g read fits same = some_is_one g f (sym (again g fits) ∙ (ap (λ t. nearest (words_of t)) same ∙ here (Some f) read))

  pub none_read : None ≡ nearest ws → ReadsLine number line (Err (NotAFault number 1))
  none_read read = (refl, sym (ap (λ o. column_of o line) (here None read)), λ g fits same. absurd (cc (sym (again g fits) ∙ (ap (λ t. nearest (words_of t)) same ∙ here None read))))

  pub other_read : (f : Fault) (text : List ℕ) (column : ℕ) → Some f ≡ nearest ws → text ≡ fault_text f → (text ≡ line → ⊥) → column ≡ shared text line + 1
      → ReadsLine number line (Err (NotAFault number column))
  other_read f text column read written other at = (
    refl,
    at ∙ (ap (λ t. shared t line + 1) written ∙ sym (ap (λ o. column_of o line) (here (Some f) read))),
    λ g fits same. other (written ∙ (sym (ap fault_text (nearest_is f g read fits same)) ∙ same)),
  )

-- Copies and packets are sent one after another.
use Rattle.std.proofs.Common.{◌≡◌, ℕ, ◌+◌, ◌<◌, Bool, true, List, [], ◌∷◌, ◌++◌, length, map, take, get_or, refl, sym, ap, ◌∙◌, append-nil, append_assoc, Option, Some, None}
use Rattle.std.proofs.lemmas.Bool.{and_parts}
use Rattle.std.proofs.lemmas.List.{map-append, take_more}
use Rattle.std.proofs.lemmas.List.Concat.{flat_map-append}
use Rattle.std.proofs.lemmas.List.Elements.{filter-append, filter_map-append}
use Rattle.std.specs.List.{filter, filter_map, flat_map, list_all}
use Rattle.std.specs.Result.{OnOk}
use Rattle.copy_exchange.specs.Crossed.{is_for_others}
use Rattle.radio_medium.specs.Medium.{copy_of}
use Rattle.radio_packet.specs.declared.copy.RadioCopy.{RadioCopy}
use Rattle.radio_packet.specs.declared.fate.Fate.{Fate}
use Rattle.radio_packet.specs.declared.sent.Sent.{Sent}
use Rattle.window_laws.specs.Agenda.{Item, Packet}
use Rattle.std.specs.Prelude.{Result, Ok, Err}

-- a list that is made piece by piece from another list
module _ {A B : Type 0} (made : List A → List B) (splits : (xs ys : List A) → made (xs ++ ys) ≡ made xs ++ made ys) where
  more : (before : List B) (xs : List A) (i : ℕ) (d : A) → i < length xs → (before ++ made (take i xs)) ++ made (get_or xs i d ∷ []) ≡ before ++ made (take (i + 1) xs)
  more before xs i d lt =
      append_assoc before (made (take i xs)) (made (get_or xs i d ∷ []))
      ∙ ap (λ l. before ++ l) (sym (ap made (take_more xs i d lt) ∙ splits (take i xs) (get_or xs i d ∷ [])))

-- one more packet
pub more_sends : (before sends : List Sent) (i : ℕ) (d : Sent) → i < length sends → (before ++ take i sends) ++ get_or sends i d ∷ [] ≡ before ++ take (i + 1) sends
more_sends = more (λ sends. sends) (λ xs ys. refl)

module _ (p : RadioCopy → Bool) where
  -- the copy of one more fate
  module _ (copy : Fate → Option RadioCopy) where
    abbrev some : List Fate → List RadioCopy
    some fates = filter p (filter_map copy fates)

    some_splits : (xs ys : List Fate) → some (xs ++ ys) ≡ some xs ++ some ys
    some_splits xs ys = ap (filter p) (filter_map-append copy xs ys) ∙ filter-append p (filter_map copy xs) (filter_map copy ys)

    pub more_own : (items : List Item) (fates : List Fate) (i : ℕ) (d : Fate) → i < length fates
        → (items ++ map Packet (some (take i fates))) ++ map Packet (some (get_or fates i d ∷ [])) ≡ items ++ map Packet (some (take (i + 1) fates))
    more_own = more (λ l. map Packet (some l)) (λ xs ys. ap (map Packet) (some_splits xs ys) ∙ map-append Packet (some xs) (some ys))

    pub more_away : (before : List RadioCopy) (fates : List Fate) (i : ℕ) (d : Fate) → i < length fates
        → (before ++ some (take i fates)) ++ some (get_or fates i d ∷ []) ≡ before ++ some (take (i + 1) fates)
    more_away = more some some_splits

  -- the copies of one more packet
  module _ (copies : Sent → List RadioCopy) where
    abbrev all : List Sent → List RadioCopy
    all sends = filter p (flat_map copies sends)

    all_splits : (xs ys : List Sent) → all (xs ++ ys) ≡ all xs ++ all ys
    all_splits xs ys = ap (filter p) (flat_map-append copies xs ys) ∙ filter-append p (flat_map copies xs) (flat_map copies ys)

    one : (sent : Sent) → filter p (copies sent) ≡ all (sent ∷ [])
    one sent = ap (filter p) (sym (append-nil (copies sent)))

    pub more_sent_own : (items : List Item) (sends : List Sent) (i : ℕ) (d : Sent) → i < length sends
        → (items ++ map Packet (all (take i sends))) ++ map Packet (filter p (copies (get_or sends i d))) ≡ items ++ map Packet (all (take (i + 1) sends))
    more_sent_own items sends i d lt =
        ap (λ l. (items ++ map Packet (all (take i sends))) ++ map Packet l) (one (get_or sends i d))
        ∙ more (λ l. map Packet (all l)) (λ xs ys. ap (map Packet) (all_splits xs ys) ∙ map-append Packet (all xs) (all ys)) items sends i d lt

    pub more_sent_away : (before : List RadioCopy) (sends : List Sent) (i : ℕ) (d : Sent) → i < length sends → (before ++ all (take i sends)) ++ filter p (copies (get_or sends i d)) ≡ before ++ all (take (i + 1) sends)
    more_sent_away before sends i d lt = ap (λ l. (before ++ all (take i sends)) ++ l) (one (get_or sends i d)) ∙ more all all_splits before sends i d lt

-- if all fates are those of copies for the worker's own motes, all copies stay with the worker
module _ (own : ℕ → Bool) (sent : Sent) where
  pub all_own : (fates : List Fate) → list_all (λ (fate : Fate). own fate.to) fates ≡ true → filter (λ (copy : RadioCopy). own copy.to) (filter_map (copy_of sent) fates) ≡ filter_map (copy_of sent) fates
  all_own [] h = refl
  all_own (fate ∷ fates) h =
      let p = and_parts (own fate.to) (list_all (λ (fate : Fate). own fate.to) fates) h in
      owners fate.at p.0 (all_own fates p.1)
    where
      owners : (at : Option ℕ) → own fate.to ≡ true → filter (λ (copy : RadioCopy). own copy.to) (filter_map (copy_of sent) fates) ≡ filter_map (copy_of sent) fates
          → filter (λ (copy : RadioCopy). own copy.to) (filter_map (copy_of sent) (record { to = fate.to; at = at } ∷ fates)) ≡ filter_map (copy_of sent) (record { to = fate.to; at = at } ∷ fates)
      owners None e ih = ih
      owners (Some at) e ih = rw e (ap (λ l. record { at = at; to = fate.to; sender = sent.sender; number = sent.number; value = sent.value } ∷ l) ih)

  pub none_away : (fates : List Fate) → list_all (λ (fate : Fate). own fate.to) fates ≡ true → filter (is_for_others own) (filter_map (copy_of sent) fates) ≡ []
  none_away [] h = refl
  none_away (fate ∷ fates) h =
      let p = and_parts (own fate.to) (list_all (λ (fate : Fate). own fate.to) fates) h in
      owners fate.at p.0 (none_away fates p.1)
    where
      owners : (at : Option ℕ) → own fate.to ≡ true → filter (is_for_others own) (filter_map (copy_of sent) fates) ≡ []
          → filter (is_for_others own) (filter_map (copy_of sent) (record { to = fate.to; at = at } ∷ fates)) ≡ []
      owners None e ih = ih
      owners (Some at) e ih = rw e ih

pub on_ok : {A E P : Type 0} (r : Result A E) → P → OnOk r P
on_ok (Ok x) p = p
on_ok (Err e) p = tt

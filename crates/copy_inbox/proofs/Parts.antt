-- The items of one sender in a list.
use Rattle.std.proofs.Common.{◌≡◌, ◌≢◌, ℕ, ◌≤◌, Bool, cond, eqb, List, [], ◌∷◌, ◌++◌, map, filter, refl, sym, ap, ◌∙◌, eq-eqb, ne_eqb, append-nil, append_assoc}
use Rattle.std.proofs.lemmas.List.{map-append}
use Rattle.std.specs.List.{cons_option}
use Rattle.copy_inbox.specs.Items.{what_of, carried_copy, copies_of, ArePackets, part}
use Rattle.copy_inbox.specs.Rule.{Behind}
use Rattle.copy_inbox.specs.declared.items.Carried.{Carried}
use Rattle.copy_inbox.specs.declared.items.Carried.TheVariants.{Packet}
use Rattle.copy_inbox.specs.declared.items.Item.{Item}
use Rattle.radio_packet.specs.declared.copy.RadioCopy.{RadioCopy}
use Rattle.std.proofs.lemmas.List.Elements.{filter-append}

pub part-append : (s : ℕ) (xs ys : List Item) → part s (xs ++ ys) ≡ part s xs ++ part s ys
part-append s xs ys = ap (map what_of) (filter-append (λ (x : Item). eqb x.sender s) xs ys) ∙ map-append what_of (filter (λ (x : Item). eqb x.sender s) xs) (filter (λ (x : Item). eqb x.sender s) ys)

pub part-here : (s : ℕ) (x : Item) (xs : List Item) → x.sender ≡ s → part s (x ∷ xs) ≡ x.what ∷ part s xs
part-here s x xs e = ap (λ (b : Bool). map what_of (cond b (x ∷ filter (λ (y : Item). eqb y.sender s) xs) (filter (λ (y : Item). eqb y.sender s) xs))) (eq-eqb x.sender s e)

pub part-else : (s : ℕ) (x : Item) (xs : List Item) → x.sender ≢ s → part s (x ∷ xs) ≡ part s xs
part-else s x xs e = ap (λ (b : Bool). map what_of (cond b (x ∷ filter (λ (y : Item). eqb y.sender s) xs) (filter (λ (y : Item). eqb y.sender s) xs))) (ne_eqb x.sender s e)

-- one more item at the end
pub part-snoc_here : (s : ℕ) (xs ys : List Item) (x : Item) → x.sender ≡ s → part s (xs ++ (ys ++ x ∷ [])) ≡ part s (xs ++ ys) ++ x.what ∷ []
part-snoc_here s xs ys x e = ap (part s) (sym (append_assoc xs ys (x ∷ []))) ∙ (part-append s (xs ++ ys) (x ∷ []) ∙ ap (λ l. part s (xs ++ ys) ++ l) (part-here s x [] e))

pub part-snoc_else : (s : ℕ) (xs ys : List Item) (x : Item) → x.sender ≢ s → part s (xs ++ (ys ++ x ∷ [])) ≡ part s (xs ++ ys)
part-snoc_else s xs ys x e = ap (part s) (sym (append_assoc xs ys (x ∷ []))) ∙ (part-append s (xs ++ ys) (x ∷ []) ∙ (ap (λ l. part s (xs ++ ys) ++ l) (part-else s x [] e) ∙ append-nil (part s (xs ++ ys))))

-- the head of the queue is appended to the items taken
pub part-moved : (s : ℕ) (taken items : List Item) (x : Item) → part s ((taken ++ x ∷ []) ++ items) ≡ part s (taken ++ x ∷ items)
part-moved s taken items x = ap (part s) (append_assoc taken (x ∷ []) items)

nil_right : (xs ys : List Carried) → xs ++ ys ≡ [] → ys ≡ []
nil_right [] ys e = e
nil_right (x ∷ xs) ys e = absurd cc

nil_left : (xs ys : List Carried) → xs ++ ys ≡ [] → xs ≡ []
nil_left [] ys e = refl
nil_left (x ∷ xs) ys e = absurd cc

pub part-nil_right : (s : ℕ) (xs ys : List Item) → part s (xs ++ ys) ≡ [] → part s ys ≡ []
part-nil_right s xs ys e = nil_right (part s xs) (part s ys) (sym (part-append s xs ys) ∙ e)

pub part-nil_left : (s : ℕ) (xs ys : List Item) → part s (xs ++ ys) ≡ [] → part s xs ≡ []
part-nil_left s xs ys e = nil_left (part s xs) (part s ys) (sym (part-append s xs ys) ∙ e)

pub part-not_nil : (x : Item) (xs : List Item) → part x.sender (x ∷ xs) ≢ []
part-not_nil x xs e = let h = part-here x.sender x xs refl in absurd cc

-- ---- the order of the queue
pub behind-snoc : (s made : ℕ) (items : List Item) (x : Item) → x.sender ≢ s → Behind s made items → Behind s made (items ++ x ∷ [])
behind-snoc s made [] x n b = ((λ _. part-else s x [] n), tt)
behind-snoc s made (y ∷ ys) x n b = ((λ h. part-snoc_else s [] (y ∷ ys) x n ∙ b.0 h), behind-snoc s made ys x n b.1)

-- the items are in this order if no item is from a sender numbered `made` or above
pub behind-fresh : (s made : ℕ) (items : List Item) → ((u : ℕ) → made ≤ u → part u items ≡ []) → Behind s made items
behind-fresh s made [] none = tt
behind-fresh s made (x ∷ xs) none = ((λ h. absurd (part-not_nil x xs (none x.sender h))), behind-fresh s made xs (λ u h. part-nil_right u (x ∷ []) xs (none u h)))

-- ---- items that are packets
pub packets_copies : (items : List Item) (copies : List RadioCopy) → ArePackets items copies → copies_of items ≡ copies
packets_copies [] [] e = refl
packets_copies [] (c ∷ cs) e = absurd cc
packets_copies (x ∷ xs) [] e = absurd cc
packets_copies (x ∷ xs) (c ∷ cs) e =
    let what : x.what ≡ Packet c = cc in
    let rest : map what_of xs ≡ map Packet cs = cc in
    λ i. cons_option (carried_copy (what i)) (packets_copies xs cs rest i)

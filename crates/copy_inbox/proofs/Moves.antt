-- Each step preserves the rule.
use Rattle.std.proofs.Common.{Bool, ◌≡◌, ◌≢◌, ◌⊎◌, ℕ, zero, suc, ◌+◌, ◌^◌, ◌≤◌, ◌<◌, true, false, cond, eqb, Option, Some, None, List, [], ◌∷◌, ◌++◌, length, set, refl, sym, ap, ◌∙◌, subst, inl, inr, ⊎_elim, arith, eq-eqb, ne_eqb, length-append}
use Rattle.std.proofs.lemmas.Bool.Decides.{eqb_tells}
use Rattle.std.specs.List.{AllByRecursion as Each}
use Rattle.copy_inbox.specs.Gathered.{is_gathered}
use Rattle.copy_inbox.specs.Items.{part, carries_packet}
use Rattle.copy_inbox.specs.Rule.{PassFits, Sound, InboxRule, SeenBy, Took, Pushed}
use Rattle.copy_inbox.specs.Views.{make_taker_state, make_sender_state, make_gathered, new_taker, with_one_more, next_sender, with_marks, no_sender, with_gathered, with_pushed}
use Rattle.copy_inbox.specs.declared.items.Carried.{Carried}
use Rattle.copy_inbox.specs.declared.items.Item.{Item}
use Rattle.copy_inbox.specs.declared.rule.Gathered.{Gathered}
use Rattle.copy_inbox.specs.declared.rule.SenderState.{SenderState}
use Rattle.copy_inbox.specs.declared.rule.TakerState.{TakerState}
use Rattle.copy_inbox.specs.declared.rule.View.{View}
use Rattle.copy_inbox.specs.declared.rule.View.TheVariants.{Taking, Sending, Spent}
use mathlib.Core.Option.{some, some-injective, some-ne-none}
use lib.ListN.{get_elem?}
use Rattle.crossbeam_queue.specs.Fifo.{Pushes, Pops, Forks, Merges, Learns}
use Rattle.crossbeam_queue.proofs.Lists.{at_set, set_else, at_longer, at_last}
use Rattle.copy_inbox.proofs.Parts.{part-snoc_here, part-snoc_else, part-moved, part-nil_right, behind-snoc, behind-fresh}

-- ---- lists of views
abbrev pub All : (ℕ → View → Type 0) → List View → Type 0
All F views = (port : ℕ) (v : View) → get_elem? views port ≡ some v → F port v

all_set : (F : ℕ → View → Type 0) (views : List View) (port : ℕ) (w : View) → F port w → ((j : ℕ) (u : View) → j ≢ port → get_elem? views j ≡ some u → F j u) → All F (set views port w)
all_set F views port w mine others j u e = ⊎_elim (λ (x : (j ≡ port) × (w ≡ u)). subst (λ (y : ℕ × View). F y.0 y.1) (λ i. (sym x.0 i, x.1 i)) mine)
    (λ (x : (j ≢ port) × (get_elem? views j ≡ some u)). others j u x.0 x.1) (at_set views port j w u e)

at_end : (l : List View) (a b : View) (j : ℕ) → get_elem? (l ++ a ∷ []) j ≡ some b → (get_elem? l j ≡ some b) ⊎ ((j ≡ length l) × (a ≡ b))
at_end [] a b zero e = inr (refl, some-injective a b e)
at_end [] a b (suc j) e = absurd (some-ne-none b (sym e))
at_end (x ∷ xs) a b zero e = inl e
at_end (x ∷ xs) a b (suc j) e = ⊎_elim inl (λ (t : (j ≡ length xs) × (a ≡ b)). inr (ap suc t.0, t.1)) (at_end xs a b j e)

set_at : (l : List View) (i : ℕ) (a b : View) → get_elem? l i ≡ some b → get_elem? (set l i a) i ≡ some a
set_at [] i a b e = absurd (some-ne-none b (sym e))
set_at (x ∷ xs) zero a b e = refl
set_at (x ∷ xs) (suc i) a b e = set_at xs i a b e

-- a pass has only one view
one_view : (l : List View) (i j : ℕ) (a b : View) → get_elem? l i ≡ some a → get_elem? l j ≡ some b → i ≡ j → a ≡ b
one_view l i j a b p q e = some-injective a b (sym p ∙ (ap (get_elem? l) e ∙ q))

apart_views : (l : List View) (i j : ℕ) (d : TakerState) (p : SenderState) → get_elem? l i ≡ some (Taking d) → get_elem? l j ≡ some (Sending p) → i ≢ j
apart_views l i j d p a b e = let k = one_view l i j (Taking d) (Sending p) a b e in absurd cc

sender_state_same : (p q : SenderState) → Sending p ≡ Sending q → p ≡ q
sender_state_same p q e = cc

-- ---- each gathered sender
pub each_map : {P Q : Gathered → Type 0} (gs : List Gathered) → ((g : Gathered) → P g → Q g) → Each P gs → Each Q gs
each_map [] f h = tt
each_map (g ∷ gs) f h = (f g h.0, each_map gs f h.1)

-- a sender that has a pass isn't gathered
not_gathered : (pass_of : ℕ → Option ℕ) (gs : List Gathered) (s pass : ℕ) → Each (λ (g : Gathered). pass_of g.number ≡ None) gs → pass_of s ≡ Some pass → is_gathered gs s ≡ false
not_gathered pass_of [] s pass h e = refl
not_gathered pass_of (g ∷ gs) s pass h e = let n : g.number ≢ s = λ x. let k : pass_of g.number ≡ pass_of s = ap pass_of x in let z = h.0 in absurd cc in
    rw (ne_eqb g.number s n) (not_gathered pass_of gs s pass h.1 e)

-- ---- the first pass
one : (v w : View) (pass : ℕ) → get_elem? (w ∷ []) pass ≡ some v → (pass ≡ 0) × (w ≡ v)
one v w zero e = (refl, some-injective w v e)
one v w (suc pass) e = absurd (some-ne-none v (sym e))

pub begins : InboxRule [] (new_taker ∷ [])
begins =
    let F : ℕ → View → Type 0 = PassFits 0 (λ s. None) (make_taker_state false 0 [] []) (λ s. []) in
    record {
      taker = 0;
      pass_of = λ s. None;
      taker_state = make_taker_state false 0 [] [];
      pushed = λ s. [];
      sound = record { parts = λ s. refl; few = λ s. omega arith; unmade = λ s h. (refl, refl); still = λ s lt _. absurd (omega arith); joined = tt; apart = tt; plain = λ _ s. tt };
      taking = refl;
      sending = λ s pass e. absurd cc;
      fits = λ pass v e. let o = one v new_taker pass e in subst (λ (y : ℕ × View). F y.0 y.1) (λ i. (sym o.0 i, o.1 i)) (refl, refl);
    }

-- ---- a push
-- senders with different passes have different numbers
one_pass : (pass_of : ℕ → Option ℕ) (s t i j : ℕ) → pass_of s ≡ Some i → pass_of t ≡ Some j → j ≢ i → t ≢ s
one_pass pass_of s t i j a b n e = let k : pass_of t ≡ pass_of s = ap pass_of e in let m : Some j ≡ Some i = cc in n cc

fits_push : (taker : ℕ) (pass_of : ℕ → Option ℕ) (d : TakerState) (old now : ℕ → List Carried) (s pass j : ℕ) (u : View)
    → pass_of s ≡ Some pass → j ≢ pass → ((t : ℕ) → t ≢ s → now t ≡ old t) → PassFits taker pass_of d old j u → PassFits taker pass_of d now j u
fits_push taker pass_of d old now s pass j (Taking e) at n same f = f
fits_push taker pass_of d old now s pass j (Sending q) at n same f = (f.0, f.1 ∙ sym (same q.number (one_pass pass_of s q.number pass j at f.0 n)), f.2)
fits_push taker pass_of d old now s pass j Spent at n same f = f

longer : (l : List Carried) (c : Carried) → length l < 2 ^ 62 → length (l ++ c ∷ []) ≤ 2 ^ 62
longer l c h = omega (arith, length-append l (c ∷ []))

sends_push : (views : List View) (pass q s : ℕ) (p : SenderState) (w : View) (m : Bool) (old now : ℕ → List Carried) (x : Item) → get_elem? views pass ≡ some (Sending p) → get_elem? views q ≡ some (Sending (make_sender_state m s (old s)))
    → (q ≢ pass → s ≢ p.number) → ((t : ℕ) → t ≢ p.number → now t ≡ old t) → now p.number ≡ p.pushed ++ x.what ∷ [] → w ≡ with_pushed (Sending p) x
    → get_elem? (set views pass w) q ≡ some (Sending (make_sender_state m s (now s)))
sends_push views pass q s p w m old now x at was other same more is = ⊎_elim
    (λ (e : (eqb q pass ≡ true) × (q ≡ pass)).
    let z : make_sender_state m s (old s) ≡ p = sender_state_same (make_sender_state m s (old s)) p (one_view views q pass (Sending (make_sender_state m s (old s))) (Sending p) was at e.1) in
    let num : s ≡ p.number = ap (λ (k : SenderState). k.number) z in
    let mk : m ≡ p.marked = ap (λ (k : SenderState). k.marked) z in
    let end : w ≡ Sending (make_sender_state m s (now s)) = is ∙ (λ i. Sending (make_sender_state (sym mk i) (sym num i) ((sym more ∙ ap now (sym num)) i))) in
    ap (get_elem? (set views pass w)) e.1 ∙ (set_at views pass w (Sending p) at ∙ ap some end))
    (λ (e : (eqb q pass ≡ false) × (q ≢ pass)).
    set_else views pass q w e.1 ∙ (was ∙ (λ i. some (Sending (make_sender_state m s (sym (same s (other e.1)) i))))))
    (eqb_tells q pass)

each_snoc : (l : List Carried) (w : Carried) → Each (λ (v : Carried). carries_packet v ≡ true) l → carries_packet w ≡ true → Each (λ (v : Carried). carries_packet v ≡ true) (l ++ w ∷ [])
each_snoc [] w h k = (k, tt)
each_snoc (v ∷ vs) w h k = (h.0, each_snoc vs w h.1 k)

pub pushes : (n pass : ℕ) (p : SenderState) (x : Item) → (p.marked ≡ false → carries_packet x.what ≡ true) → x.sender ≡ p.number → length p.pushed < 2 ^ 62 → Pushes InboxRule n pass (Sending p) x (Pushed (Sending p) x)
pushes n pass p x packet of room items views _ h at =
    let d = h.taker_state in
    let w : View = with_pushed (Sending p) x in
    let mine = h.fits pass (Sending p) at in
    let now : ℕ → List Carried = λ s. part s (d.taken ++ (items ++ x ∷ [])) in
    let same : (s : ℕ) → s ≢ p.number → now s ≡ h.pushed s = λ s n. part-snoc_else s d.taken items x (λ e. n (sym e ∙ of)) ∙ h.sound.parts s in
    let more : now p.number ≡ p.pushed ++ x.what ∷ [] = part-snoc_here p.number d.taken items x of ∙ ap (λ l. l ++ x.what ∷ []) (h.sound.parts p.number ∙ sym mine.1) in
    let apart : (s : ℕ) → h.pass_of s ≡ None → s ≢ p.number = λ s e k. let z : h.pass_of s ≡ h.pass_of p.number = ap h.pass_of k in let y = mine.0 in absurd cc in (
      w,
      record {
        taker = h.taker;
        pass_of = h.pass_of;
        taker_state = d;
        pushed = now;
        sound = record {
          parts = λ s. refl;
          few = λ s. ⊎_elim (λ (t : (eqb s p.number ≡ true) × (s ≡ p.number)). let k : length (now s) ≡ length (p.pushed ++ x.what ∷ []) = ap (λ z. length (now z)) t.1 ∙ ap length more in subst (λ m. m ≤ 2 ^ 62) (sym k) (longer p.pushed x.what room))
              (λ (t : (eqb s p.number ≡ false) × (s ≢ p.number)). subst (λ (l : List Carried). length l ≤ 2 ^ 62) (sym (same s t.1)) (h.sound.few s)) (eqb_tells s p.number);
          unmade = λ s le. let o = h.sound.unmade s le in (same s (apart s o.1) ∙ o.0, o.1);
          still = h.sound.still;
          joined = each_map d.gathered (λ g j. record { was_made = j.was_made; spent = j.spent; all = same g.number (apart g.number j.spent) ∙ j.all; behind = behind-snoc g.number g.made items x (λ e. apart g.number j.spent (sym e ∙ of)) j.behind }) h.sound.joined;
          apart = h.sound.apart;
          plain = λ e s. let P : List Carried → Type 0 = λ l. Each (λ (v : Carried). carries_packet v ≡ true) l in ⊎_elim
              (λ (t : (eqb s p.number ≡ true) × (s ≡ p.number)). subst P (sym (ap now t.1 ∙ more)) (each_snoc p.pushed x.what (subst P (sym mine.1) (h.sound.plain e p.number)) (packet (mine.2 ∙ e))))
              (λ (t : (eqb s p.number ≡ false) × (s ≢ p.number)). subst P (sym (same s t.1)) (h.sound.plain e s)) (eqb_tells s p.number);
        };
        taking = set_else views pass h.taker w (apart_views views h.taker pass d p h.taking at) ∙ h.taking;
        sending = λ s q e. sends_push views pass q s p w d.marked h.pushed now x at (h.sending s q e) (λ n k. n (let z : h.pass_of s ≡ h.pass_of p.number = ap h.pass_of k in let y = mine.0 in let m : Some q ≡ Some pass = cc in cc)) same more refl;
        fits = all_set (PassFits h.taker h.pass_of d now) views pass w (mine.0, sym more, mine.2) (λ j u other e. fits_push h.taker h.pass_of d h.pushed now p.number pass j u mine.0 other same (h.fits j u e));
      },
      refl,
    )

pub pushes_as : (n pass : ℕ) (v : View) (p : SenderState) (x : Item) → v ≡ Sending p → (p.marked ≡ false → carries_packet x.what ≡ true) → x.sender ≡ p.number → length p.pushed < 2 ^ 62 → Pushes InboxRule n pass v x (Pushed v x)
pushes_as n pass v p x is packet of room = subst (λ (u : View). Pushes InboxRule n pass u x (Pushed u x)) (sym is) (pushes n pass p x packet of room)

-- ---- a pop
sound_of : (d e : TakerState) (pass_of : ℕ → Option ℕ) (pushed : ℕ → List Carried) (items : List Item) → e ≡ d → Sound d pass_of pushed items → Sound e pass_of pushed items
sound_of d e pass_of pushed items is s = subst (λ (k : TakerState). Sound k pass_of pushed items) (sym is) s

fits_take : (taker : ℕ) (pass_of : ℕ → Option ℕ) (d e : TakerState) (pushed : ℕ → List Carried) (j : ℕ) (u : View) → j ≢ taker → d.marked ≡ e.marked → PassFits taker pass_of d pushed j u → PassFits taker pass_of e pushed j u
fits_take taker pass_of d e pushed j (Taking k) n m f = absurd (n f.0)
fits_take taker pass_of d e pushed j (Sending q) n m f = (f.0, f.1, f.2 ∙ m)
fits_take taker pass_of d e pushed j Spent n m f = f

pub takes : (pass : ℕ) (d : TakerState) → Pops InboxRule pass (Taking d) (Took (Taking d))
takes pass d x items views h at =
    let mine = h.fits pass (Taking d) at in
    let s = sound_of h.taker_state d h.pass_of h.pushed (x ∷ items) mine.1 h.sound in
    let sends : (t q : ℕ) → h.pass_of t ≡ Some q → get_elem? views q ≡ some (Sending (make_sender_state d.marked t (h.pushed t))) = λ t q e. subst (λ (D : TakerState). get_elem? views q ≡ some (Sending (make_sender_state D.marked t (h.pushed t)))) (sym mine.1) (h.sending t q e) in
    let w : TakerState = make_taker_state d.marked d.made (d.taken ++ x ∷ []) d.gathered in (
      Taking w,
      record {
        taker = h.taker;
        pass_of = h.pass_of;
        taker_state = w;
        pushed = h.pushed;
        sound = record {
          parts = λ u. part-moved u d.taken items x ∙ s.parts u;
          few = s.few;
          unmade = s.unmade;
          still = s.still;
          joined = each_map d.gathered (λ g j. record { was_made = j.was_made; spent = j.spent; all = j.all; behind = j.behind.1 }) s.joined;
          apart = s.apart;
          plain = s.plain;
        };
        taking = ap (get_elem? (set views pass (Taking w))) (sym mine.0) ∙ set_at views pass (Taking w) (Taking d) at;
        sending = λ t q e. let was = sends t q e in set_else views pass q (Taking w) (λ k. apart_views views pass q d (make_sender_state d.marked t (h.pushed t)) at was (sym k)) ∙ was;
        fits = all_set (PassFits h.taker h.pass_of w h.pushed) views pass (Taking w) (mine.0, refl)
            (λ j u other e. fits_take h.taker h.pass_of h.taker_state w h.pushed j u (λ k. other (k ∙ sym mine.0)) (ap (λ (D : TakerState). D.marked) (sym mine.1)) (h.fits j u e));
      },
      (refl, (items, (views, pass, h, at))),
    )

pub takes_as : (pass : ℕ) (v : View) (d : TakerState) → v ≡ Taking d → Pops InboxRule pass v (Took v)
takes_as pass v d is = subst (λ (u : View). Pops InboxRule pass u (Took u)) (sym is) (takes pass d)

pub learns : (pass : ℕ) (v : View) → Learns InboxRule pass v (SeenBy v)
learns pass v items views h at = (views, pass, h, at)

-- the part of a taker's state that a step shows
abbrev pub SoundWith : TakerState → List Item → Type 0
SoundWith d items = (pass_of : ℕ → Option ℕ) × (pushed : ℕ → List Carried) × Sound d pass_of pushed items

seen : (d : TakerState) (items : List Item) → SeenBy (Taking d) items → SoundWith d items
seen d items s = let h = s.2 in (h.pass_of, h.pushed, sound_of h.taker_state d h.pass_of h.pushed items (h.fits s.1 (Taking d) s.3).1 h.sound)

pub seen_sound : (v : View) (d : TakerState) (items : List Item) → v ≡ Taking d → SeenBy v items → SoundWith d items
seen_sound v d items is s = seen d items (subst (λ (u : View). SeenBy u items) is s)

-- ---- one more sender
at_other : (pass_of : ℕ → Option ℕ) (n : ℕ) (o : Option ℕ) (s : ℕ) → s ≢ n → cond (eqb s n) o (pass_of s) ≡ pass_of s
at_other pass_of n o s e = ap (λ b. cond b o (pass_of s)) (ne_eqb s n e)

at_this : (pass_of : ℕ → Option ℕ) (n : ℕ) (o : Option ℕ) (s : ℕ) → s ≡ n → cond (eqb s n) o (pass_of s) ≡ o
at_this pass_of n o s e = ap (λ b. cond b o (pass_of s)) (eq-eqb s n e)

-- a sender with a pass isn't the sender without a pass
pass_tells_apart : (pass_of : ℕ → Option ℕ) (s n pass : ℕ) → pass_of s ≡ Some pass → pass_of n ≡ None → s ≢ n
pass_tells_apart pass_of s n pass a b e = let k : pass_of s ≡ pass_of n = ap pass_of e in absurd cc

fits_fork : (taker : ℕ) (pass_of : ℕ → Option ℕ) (d e : TakerState) (pushed : ℕ → List Carried) (n : ℕ) (o : Option ℕ) (j : ℕ) (u : View)
    → j ≢ taker → pass_of n ≡ None → d.marked ≡ e.marked → PassFits taker pass_of d pushed j u → PassFits taker (λ s. cond (eqb s n) o (pass_of s)) e pushed j u
fits_fork taker pass_of d e pushed n o j (Taking k) apart none m f = absurd (apart f.0)
fits_fork taker pass_of d e pushed n o j (Sending q) apart none m f = (at_other pass_of n o q.number (pass_tells_apart pass_of q.number n j f.0 none) ∙ f.0, f.1, f.2 ∙ m)
fits_fork taker pass_of d e pushed n o j Spent apart none m f = f

pub forks : (pass : ℕ) (d : TakerState) → Forks InboxRule pass (Taking d) (with_one_more (Taking d)) (next_sender (Taking d))
forks pass d items views h at =
    let mine = h.fits pass (Taking d) at in
    let s = sound_of h.taker_state d h.pass_of h.pushed items mine.1 h.sound in
    let sends : (t q : ℕ) → h.pass_of t ≡ Some q → get_elem? views q ≡ some (Sending (make_sender_state d.marked t (h.pushed t))) = λ t q e. subst (λ (D : TakerState). get_elem? views q ≡ some (Sending (make_sender_state D.marked t (h.pushed t)))) (sym mine.1) (h.sending t q e) in
    let w : TakerState = make_taker_state d.marked (d.made + 1) d.taken d.gathered in
    let new : SenderState = make_sender_state d.marked d.made [] in
    let vs : List View = set views pass (Taking w) in
    let pass_of : ℕ → Option ℕ = λ t. cond (eqb t d.made) (Some (length vs)) (h.pass_of t) in
    let free = s.unmade d.made (omega arith) in
    let F : ℕ → View → Type 0 = PassFits h.taker pass_of w h.pushed in
    let old : All F vs = all_set F views pass (Taking w) (mine.0, refl)
    (λ j u other e. fits_fork h.taker h.pass_of h.taker_state w h.pushed d.made (Some (length vs)) j u (λ k. other (k ∙ sym mine.0)) free.1 (ap (λ (D : TakerState). D.marked) (sym mine.1)) (h.fits j u e)) in
    let mine_new : F (length vs) (Sending new) = (at_this h.pass_of d.made (Some (length vs)) d.made refl, sym free.0, refl) in
    record {
      taker = h.taker;
      pass_of = pass_of;
      taker_state = w;
      pushed = h.pushed;
      sound = record {
        parts = s.parts;
        few = s.few;
        unmade = λ t le. let o = s.unmade t (omega arith) in (o.0, at_other h.pass_of d.made (Some (length vs)) t (omega arith) ∙ o.1);
        still = λ t lt no. ⊎_elim (λ (e : (eqb t d.made ≡ true) × (t ≡ d.made)). (length vs, at_this h.pass_of d.made (Some (length vs)) t e.1))
            (λ (e : (eqb t d.made ≡ false) × (t ≢ d.made)). let n = e.1 in let o = s.still t (omega arith) no in (o.0, at_other h.pass_of d.made (Some (length vs)) t n ∙ o.1)) (eqb_tells t d.made);
        joined = each_map d.gathered (λ g j. let lt = j.was_made in record { was_made = omega arith; spent = at_other h.pass_of d.made (Some (length vs)) g.number (omega arith) ∙ j.spent; all = j.all; behind = j.behind }) s.joined;
        apart = s.apart;
        plain = s.plain;
      };
      taking = at_longer vs (Sending new ∷ []) h.taker (Taking w) (ap (get_elem? vs) (sym mine.0) ∙ set_at views pass (Taking w) (Taking d) at);
      sending = λ t q e. ⊎_elim
          (λ (k : (eqb t d.made ≡ true) × (t ≡ d.made)).
          let here : Some (length vs) ≡ Some q = sym (at_this h.pass_of d.made (Some (length vs)) t k.1) ∙ e in
          let q_is : length vs ≡ q = cc in
          at_last vs (Sending new) q q_is ∙ (λ i. some (Sending (make_sender_state d.marked (sym k.1 i) ((sym free.0 ∙ ap h.pushed (sym k.1)) i)))))
          (λ (k : (eqb t d.made ≡ false) × (t ≢ d.made)).
          let was = sends t q (sym (at_other h.pass_of d.made (Some (length vs)) t k.1) ∙ e) in
          at_longer vs (Sending new ∷ []) q (Sending (make_sender_state d.marked t (h.pushed t))) (set_else views pass q (Taking w) (λ z. apart_views views pass q d (make_sender_state d.marked t (h.pushed t)) at was (sym z)) ∙ was))
          (eqb_tells t d.made);
      fits = λ j u e. ⊎_elim (old j u) (λ (t : (j ≡ length vs) × (Sending new ≡ u)). subst (λ (y : ℕ × View). F y.0 y.1) (λ i. (sym t.0 i, t.1 i)) mine_new) (at_end vs (Sending new) u j e);
    }

pub forks_as : (pass : ℕ) (v : View) (d : TakerState) → v ≡ Taking d → Forks InboxRule pass v (with_one_more v) (next_sender v)
forks_as pass v d is = subst (λ (u : View). Forks InboxRule pass u (with_one_more u) (next_sender u)) (sym is) (forks pass d)

-- ---- a sender gathered
pub below : (m s : ℕ) → ((m ≤ s) → ⊥) → s < m
below m s h = omega arith

fits_join : (taker : ℕ) (pass_of : ℕ → Option ℕ) (d e : TakerState) (pushed : ℕ → List Carried) (s other j : ℕ) (u : View)
    → j ≢ taker → pass_of s ≡ Some other → j ≢ other → d.marked ≡ e.marked → PassFits taker pass_of d pushed j u → PassFits taker (λ t. cond (eqb t s) None (pass_of t)) e pushed j u
fits_join taker pass_of d e pushed s other j (Taking k) apart is n m f = absurd (apart f.0)
fits_join taker pass_of d e pushed s other j (Sending q) apart is n m f = (at_other pass_of s None q.number (one_pass pass_of s q.number other j is f.0 n) ∙ f.0, f.1, f.2 ∙ m)
fits_join taker pass_of d e pushed s other j Spent apart is n m f = f

h_was : (views : List View) (pass other : ℕ) (p : SenderState) (w : View) → other ≢ pass → get_elem? (set views pass w) other ≡ some (Sending p) → get_elem? views other ≡ some (Sending p)
h_was views pass other p w two at' = ⊎_elim (λ (x : (other ≡ pass) × (w ≡ Sending p)). absurd (two x.0)) (λ (x : (other ≢ pass) × (get_elem? views other ≡ some (Sending p))). x.1) (at_set views pass other w (Sending p) at')

pub merges : (pass : ℕ) (d : TakerState) (other : ℕ) (p : SenderState) → Merges InboxRule pass (Taking d) other (Sending p) (with_gathered (Taking d) (Sending p)) Spent
merges pass d other p items views h at two at' =
    let mine = h.fits pass (Taking d) at in
    let s = sound_of h.taker_state d h.pass_of h.pushed items mine.1 h.sound in
    let sends : (t q : ℕ) → h.pass_of t ≡ Some q → get_elem? views q ≡ some (Sending (make_sender_state d.marked t (h.pushed t))) = λ t q e. subst (λ (D : TakerState). get_elem? views q ≡ some (Sending (make_sender_state D.marked t (h.pushed t)))) (sym mine.1) (h.sending t q e) in
    let g : Gathered = make_gathered p.number d.made p.pushed in
    let w : TakerState = make_taker_state d.marked d.made d.taken (g ∷ d.gathered) in
    let vs : List View = set views pass (Taking w) in
    let was = h_was views pass other p (Taking w) two at' in
    let theirs = h.fits other (Sending p) was in
    let pass_of : ℕ → Option ℕ = λ t. cond (eqb t p.number) None (h.pass_of t) in
    let F : ℕ → View → Type 0 = PassFits h.taker pass_of w h.pushed in
    let N : ℕ → View → Type 0 = λ j u. j ≢ other → F j u in
    let now : All N vs = all_set N views pass (Taking w) (λ _. (mine.0, refl))
    (λ j u apart e n. fits_join h.taker h.pass_of h.taker_state w h.pushed p.number other j u (λ k. apart (k ∙ sym mine.0)) theirs.0 n (ap (λ (D : TakerState). D.marked) (sym mine.1)) (h.fits j u e)) in
    let made : p.number < d.made = below d.made p.number (λ le. pass_tells_apart h.pass_of p.number p.number other theirs.0 (s.unmade p.number le).1 refl) in
    let none : Each (λ (k : Gathered). h.pass_of k.number ≡ None) d.gathered = each_map d.gathered (λ k j. j.spent) s.joined in
    record {
      taker = h.taker;
      pass_of = pass_of;
      taker_state = w;
      pushed = h.pushed;
      sound = record {
        parts = s.parts;
        few = s.few;
        unmade = λ t le. let o = s.unmade t le in (o.0, at_other h.pass_of p.number None t (omega arith) ∙ o.1);
        still = λ t lt no. ⊎_elim
            (λ (e : (eqb p.number t ≡ true) × (p.number ≡ t)). let yes : is_gathered w.gathered t ≡ true = rw e.0 refl in absurd cc)
            (λ (e : (eqb p.number t ≡ false) × (p.number ≢ t)). let same : is_gathered w.gathered t ≡ is_gathered d.gathered t = rw e.0 refl in
            let o = s.still t lt (sym same ∙ no) in (o.0, at_other h.pass_of p.number None t (λ z. e.1 (sym z)) ∙ o.1))
            (eqb_tells p.number t);
        joined = (
          record { was_made = made; spent = at_this h.pass_of p.number None p.number refl; all = sym theirs.1; behind = behind-fresh p.number d.made items (λ u le. part-nil_right u d.taken items (s.parts u ∙ (s.unmade u le).0)) },
          each_map d.gathered (λ k j. record { was_made = j.was_made; spent = at_other h.pass_of p.number None k.number (λ e. pass_tells_apart h.pass_of p.number k.number other theirs.0 j.spent (sym e)) ∙ j.spent; all = j.all; behind = j.behind }) s.joined,
        );
        apart = (not_gathered h.pass_of d.gathered p.number other none theirs.0, s.apart);
        plain = s.plain;
      };
      taking = set_else vs other h.taker Spent (λ z. two (sym z ∙ sym mine.0)) ∙ (ap (get_elem? vs) (sym mine.0) ∙ set_at views pass (Taking w) (Taking d) at);
      sending = λ t q e. ⊎_elim
          (λ (k : (eqb t p.number ≡ true) × (t ≡ p.number)). let no = at_this h.pass_of p.number None t k.1 in absurd cc)
          (λ (k : (eqb t p.number ≡ false) × (t ≢ p.number)).
          let was = sends t q (sym (at_other h.pass_of p.number None t k.1) ∙ e) in
          set_else vs other q Spent (λ z. k.1 (ap (λ (y : SenderState). y.number) (sender_state_same (make_sender_state d.marked t (h.pushed t)) p (one_view views q other (Sending (make_sender_state d.marked t (h.pushed t))) (Sending p) was (h_was views pass other p (Taking w) two at') z))))
          ∙ (set_else views pass q (Taking w) (λ z. apart_views views pass q d (make_sender_state d.marked t (h.pushed t)) at was (sym z)) ∙ was))
          (eqb_tells t p.number);
      fits = all_set F vs other Spent tt (λ j u apart e. now j u e apart);
    }

pub merges_as : (pass : ℕ) (v : View) (d : TakerState) (other : ℕ) (u : View) (p : SenderState) → v ≡ Taking d → u ≡ Sending p → Merges InboxRule pass v other u (with_gathered v u) Spent
merges_as pass v d other u p is is' = subst (λ (y : View × View). Merges InboxRule pass y.0 other y.1 (with_gathered y.0 y.1) Spent) (λ i. (sym is i, sym is' i)) (merges pass d other p)

-- ---- an inbox with marks, while there is no sender
fits_marks : (taker : ℕ) (pass_of : ℕ → Option ℕ) (d e : TakerState) (pushed : ℕ → List Carried) (j : ℕ) (u : View) → j ≢ taker → ((t : ℕ) → pass_of t ≡ None) → PassFits taker pass_of d pushed j u → PassFits taker pass_of e pushed j u
fits_marks taker pass_of d e pushed j (Taking k) n none f = absurd (n f.0)
fits_marks taker pass_of d e pushed j (Sending q) n none f = let z = none q.number in let k = f.0 in absurd cc
fits_marks taker pass_of d e pushed j Spent n none f = f

pub forks_marks : (pass : ℕ) (d : TakerState) → d.made ≡ 0 → Forks InboxRule pass (Taking d) (with_marks (Taking d)) (no_sender (Taking d))
forks_marks pass d zero_made items views h at =
    let mine = h.fits pass (Taking d) at in
    let s = sound_of h.taker_state d h.pass_of h.pushed items mine.1 h.sound in
    let none : (t : ℕ) → h.pass_of t ≡ None = λ t. (s.unmade t (omega arith)).1 in
    let w : TakerState = make_taker_state true d.made d.taken d.gathered in
    let vs : List View = set views pass (Taking w) in
    let F : ℕ → View → Type 0 = PassFits h.taker h.pass_of w h.pushed in
    let old : All F vs = all_set F views pass (Taking w) (mine.0, refl) (λ j u other e. fits_marks h.taker h.pass_of h.taker_state w h.pushed j u (λ k. other (k ∙ sym mine.0)) none (h.fits j u e)) in
    record {
      taker = h.taker;
      pass_of = h.pass_of;
      taker_state = w;
      pushed = h.pushed;
      sound = record { parts = s.parts; few = s.few; unmade = s.unmade; still = s.still; joined = s.joined; apart = s.apart; plain = λ e. absurd cc };
      taking = at_longer vs (Spent ∷ []) h.taker (Taking w) (ap (get_elem? vs) (sym mine.0) ∙ set_at views pass (Taking w) (Taking d) at);
      sending = λ t q e. let z = none t in absurd cc;
      fits = λ j u e. ⊎_elim (old j u) (λ (t : (j ≡ length vs) × (Spent ≡ u)). subst (λ (y : View). F j y) t.1 tt) (at_end vs Spent u j e);
    }

pub forks_marks_as : (pass : ℕ) (v : View) (d : TakerState) → v ≡ Taking d → d.made ≡ 0 → Forks InboxRule pass v (with_marks v) (no_sender v)
forks_marks_as pass v d is z = subst (λ (u : View). Forks InboxRule pass u (with_marks u) (no_sender u)) (sym is) (forks_marks pass d z)

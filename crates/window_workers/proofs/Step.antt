-- A window of all workers is one of the windows in the law of windows.
use Rattle.std.proofs.Common.{◌≡◌, ◌⊎◌, ℕ, zero, suc, ◌+◌, ◌-◌, ◌<◌, ◌≤◌, true, false, cond, ltb, eqb, List, [], ◌∷◌, ◌++◌, length, refl, sym, ap, ◌∙◌, subst, inl, inr, arith, Option, Some, None, append-nil}
use Rattle.std.proofs.lemmas.List.Elements.{filter-append}
use Rattle.std.specs.List.{filter, slice_get, AllByRecursion as Each}
use Rattle.std.specs.Option.{option_map_or}
use Rattle.copy_exchange.proofs.CutWindows.{one_more, same_copies}
use Rattle.copy_exchange.specs.Crossed.{is_own, is_to, crossed, is_for_others}
use Rattle.copy_exchange.specs.CutLaws.{GatheredCopies}
use Rattle.mote_net.specs.Net.{NetModel}
use Rattle.net_agenda.specs.NetSystem.{system_of}
use Rattle.radio_packet.specs.declared.copy.RadioCopy.{RadioCopy}
use Rattle.window_laws.proofs.Lists.{filter_filter, filter_none, every_weaker}
use Rattle.window_laws.specs.Forward.{RunsForward}
use Rattle.window_laws.specs.Windows.{Alone, first_mote, Windows, RunsAlone, copies_by, is_from_sender}
use Rattle.window_workers.specs.WorkerGroup.{IsCut}
use Rattle.worker_window.specs.Share.{Motes}
use Rattle.worker_window.specs.Window.{RunsOwnMote, IsOutgoing, outgoing_by}
use Rattle.std.proofs.lemmas.Bool.{eq-eqb, cases_Bool, eqb-true, false≢true, ltb-false, ltb-true}
use Rattle.window_laws.proofs.History.{history, unseen_since}
use Rattle.copy_exchange.proofs.Crossed.{given_is, crossed_next}
use Rattle.window_workers.proofs.Same.{own_copies_same}
use Rattle.window_workers.proofs.Sent.{every_of_each}

-- the partition gives a worker's own mote to this worker
pub own_of : (owners : List ℕ) (v k : ℕ) → is_own owners v k ≡ true → slice_get owners k ≡ Some v
own_of owners v k = at (slice_get owners k)
  where
    at : (o : Option ℕ) → option_map_or (λ w. eqb w v) o false ≡ true → o ≡ Some v
    at None e = absurd (false≢true e)
    at (Some w) e = ap Some (eqb-true w v e)

pub own_by : (owners : List ℕ) (v k : ℕ) → slice_get owners k ≡ Some v → is_own owners v k ≡ true
own_by owners v k e = let f = eq-eqb v v refl in ap (λ o. option_map_or (λ w. eqb w v) o false) e ∙ f

pub some_worker : (motes workers : ℕ) (owners : List ℕ) → IsCut motes workers owners → (k : ℕ) → k < motes → (v : ℕ) × (slice_get owners k ≡ Some v) × (v < workers)
some_worker motes workers owners cut k h = at owners k (subst (λ l. k < l) (sym cut.len) h) cut.there
  where
    at : (owners : List ℕ) (k : ℕ) → k < length owners → Each (λ w. w < workers) owners → (v : ℕ) × (slice_get owners k ≡ Some v) × (v < workers)
    at [] k h all = absurd (omega arith)
    at (x ∷ owners) zero h all = (x, refl, all.0)
    at (x ∷ owners) (suc k) h all = at owners k (omega arith) all.1

cancelled : (xs ys : List RadioCopy) → xs ++ ys ≡ xs → ys ≡ []
cancelled [] ys e = e
cancelled (x ∷ xs) ys e = cancelled xs ys (cc)

none_early : (until : ℕ) (xs : List RadioCopy) → filter (λ (copy : RadioCopy). ltb copy.at until) xs ≡ [] → Each (λ (copy : RadioCopy). until ≤ copy.at) xs
none_early until [] e = tt
none_early until (x ∷ xs) e =
    elim (cases_Bool (ltb x.at until)) [
      | inl t ↦ (let f = rw t at e in cc)
      | inr t ↦ (let f = rw t at e in (ltb-false x.at until t, none_early until xs f))
    ]

module _ (n : NetModel) (fine : RunsForward (system_of n)) (owners : List ℕ) (workers : ℕ) (cut : IsCut (length n.motes) workers owners) (from until : ℕ) (motes : Motes) (up : from < until) (short : until ≤ from + (system_of n).lookahead)
    (taken gathered : ℕ → List RadioCopy) (outgoing : ℕ → List RadioCopy) (nexts : ℕ → Motes)
    (matches : (v : ℕ) → v < workers → GatheredCopies (system_of n) owners motes v (gathered v))
    (took : (v : ℕ) → v < workers → (s : ℕ) → filter (is_from_sender s) (taken v) ≡ filter (is_from_sender s) (gathered v))
    (runs : (v : ℕ) → v < workers → (k : ℕ) → is_own owners v k ≡ true → RunsOwnMote n (is_own owners v) from until motes (nexts v) (taken v) k)
    (out : (v : ℕ) → v < workers → (s : ℕ) → outgoing_by n (is_own owners v) (nexts v) s ≡ outgoing_by n (is_own owners v) motes s ++ filter (is_from_sender s) (outgoing v))
    (goes : (v : ℕ) → v < workers → Each (IsOutgoing n owners v) (outgoing v)) where
  -- the state of all motes after the window
  abbrev pub next : Motes
  next k = option_map_or (λ w. nexts w k) (slice_get owners k) (motes k)

  pub next_is : (v k : ℕ) → is_own owners v k ≡ true → nexts v k ≡ next k
  next_is v k e = sym (ap (λ o. option_map_or (λ w. nexts w k) o (motes k)) (own_of owners v k e))

  pub led_next : Windows (system_of n) 0 from (first_mote (system_of n)) motes → Windows (system_of n) 0 until (first_mote (system_of n)) next
  unfolding system_of
  led_next led = one_more (system_of n) fine from until motes next led up short each
    where
      of_worker : (k v : ℕ) → slice_get owners k ≡ Some v → v < workers → RunsAlone (system_of n) from until motes next k
      of_worker k v e h =
          let mine = own_by owners v k e in
          let ran = runs v h k mine in
          record {
            given = ran.given;
            is_given = given_is (system_of n) owners motes (gathered v) (taken v) v k from until mine (matches v h) (took v h) ran.given ran.is_given;
            alone = subst (λ m. Alone (system_of n) k until ran.given (motes k) m) (next_is v k mine) ran.alone;
          }

      each : (k : ℕ) → k < length n.motes → RunsAlone (system_of n) from until motes next k
      each k h = let w = some_worker (length n.motes) workers owners cut k h in of_worker k w.0 w.1 w.2

  -- the copies of this mote that its worker sent to another worker
  abbrev pub out_of : (v s : ℕ) → List RadioCopy
  out_of v s = option_map_or (λ u. filter (is_from_sender s) (filter (is_to owners v) (outgoing u))) (slice_get owners s) []

  -- the copies to one other worker were for the motes of that worker
  out_copies : (u : ℕ) → u < workers → (s : ℕ) → is_own owners u s ≡ true
      → filter (is_for_others (is_own owners u)) (copies_by (system_of n) next s) ≡ filter (is_for_others (is_own owners u)) (copies_by (system_of n) motes s) ++ filter (is_from_sender s) (outgoing u)
  out_copies u h s e =
      ap (filter (is_for_others (is_own owners u))) (sym (own_copies_same n owners u (nexts u) next (λ k m. next_is u k m) s e))
      ∙ (let o = out u h s in rw e at o)

  not_own : (u : ℕ) → u < workers → (s : ℕ) → is_own owners u s ≡ false → filter (is_from_sender s) (outgoing u) ≡ []
  not_own u h s e = let o = out u h s in let p = rw e at o in sym p

  -- the copies that each worker has gathered after the window
  pub traced_next : (v : ℕ) → v < workers → (after : List RadioCopy) → ((s : ℕ) → filter (is_from_sender s) after ≡ filter (is_from_sender s) (gathered v) ++ out_of v s)
      → GatheredCopies (system_of n) owners next v after
  unfolding system_of
  traced_next v h after more s = more s ∙ (ap (λ l. l ++ out_of v s) (matches v h s) ∙ by_worker (slice_get owners s) refl)
    where
      -- a mote that doesn't exist sends nothing
      none_sent : slice_get owners s ≡ None → (x : Motes) → copies_by (system_of n) x s ≡ []
      none_sent e x = elim (cases_Bool (ltb s (length n.motes))) [
        | inl t ↦ (let w = some_worker (length n.motes) workers owners cut s (ltb-true s (length n.motes) t) in let f = sym e ∙ w.1 in cc)
        | inr f ↦ rw f refl
      ]

      by_worker : (o : Option ℕ) → slice_get owners s ≡ o → crossed (system_of n) owners motes v s ++ option_map_or (λ u. filter (is_from_sender s) (filter (is_to owners v) (outgoing u))) o [] ≡ crossed (system_of n) owners next v s
      by_worker None e =
          append-nil _
          ∙ (ap (λ l. cond (is_own owners v s) [] (filter (is_to owners v) l)) (none_sent e motes)
          ∙ sym (ap (λ l. cond (is_own owners v s) [] (filter (is_to owners v) l)) (none_sent e next)))
      by_worker (Some u) e = of_case (cases_Bool (is_own owners v s))
        where
          mine : is_own owners u s ≡ true
          mine = own_by owners u s e

          there : u < workers
          there = inside owners s e cut.there
            where
              inside : (owners : List ℕ) (s : ℕ) → slice_get owners s ≡ Some u → Each (λ w. w < workers) owners → u < workers
              inside [] s f all = cc
              inside (x ∷ owners) zero f all = let g : x ≡ u = cc in subst (λ k. k < workers) g all.0
              inside (x ∷ owners) (suc s) f all = inside owners s f all.1

          of_case : (is_own owners v s ≡ true) ⊎ (is_own owners v s ≡ false) → crossed (system_of n) owners motes v s ++ filter (is_from_sender s) (filter (is_to owners v) (outgoing u)) ≡ crossed (system_of n) owners next v s
          of_case (inl t) =
              let same : u ≡ v = (let f = sym e ∙ own_of owners v s t in cc) in
              rw t (filter_filter (is_from_sender s) (is_to owners v) (outgoing u) ∙ none_to same)
            where
              none_to : u ≡ v → filter (is_to owners v) (filter (is_from_sender s) (outgoing u)) ≡ []
              none_to same =
                  sym (filter_filter (is_from_sender s) (is_to owners v) (outgoing u))
                  ∙ ap (filter (is_from_sender s)) (filter_none (is_to owners v) (outgoing u) (every_weaker _ _ (λ (c : RadioCopy) g. ap (λ w. is_own owners w c.to) (sym same) ∙ g.to) (outgoing u) (goes u there)))
          of_case (inr f) =
              ap (λ l. crossed (system_of n) owners motes v s ++ l) (filter_filter (is_from_sender s) (is_to owners v) (outgoing u))
              ∙ crossed_next (system_of n) owners u v s mine f (λ same. false≢true (sym f ∙ (ap (λ w. is_own owners w s) (sym same) ∙ mine))) motes next (outgoing u) (out_copies u there s mine)

  -- nothing that is sent arrives before the window's end
  pub sent_late : Windows (system_of n) 0 from (first_mote (system_of n)) motes → (v : ℕ) → v < workers → Each (λ (copy : RadioCopy). until ≤ copy.at) (outgoing v)
  sent_late led v h = every_of_each (λ (copy : RadioCopy). until ≤ copy.at) (outgoing v) (λ s. of_sender s (cases_Bool (is_own owners v s)))
    where
      width : from + (until - from) ≡ until
      width = omega arith

      same_early : (s : ℕ) → filter (λ (copy : RadioCopy). ltb copy.at until) (copies_by (system_of n) next s) ≡ filter (λ (copy : RadioCopy). ltb copy.at until) (copies_by (system_of n) motes s)
      same_early s =
          ap (filter (λ (copy : RadioCopy). ltb copy.at until)) (same_copies (system_of n) fine until next (led_next led) s ∙ ap (λ t. copies_by (system_of n) (history (system_of n) t) s) (sym width))
          ∙ (unseen_since (system_of n) fine (λ (copy : RadioCopy). ltb copy.at until) from (until - from) (λ copy t. let l = ltb-true copy.at until t in omega arith) s
          ∙ ap (filter (λ (copy : RadioCopy). ltb copy.at until)) (sym (same_copies (system_of n) fine from motes led s)))

      of_sender : (s : ℕ) → (is_own owners v s ≡ true) ⊎ (is_own owners v s ≡ false) → Each (λ (copy : RadioCopy). until ≤ copy.at) (filter (is_from_sender s) (outgoing v))
      of_sender s (inr e) = subst (Each (λ (copy : RadioCopy). until ≤ copy.at)) (sym (not_own v h s e)) tt
      of_sender s (inl e) = none_early until (filter (is_from_sender s) (outgoing v)) (cancelled _ _ (
          sym (filter-append (λ (copy : RadioCopy). ltb copy.at until) (filter (is_for_others (is_own owners v)) (copies_by (system_of n) motes s)) (filter (is_from_sender s) (outgoing v)))
          ∙ (ap (filter (λ (copy : RadioCopy). ltb copy.at until)) (sym (out_copies v h s e))
          ∙ (filter_filter (λ (copy : RadioCopy). ltb copy.at until) (is_for_others (is_own owners v)) (copies_by (system_of n) next s)
          ∙ (ap (filter (is_for_others (is_own owners v))) (same_early s)
          ∙ filter_filter (is_for_others (is_own owners v)) (λ (copy : RadioCopy). ltb copy.at until) (copies_by (system_of n) motes s))))))

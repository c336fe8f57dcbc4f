-- The state of all workers after a window.
use Rattle.std.proofs.Common.{◌≡◌, ℕ, ◌+◌, ◌<◌, ◌≤◌, true, false, eqb, List, [], ◌∷◌, ◌++◌, length, map, get_or, refl, sym, ap, ◌∙◌, subst, arith, Option, Some, None}
use Rattle.std.proofs.lemmas.Bool.{ne_eqb}
use Rattle.std.proofs.lemmas.List.Elements.{filter-append}
use Rattle.std.specs.List.{filter, flat_map, zip, slice_get, AllByRecursion as Each}
use Rattle.std.specs.Option.{option_map_or}
use Rattle.copy_exchange.specs.Crossed.{is_own, is_to}
use Rattle.copy_exchange.specs.CutLaws.{GatheredCopies}
use Rattle.copy_exchange.specs.Endpoints.{delivered, delivered_to}
use Rattle.copy_exchange.specs.Takers.{copies_gathered, taken_by, gathered_by}
use Rattle.copy_inbox.specs.Handles.{TakerView}
use Rattle.copy_inbox.specs.Items.{copies_of}
use Rattle.mote_net.specs.Net.{NetModel}
use Rattle.net_agenda.specs.NetSystem.{system_of}
use Rattle.radio_packet.specs.declared.copy.RadioCopy.{RadioCopy}
use Rattle.window_laws.proofs.Lists.{filter_filter, every_weaker}
use Rattle.window_laws.specs.Forward.{RunsForward}
use Rattle.window_laws.specs.Windows.{is_from_sender}
use Rattle.window_workers.specs.JoinedLaws.{GroupRunsUntil}
use Rattle.window_workers.specs.JoinedWorker.{IsFirstOf}
use Rattle.window_workers.specs.Worker.{make_worker}
use Rattle.window_workers.specs.WorkerGroup.{WorkersAreAt, IsWorkerAt, IsCut, IsNotBefore}
use Rattle.window_workers.specs.declared.group.WorkerGroup.{WorkerGroup}
use Rattle.window_workers.specs.declared.worker.Worker.{Worker}
use Rattle.worker_window.specs.Share.{Motes, IsWholeShare}
use Rattle.worker_window.specs.Window.{RunsOwnMote, IsOutgoing, outgoing_by}
use Rattle.worker_window.specs.declared.share.Share.{Share}
use Rattle.window_workers.proofs.Choose.{choose}
use Rattle.window_workers.proofs.Lookups.{there, read, mapped, as_long, inside, each_from, each_at, zip_long, map_long}
use Rattle.window_workers.proofs.Lookups.{none_of, one_of, same_found}
use Rattle.window_workers.proofs.JoinedMoves.{Piece, piece, window}
use Rattle.window_workers.proofs.Same.{keeps_same}
use Rattle.window_workers.proofs.Step.{next, next_is, led_next, out_of, traced_next, sent_late}
use Rattle.window_workers.proofs.JoinedArrived.{each_of_every}

-- the effect of a window on one worker's part
record OnRecord : Type 0 where
  next : Motes
  taken : List RadioCopy
  gathered : List RadioCopy
  outgoing : List RadioCopy

module _ (n : NetModel) (fine : RunsForward (system_of n)) (owners : List ℕ) (from until : ℕ) (old new : WorkerGroup) (at : WorkersAreAt n owners from old) (up : from < until) (short : until ≤ from + (system_of n).lookahead) (all : GroupRunsUntil n owners until old new) where
  abbrev workers : ℕ
  workers = length old.inboxes.items

  record IsPart (v : ℕ) (z : OnRecord) : Type 0 where
    matches : GatheredCopies (system_of n) owners at.motes v z.gathered
    took : (s : ℕ) → filter (is_from_sender s) z.taken ≡ filter (is_from_sender s) z.gathered
    runs : (k : ℕ) → is_own owners v k ≡ true → RunsOwnMote n (is_own owners v) from until at.motes z.next z.taken k
    out : (s : ℕ) → outgoing_by n (is_own owners v) z.next s ≡ outgoing_by n (is_own owners v) at.motes s ++ filter (is_from_sender s) z.outgoing
    goes : Each (IsOutgoing n owners v) z.outgoing
    first : (d : Worker) → slice_get all.done v ≡ Some d → IsFirstOf z.outgoing d.first_out
    to : (d : Worker) → slice_get all.done v ≡ Some d → (u : ℕ) → delivered d.endpoint u ≡ filter (is_to owners u) z.outgoing
    keeps : (d : Worker) → slice_get all.done v ≡ Some d → IsWholeShare n owners v until z.next z.taken d.share
    taken_after : (t : TakerView) → slice_get new.takers.items v ≡ Some t → taken_by t ≡ z.taken
    gathering : (t : TakerView) → slice_get new.takers.items v ≡ Some t → gathered_by t ≡ z.gathered ++ delivered_to (map (λ (w : Worker). w.endpoint) all.done) v

  up_to : from ≤ until
  up_to = omega arith

  part : (v : ℕ) → v < workers → (z : OnRecord) × IsPart v z
  part v h = of_piece (piece n owners from until old new at all v h)
    where
      of_piece : Piece n owners from until old new at all v → (z : OnRecord) × IsPart v z
      of_piece p =
          let w = window n owners from until old new at all short up_to v p in
          let gathered_is : gathered_by p.endpoint.taker ≡ gathered_by p.taker = ap copies_gathered p.starts.same_gathered in (
            record { next = w.next; taken = taken_by p.done.endpoint.taker; gathered = gathered_by p.taker; outgoing = p.ran.outgoing },
            record {
              matches = p.here.gathered;
              took = λ s.
                  ap (λ t. filter (is_from_sender s) (taken_by t)) p.ran.delivers.taker ∙ (p.ran.collects.in_order s ∙ ap (filter (is_from_sender s)) gathered_is);
              runs = w.runs;
              out = w.out;
              goes = subst (λ k. Each (IsOutgoing n owners k) p.ran.outgoing) p.number p.ran.out;
              first = λ d e. subst (λ x. IsFirstOf p.ran.outgoing x.first_out) (same_found _ p.done d p.done_at e) p.ran.first;
              to = λ d e u.
                  ap (λ x. delivered x.endpoint u) (sym (same_found _ p.done d p.done_at e))
                  ∙ (p.ran.delivers.adds u ∙ ap (λ l. l ++ filter (is_to owners u) p.ran.outgoing) (p.ran.collects.delivers_none u ∙ p.starts.nothing u));
              keeps = λ d e. subst (λ x. IsWholeShare n owners v until w.next (taken_by p.done.endpoint.taker) x.share) (same_found _ p.done d p.done_at e) w.keeps;
              taken_after = λ t e. ap taken_by (sym (same_found _ p.gathering t p.gathering_at e)) ∙ ap copies_of p.came.same_taken;
              gathering = λ t e.
                  ap gathered_by (sym (same_found _ p.gathering t p.gathering_at e))
                  ∙ (p.came.adds
                  ∙ (ap (λ l. l ++ delivered_to (map (λ (x : Worker). x.endpoint) all.done) p.done.endpoint.worker)
                  (ap (λ x. gathered_by x) p.ran.delivers.taker ∙ (ap copies_gathered p.ran.collects.stays.gathered ∙ gathered_is))
                  ∙ ap (λ k. gathered_by p.taker ++ delivered_to (map (λ (x : Worker). x.endpoint) all.done) k) (p.ran.delivers.stays.worker ∙ (p.ran.collects.stays.worker ∙ p.number))));
            },
          )

  nothing_reported : OnRecord
  nothing_reported = record { next = at.motes; taken = []; gathered = []; outgoing = [] }

  parts : (f : ℕ → OnRecord) × ((v : ℕ) → v < workers → IsPart v (f v))
  parts = choose nothing_reported IsPart workers part

  taken : ℕ → List RadioCopy
  taken v = (parts.0 v).taken

  gathered : ℕ → List RadioCopy
  gathered v = (parts.0 v).gathered

  outgoing : ℕ → List RadioCopy
  outgoing v = (parts.0 v).outgoing

  nexts : ℕ → Motes
  nexts v = (parts.0 v).next

  is_part : (v : ℕ) → v < workers → IsPart v (parts.0 v)
  is_part v h = parts.1 v h

  matches : (v : ℕ) → v < workers → GatheredCopies (system_of n) owners at.motes v (gathered v)
  unfolding gathered
  matches v h = (is_part v h).matches

  took : (v : ℕ) → v < workers → (s : ℕ) → filter (is_from_sender s) (taken v) ≡ filter (is_from_sender s) (gathered v)
  unfolding taken gathered
  took v h = (is_part v h).took

  runs : (v : ℕ) → v < workers → (k : ℕ) → is_own owners v k ≡ true → RunsOwnMote n (is_own owners v) from until at.motes (nexts v) (taken v) k
  unfolding nexts taken
  runs v h = (is_part v h).runs

  out : (v : ℕ) → v < workers → (s : ℕ) → outgoing_by n (is_own owners v) (nexts v) s ≡ outgoing_by n (is_own owners v) at.motes s ++ filter (is_from_sender s) (outgoing v)
  unfolding nexts outgoing
  out v h = (is_part v h).out

  goes : (v : ℕ) → v < workers → Each (IsOutgoing n owners v) (outgoing v)
  unfolding outgoing
  goes v h = (is_part v h).goes

  abbrev after : Motes
  after = next n fine owners workers at.cut from until at.motes up short taken gathered outgoing nexts matches took runs out goes

  abbrev out_to : (v s : ℕ) → List RadioCopy
  out_to = out_of n fine owners workers at.cut from until at.motes up short taken gathered outgoing nexts matches took runs out goes

  late : (v : ℕ) → v < workers → Each (λ (copy : RadioCopy). until ≤ copy.at) (outgoing v)
  late = sent_late n fine owners workers at.cut from until at.motes up short taken gathered outgoing nexts matches took runs out goes at.led

  endpoints_long : length all.endpoints ≡ length old.shares.items
  endpoints_long =
      as_long _ old.takers.items all.endpoints all.starts ∙ (as_long _ old.inboxes.items old.takers.items at.settled ∙ sym at.shares)

  done_long : length all.done ≡ workers
  done_long =
      as_long _ (map make_worker (zip old.shares.items all.endpoints)) all.done all.ran
      ∙ (map_long make_worker (zip old.shares.items all.endpoints) ∙ (zip_long old.shares.items all.endpoints endpoints_long ∙ at.shares))

  -- among the copies delivered to a worker, those that one mote sent
  to_one : (v s : ℕ) → filter (is_from_sender s) (delivered_to (map (λ (w : Worker). w.endpoint) all.done) v) ≡ out_to v s
  unfolding outgoing
  to_one v s = by_endpoint ∙ of_worker (slice_get owners s) refl
    where
      by_endpoint : filter (is_from_sender s) (delivered_to (map (λ (w : Worker). w.endpoint) all.done) v) ≡ filter (is_from_sender s) (flat_map (λ (w : Worker). delivered w.endpoint v) all.done)
      by_endpoint = ap (filter (is_from_sender s)) (flat_mapped all.done)
        where
          flat_mapped : (ws : List Worker) → delivered_to (map (λ (w : Worker). w.endpoint) ws) v ≡ flat_map (λ (w : Worker). delivered w.endpoint v) ws
          flat_mapped [] = refl
          flat_mapped (w ∷ ws) = ap (λ l. delivered w.endpoint v ++ l) (flat_mapped ws)

      there_is : (i : ℕ) (d : Worker) → slice_get all.done i ≡ Some d → i < workers
      there_is i d e = subst (λ l. i < l) done_long (inside all.done i d e)

      its_copies : (i : ℕ) (d : Worker) → slice_get all.done i ≡ Some d → filter (is_from_sender s) (delivered d.endpoint v) ≡ filter (is_from_sender s) (filter (is_to owners v) (outgoing i))
      its_copies i d e =
          ap (filter (is_from_sender s)) ((is_part i (there_is i d e)).to d e v)

      not_its : (i : ℕ) (d : Worker) → slice_get all.done i ≡ Some d → is_own owners i s ≡ false → filter (is_from_sender s) (delivered d.endpoint v) ≡ []
      not_its i d e f =
          its_copies i d e
          ∙ (filter_filter (is_from_sender s) (is_to owners v) (outgoing i)
          ∙ ap (filter (is_to owners v)) (let o = out i (there_is i d e) s in let p = rw f at o in sym p))

      of_worker : (o : Option ℕ) → slice_get owners s ≡ o → filter (is_from_sender s) (flat_map (λ (w : Worker). delivered w.endpoint v) all.done) ≡ option_map_or (λ u. filter (is_from_sender s) (filter (is_to owners v) (outgoing u))) o []
      of_worker None e = none_of (is_from_sender s) (λ (w : Worker). delivered w.endpoint v) all.done (λ i d f. not_its i d f (ap (λ o. option_map_or (λ w. eqb w i) o false) e))
      of_worker (Some u) e =
          let inside_of : u < workers = each_at (λ w. w < workers) owners s u at.cut.there e in
          let d = there all.done u (subst (λ l. u < l) (sym done_long) inside_of) in
          one_of (is_from_sender s) (λ (w : Worker). delivered w.endpoint v) all.done u d.0 d.1 (λ i x f ne.
          not_its i x f (ap (λ o. option_map_or (λ w. eqb w i) o false) e ∙ ne_eqb u i (λ q. ne (sym q))))
          ∙ its_copies u d.0 d.1

  first_out : (v : ℕ) → v < workers → Each (IsNotBefore new.first_out) (outgoing v)
  unfolding outgoing
  first_out v h =
      let d = there all.done v (subst (λ l. v < l) (sym done_long) h) in
      every_weaker _ _ (λ c g. each_at _ all.done v d.0 all.first.none_before d.1 c g) (outgoing v) ((is_part v h).first d.0 d.1).none_before

  worker_after : (v : ℕ) → v < workers → (share : Share) (taker : TakerView) → IsWorkerAt n owners until after new.first_out v (get_or new.shares.items v share) (get_or new.takers.items v taker)
  unfolding nexts taken gathered
  worker_after v h share taker =
      let d = there all.done v (subst (λ l. v < l) (sym done_long) h) in
      let t = there new.takers.items v (subst (λ l. v < l) (sym takers_long) h) in
      let p = is_part v h in
      let is_share : get_or new.shares.items v share ≡ d.0.share = ap (λ l. get_or l v share) all.shares ∙ read _ v d.0.share share (mapped (λ (w : Worker). w.share) all.done v d.0 d.1) in
      let is_taker : get_or new.takers.items v taker ≡ t.0 = read new.takers.items v t.0 taker t.1 in
      let gathers : (s : ℕ) → filter (is_from_sender s) (gathered_by t.0) ≡ filter (is_from_sender s) (gathered v) ++ out_to v s = λ s. ap (filter (is_from_sender s)) (p.gathering t.0 t.1) ∙ (filter-append (is_from_sender s) (gathered v) _ ∙ ap (λ l. filter (is_from_sender s) (gathered v) ++ l) (to_one v s)) in
      subst (λ x. IsWorkerAt n owners until after new.first_out v x (get_or new.takers.items v taker)) (sym is_share)
      (subst (λ x. IsWorkerAt n owners until after new.first_out v d.0.share x) (sym is_taker) (record {
        keeps = subst (λ x. IsWholeShare n owners v until after x d.0.share) (sym (p.taken_after t.0 t.1))
            (keeps_same n owners v (nexts v) after (λ k m. next_is n fine owners workers at.cut from until at.motes up short taken gathered outgoing nexts matches took runs out goes v k m) until (taken v) d.0.share (p.keeps d.0 d.1));
        gathered = traced_next n fine owners workers at.cut from until at.motes up short taken gathered outgoing nexts matches took runs out goes v h (gathered_by t.0) gathers;
        waits = λ s. record {
          rest = out_to v s;
          all = gathers s ∙ ap (λ l. l ++ out_to v s) (sym (took v h s) ∙ ap (filter (is_from_sender s)) (sym (p.taken_after t.0 t.1)));
          later = out_later v s (slice_get owners s) refl;
        };
      }))
    where
      takers_long : length new.takers.items ≡ workers
      takers_long = as_long _ new.inboxes.items new.takers.items all.settled ∙ ap length all.inboxes

      out_later : (v s : ℕ) (o : Option ℕ) → slice_get owners s ≡ o → Each (IsNotBefore new.first_out) (option_map_or (λ u. filter (is_from_sender s) (filter (is_to owners v) (outgoing u))) o [])
      out_later v s None e = tt
      out_later v s (Some u) e =
          each_of_every _ (filter (is_to owners v) (outgoing u)) (is_from_sender s) (each_of_every _ (outgoing u) (is_to owners v) (first_out u (each_at (λ w. w < workers) owners s u at.cut.there e)))

  pub moved : WorkersAreAt n owners until new
  unfolding outgoing
  moved = record {
    motes = after;
    led = led_next n fine owners workers at.cut from until at.motes up short taken gathered outgoing nexts matches took runs out goes at.led;
    cut = subst (λ l. IsCut (length n.motes) (length l) owners) (sym all.inboxes) at.cut;
    shares = ap length all.shares ∙ (map_long (λ (w : Worker). w.share) all.done ∙ (done_long ∙ sym (ap length all.inboxes)));
    settled = all.settled;
    first = all.first.greatest until (each_from _ all.done (λ i d e.
        let h = subst (λ l. i < l) done_long (inside all.done i d e) in
        ((is_part i h).first d e).greatest until (late i h)));
    each = λ v h share taker. worker_after v (subst (λ l. v < length l) all.inboxes h) share taker;
  }

-- The items that each worker pushed into the inbox of another, and the copies of a mote among the items that a worker
-- had taken before a window.
use Rattle.std.proofs.Common.{◌≡◌, ◌≢◌, ◌⊎◌, ℕ, ◌<◌, ◌≤◌, false, eqb, List, [], ◌++◌, length, map, get_or, sym, ap, ◌∙◌, subst, inl, inr, arith, append_assoc, Some}
use Rattle.std.proofs.lemmas.Bool.{cases_lt, ne_eqb, false≢true}
use Rattle.std.proofs.lemmas.List.FromFn.{get_or-range_with_len}
use Rattle.std.specs.List.{filter, slice_get, range_with_len, AllByRecursion as Each}
use Rattle.std.specs.Option.{option_map_or}
use Rattle.copy_exchange.proofs.Early.{copies_pushes}
use Rattle.copy_exchange.proofs.Parts.{from, from-append, copies_in-append, of_one_sender}
use Rattle.copy_exchange.specs.Crossed.{is_own, is_to}
use Rattle.copy_exchange.specs.Endpoints.{pushed_list}
use Rattle.copy_exchange.specs.Pushes.{pushes}
use Rattle.copy_exchange.specs.Takers.{copies_in}
use Rattle.copy_inbox.specs.Handles.{SenderView}
use Rattle.copy_inbox.specs.Items.{copies_of, part, HasPrefix}
use Rattle.mote_net.specs.Net.{NetModel}
use Rattle.radio_packet.specs.declared.copy.RadioCopy.{RadioCopy}
use Rattle.window_laws.proofs.Lists.{filter_filter, filter_none, every_weaker}
use Rattle.window_laws.specs.Windows.{is_from_sender}
use Rattle.worker_window.specs.Window.{IsOutgoing}
use Rattle.window_workers.proofs.MarkedAll.{AllRan}
use Rattle.window_workers.proofs.Lookups.{there, inside, read, mapped, same_found, each_at}
use Rattle.window_workers.proofs.MarkedFronts.{part_begins}
use Rattle.window_workers.proofs.MarkedLists.{first_none, none_before}

-- each sender has the number of its place
pub numbered_at : (senders : List SenderView) → map (λ (s : SenderView). s.state.number) senders ≡ range_with_len 0 (length senders) → (j : ℕ) (s : SenderView) → slice_get senders j ≡ Some s → s.state.number ≡ j
numbered_at senders numbered j s e =
    sym (read (map (λ (x : SenderView). x.state.number) senders) j s.state.number 0 (mapped (λ (x : SenderView). x.state.number) senders j s e))
    ∙ (ap (λ l. get_or l j 0) numbered ∙ (get_or-range_with_len 0 (length senders) j 0 (inside senders j s e) ∙ omega arith))

-- a mote has only one worker
pub not_other : (owners : List ℕ) (v w s : ℕ) → slice_get owners s ≡ Some v → v ≢ w → is_own owners w s ≡ false
not_other owners v w s e ne = ap (λ o. option_map_or (λ x. eqb x w) o false) e ∙ ne_eqb v w ne

-- outgoing copies are from the worker's own motes
foreign_none : (n : NetModel) (owners : List ℕ) (v s : ℕ) → is_own owners v s ≡ false → (outgoing : List RadioCopy) → Each (IsOutgoing n owners v) outgoing → filter (is_from_sender s) outgoing ≡ []
foreign_none n owners v s other outgoing goes =
    filter_none (is_from_sender s) outgoing
    (every_weaker (IsOutgoing n owners v) (λ (c : RadioCopy). is_from_sender s c ≡ false) (λ c g. ne_eqb c.sender s (λ e. false≢true (sym other ∙ (ap (is_own owners v) (sym e) ∙ g.sender)))) outgoing goes)

module _ (n : NetModel) (owners : List ℕ) (width windows workers : ℕ) (all : AllRan n owners width windows workers) where
  -- the copies that worker v sent to the motes of worker u, in each window
  abbrev pub sent_to : (v u : ℕ) → ℕ → List RadioCopy
  sent_to v u k = filter (is_to owners u) ((all.histories v).outgoing k)

  pub none_sent : (v u s k : ℕ) → v < workers → k < windows → is_own owners v s ≡ false → from s (sent_to v u k) ≡ []
  none_sent v u s k there_is low other =
      filter_filter (is_from_sender s) (is_to owners u) ((all.histories v).outgoing k)
      ∙ ap (filter (is_to owners u)) (foreign_none n owners v s other ((all.histories v).outgoing k) ((all.ran v there_is).runs k low).goes)

  -- the sender of worker v on the inbox of worker u
  pub record Pair (u v : ℕ) : Type 0 where
    pub number : ℕ
    pub was_made : number < all.made u
    pub begins : HasPrefix (pushes windows (sent_to v u)) (part number (all.taken u))
    pub only : (s : SenderView) → all.sender u v ≡ Some s → s.state.number ≡ number

  pub pair : (u v : ℕ) → u < workers → v < workers → v ≢ u → Pair u v
  pair u v lu lv ne =
      let are = all.are_senders u lu in
      let w = are.of_worker v lv ne in
      let is : w.0.state.pushed ≡ pushes windows (sent_to v u) = sym (ap pushed_list w.1) ∙ (all.ran v lv).pushes_then u lu (λ e. ne (sym e)) in
      let low = inside (all.senders u) w.0.state.number w.0 w.2 in
      let long = are.made_is in
      record {
        number = w.0.state.number;
        was_made = omega arith;
        begins = subst (λ l. HasPrefix l (part w.0.state.number (all.taken u))) is
            (each_at (λ (s : SenderView). HasPrefix s.state.pushed (part s.state.number (all.taken u))) (all.senders u) w.0.state.number w.0 (all.begun u lu) w.2);
        only = λ s e. ap (λ (x : SenderView). x.state.number) (same_found (all.sender u v) s w.0 e w.1);
      }

  module _ (u : ℕ) (lu : u < workers) (k : ℕ) (le : k ≤ windows) where
    -- the items taken from this sender before the window are a prefix of those that it pushed
    pub front : (v : ℕ) (lv : v < workers) (ne : v ≢ u) → HasPrefix (pushes windows (sent_to v u)) (part (pair u v lu lv ne).number ((all.histories u).taken k))
    front v lv ne =
        let p = pair u v lu lv ne in
        let more = part_begins n owners width windows workers u (all.made u) (all.taken u) (λ w. pushed_list (all.sender w u)) (all.histories u) (all.ran u lu) k le p.number in
        (more.0 ++ p.begins.0, p.begins.1 ∙ (ap (λ l. l ++ p.begins.0) more.1 ∙ append_assoc (part p.number ((all.histories u).taken k)) more.0 p.begins.0))

    module _ (s : ℕ) where
      none_of_pair : (v : ℕ) (lv : v < workers) (ne : v ≢ u) → is_own owners v s ≡ false → from s (copies_in (part (pair u v lu lv ne).number ((all.histories u).taken k))) ≡ []
      none_of_pair v lv ne other =
          let f = front v lv ne in
          let had = part (pair u v lu lv ne).number ((all.histories u).taken k) in
          first_none (from s (copies_in had)) (from s (copies_in f.0))
          (sym (from-append s (copies_in had) (copies_in f.0))
          ∙ (ap (from s) (sym (copies_in-append had f.0))
          ∙ (ap (λ l. from s (copies_in l)) (sym f.1)
          ∙ (ap (from s) (copies_pushes windows (sent_to v u)) ∙ none_before s (sent_to v u) windows (λ j low. none_sent v u s j lv low other)))))

      -- a sender pushes no copies from motes of other workers
      part_none : (j : ℕ) → ((v : ℕ) → v < workers → v ≢ u → (a : SenderView) → all.sender u v ≡ Some a → a.state.number ≡ j → is_own owners v s ≡ false) → from s (copies_in (part j ((all.histories u).taken k))) ≡ []
      part_none j other = of_case (cases_lt j (all.made u))
        where
          of_case : (j < all.made u) ⊎ (all.made u ≤ j) → from s (copies_in (part j ((all.histories u).taken k))) ≡ []
          of_case (inl low) =
              let are = all.are_senders u lu in
              let long = are.made_is in
              let a = there (all.senders u) j (omega arith) in
              let w = are.worker_of j a.0 a.1 in
              let number = numbered_at (all.senders u) are.numbered j a.0 a.1 in
              let same = sym ((pair u w.0 lu w.1 w.2).only a.0 w.3) ∙ number in
              subst (λ i. from s (copies_in (part i ((all.histories u).taken k))) ≡ []) same (none_of_pair w.0 w.1 w.2 (other w.0 w.1 w.2 a.0 w.3 number))
          of_case (inr high) =
              let more = part_begins n owners width windows workers u (all.made u) (all.taken u) (λ w. pushed_list (all.sender w u)) (all.histories u) (all.ran u lu) k le j in
              ap (λ l. from s (copies_in l)) (first_none (part j ((all.histories u).taken k)) more.0 (sym more.1 ∙ (all.ran u lu).of_made j high))

      pub copies_from : (v : ℕ) (lv : v < workers) (ne : v ≢ u) → slice_get owners s ≡ Some v → from s (copies_of ((all.histories u).taken k)) ≡ from s (copies_in (part (pair u v lu lv ne).number ((all.histories u).taken k)))
      copies_from v lv ne e = of_one_sender s (pair u v lu lv ne).number ((all.histories u).taken k) (λ j other. part_none j (λ w lw nw a at number.
          not_other owners v w s e (λ same. other (sym number ∙ (pair u v lu lv ne).only a (subst (λ x. all.sender u x ≡ Some a) (sym same) at)))))

      pub copies_none : ((v : ℕ) → v < workers → v ≢ u → is_own owners v s ≡ false) → from s (copies_of ((all.histories u).taken k)) ≡ []
      copies_none none =
          let j : ℕ = all.made u in
          of_one_sender s j ((all.histories u).taken k) (λ i other. part_none i (λ v lv nv a at number. none v lv nv))
          ∙ part_none j (λ v lv nv a at number. none v lv nv)
